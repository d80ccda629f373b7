use Rattle.gypsy_space.{specs.Nodes.seen_program, specs.StatementNeeds.AreFirst}
use Rattle.gypsy_space.proofs.counting.needs_of.Given as goal

abbrev pub invariant-loop-index : goal.invariant-loop-index
invariant-loop-index g l = AreFirst (seen_program l.program) l.index l.procedures.items

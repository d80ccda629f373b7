use Rattle.std.proofs.Common.{drop}
use Rattle.gypsy_space.{specs.Nodes.{seen_program, seen_statements}, specs.StatementNeeds.HasMore}
use Rattle.gypsy_space.proofs.counting.+statements.Given as goal

-- the parts so far, and those that are still to come, need what all of them need
abbrev pub invariant-parts_need-loop-index : goal.invariant-parts_need-loop-index
invariant-parts_need-loop-index l =
    HasMore (seen_program l.program) l.need (seen_statements (drop l.index l.parts.value.items)) (seen_statements l.parts.value.items)

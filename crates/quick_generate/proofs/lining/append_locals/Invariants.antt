use Rattle.std.proofs.Common.{◌≡◌, ◌++◌, drop}
use Rattle.gypsy_space.specs.Nodes.{held_values}
use Rattle.quick_generate.proofs.lining.append_locals.Given as goal

abbrev pub invariant-loop-name : goal.invariant-loop-name
invariant-loop-name g l = held_values l.made.items ++ held_values (drop l.name-index l.locals) ≡ held_values l.fn.made.items ++ held_values l.locals

use Rattle.std.proofs.Common.{◌≡◌, ◌++◌, drop}
use Rattle.gypsy_space.specs.Nodes.{held_shapes}
use Rattle.quick_generate.proofs.lined_main.formals.Given as goal

abbrev pub invariant-loop-name : goal.invariant-loop-name
invariant-loop-name g l = held_shapes l.made.items ++ held_shapes (drop l.name-index l.formals) ≡ held_shapes l.formals

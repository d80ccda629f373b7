use Rattle.std.proofs.Common.{drop}
use Rattle.gypsy_space.specs.Nodes.{held_values}
use Rattle.quick_generate.{specs.Lining.locals_size, proofs.LinedSizeLaws.HasMore}
use Rattle.quick_generate.proofs.measuring.locals_size.Given as goal

-- the size so far, and that of the locals that are still to come, are that of all
abbrev pub invariant-loop-value : goal.invariant-loop-value
invariant-loop-value l = HasMore l.size (locals_size (held_values (drop l.value-index l.locals))) (locals_size (held_values l.locals))

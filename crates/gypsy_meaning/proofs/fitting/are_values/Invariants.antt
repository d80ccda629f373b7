use Rattle.std.proofs.Common.{◌≡◌, map, drop}
use Rattle.gypsy_semantics.specs.Views.Fitting.{are_values}
use Rattle.gypsy_meaning.proofs.fitting.are_values.Given as goal

abbrev pub invariant-loop-shape : goal.invariant-loop-shape
invariant-loop-shape l =
    are_values (map (λ f. f.1) (drop l.shape-index l.formals)) l.rest ≡ are_values (map (λ f. f.1) l.formals) l.values

use Rattle.std.proofs.Common.{◌≡◌, ◌++◌, map, drop}
use Rattle.quick_generate.proofs.frame.local_shapes.Given as goal

abbrev pub invariant-loop-value : goal.invariant-loop-value
invariant-loop-value g l =
    l.shapes.items ++ map (λ v. v.shape) (map (λ v. v.1) (drop l.value-index l.locals)) ≡ l.fn.shapes.items ++ map (λ v. v.shape) (map (λ v. v.1) l.locals)

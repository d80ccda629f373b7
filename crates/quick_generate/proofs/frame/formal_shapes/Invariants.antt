use Rattle.std.proofs.Common.{◌≡◌, ◌++◌, map, drop}
use Rattle.quick_generate.proofs.frame.formal_shapes.Given as goal

abbrev pub invariant-loop-shape : goal.invariant-loop-shape
invariant-loop-shape g l = l.shapes.items ++ map (λ f. f.1) (drop l.shape-index l.formals) ≡ l.fn.shapes.items ++ map (λ f. f.1) l.formals

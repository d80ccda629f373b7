use Rattle.std.proofs.Common.{◌≡◌, ◌++◌, map, drop}
use Rattle.gypsy_codegen.proofs.system.body_names.Given as goal

abbrev pub invariant-loop-body : goal.invariant-loop-body
invariant-loop-body g l = l.names.items ++ map (λ b. b.name.name) (drop l.body-index l.bodies) ≡ l.fn.names.items ++ map (λ b. b.name.name) l.bodies

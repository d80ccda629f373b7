use Rattle.std.proofs.Common.{◌≡◌, map, drop}
use Rattle.gypsy_semantics.specs.Calls.{copied_out}
use Rattle.gypsy_meaning.proofs.activations.hand_back.Given as goal

abbrev pub invariant-loop-place : goal.invariant-loop-place
invariant-loop-place g l =
    (copied_out (drop l.place l.actuals) (drop l.place (map (λ v. v.1) l.callee)) (map (λ v. v.1) l.variables.items) ≡
    copied_out l.actuals (map (λ v. v.1) l.callee) (map (λ v. v.1) l.initial.variables.items)) ×
    (map (λ v. v.0) l.variables.items ≡ map (λ v. v.0) l.initial.variables.items)

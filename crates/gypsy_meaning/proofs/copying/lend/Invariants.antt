use Rattle.std.proofs.Common.{◌≡◌, ◌++◌, map, take, drop}
use Rattle.gypsy_semantics.{specs.Calls.copied_out, proofs.LendingLaws.taken}
use Rattle.gypsy_meaning.proofs.copying.lend.Given as goal

abbrev pub invariant-loop-place : goal.invariant-loop-place
invariant-loop-place l =
    (copied_out (drop l.place l.actuals) (drop l.place (map (λ v. v.1) l.callee.items)) (map (λ v. v.1) l.caller.items) ≡
    copied_out l.fn.actuals (map (λ v. v.1) l.fn.callee.items) (map (λ v. v.1) l.fn.caller.items)) ×
    (take l.place (map (λ v. v.1) l.callee.items) ++ taken (drop l.place l.actuals) (map (λ v. v.1) l.caller.items)
    (drop l.place (map (λ v. v.1) l.callee.items)) ≡
    taken l.fn.actuals (map (λ v. v.1) l.fn.caller.items) (map (λ v. v.1) l.fn.callee.items)) ×
    (map (λ v. v.0) l.caller.items ≡ map (λ v. v.0) l.fn.caller.items) ×
    (map (λ v. v.0) l.callee.items ≡ map (λ v. v.0) l.fn.callee.items)

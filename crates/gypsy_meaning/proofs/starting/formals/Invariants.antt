use Rattle.std.proofs.Common.{◌≡◌, ◌++◌, map, take, drop}
use Rattle.gypsy_meaning.proofs.starting.formals.Given as goal

abbrev pub invariant-loop-place : goal.invariant-loop-place
invariant-loop-place g l =
    (map (λ v. v.1) l.formals.items ++ drop l.place l.values ≡ l.values) × (map (λ v. v.0) l.formals.items ≡ take l.place l.names)

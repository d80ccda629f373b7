use Rattle.std.proofs.Common.{◌≡◌, ◌++◌, map, take, drop}
use Rattle.gypsy_meaning.proofs.copying.append_locals.Given as goal

abbrev pub invariant-loop-place : goal.invariant-loop-place
invariant-loop-place g l =
    (map (λ v. v.1) l.all.items ++ map (λ v. v.1) (drop l.place l.locals) ≡
    map (λ v. v.1) l.initial.all.items ++ map (λ v. v.1) l.locals) ×
    (map (λ v. v.0) l.all.items ≡ map (λ v. v.0) l.initial.all.items ++ take l.place l.names)

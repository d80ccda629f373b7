use Rattle.std.proofs.Common.{◌≡◌, ◌++◌, map, drop}
use Rattle.gypsy_meaning.proofs.copying.unfilled_all.Given as goal

abbrev pub invariant-loop-name : goal.invariant-loop-name
invariant-loop-name g l = map (λ v. v.0) l.all.items ++ drop l.name-index l.names ≡ l.names

use Rattle.std.proofs.Common.{◌≡◌, replicate}
use Rattle.space_cert.proofs.filling.filled.Given as goal

-- one for each round so far
abbrev pub invariant-loop : goal.invariant-loop
invariant-loop g l = l.filled.items ≡ replicate l.counter l.item

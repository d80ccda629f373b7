use Rattle.std.proofs.Common.{◌≡◌, replicate, None}
use Rattle.fm_loader.proofs.judging.nothing_found.Given as goal

-- one for each slot so far
abbrev pub invariant-loop : goal.invariant-loop
invariant-loop g l = l.found.items ≡ replicate l.counter None

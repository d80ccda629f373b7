use Rattle.std.proofs.Common.{◌≡◌, drop}
use Rattle.fm_asm.specs.Cuts.{without_leading_spaces}
use Rattle.fm_asm.proofs.cuts.first_other.Given as goal

-- the bytes so far are spaces
abbrev pub invariant-loop-at : goal.invariant-loop-at
invariant-loop-at l = without_leading_spaces (drop l.at l.bytes) ≡ without_leading_spaces l.bytes

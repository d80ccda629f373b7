use Rattle.std.proofs.Common.{◌≡◌, take}
use Rattle.fm_asm.specs.Cuts.{without_trailing}
use Rattle.fm_asm.proofs.assembling.used.Given as goal

-- the words so far, up to the last that isn't zero
abbrev pub invariant-loop-at : goal.invariant-loop-at
invariant-loop-at l = take l.used l.words ≡ without_trailing 0 (take l.at l.words)

use Rattle.std.proofs.Common.{◌≡◌, ◌≤◌, take}
use Rattle.fm_asm.specs.Cuts.{without_trailing}
use Rattle.fm_asm.proofs.cuts.used.Given as goal

-- the bytes so far, up to the last that is no space
abbrev pub invariant-loop-at : goal.invariant-loop-at
invariant-loop-at l = record {
  so_far : take l.used l.bytes ≡ without_trailing 32 (take l.at l.bytes);
  within : l.used ≤ l.at;
}

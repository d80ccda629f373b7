use Rattle.std.proofs.Common.{◌≡◌, take}
use Rattle.piton_linker.specs.Layouts.{trimmed}
use Rattle.quick_generate.proofs.window.used.Given as goal

-- the words so far, up to the last that isn't zero
abbrev pub invariant-loop-at : goal.invariant-loop-at
invariant-loop-at l = take l.used l.words ≡ trimmed (take l.at l.words)

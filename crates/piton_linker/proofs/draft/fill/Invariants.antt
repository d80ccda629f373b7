use Rattle.std.proofs.Common.{◌≡◌, take}
use Rattle.piton_check.specs.Instruction.{system_view}
use Rattle.piton_semantics.specs.Placed.{addresses_of}
use Rattle.piton_linker.specs.Drafts.{filled}
use Rattle.piton_linker.proofs.draft.fill.Given as goal

-- the fix-ups so far are filled
abbrev pub invariant-loop-fixup : goal.invariant-loop-fixup
invariant-loop-fixup l = l.words.items ≡ filled (addresses_of (system_view l.checked)) l.fn.words.items (take l.fixup-index l.fixups)

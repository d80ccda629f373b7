use Rattle.std.proofs.Common.{◌≡◌, ◌++◌, take}
use Rattle.piton_check.specs.Instruction.{system_view}
use Rattle.piton_semantics.{specs.Addresses.numbers, specs.Placed.addresses_of}
use Rattle.piton_linker.proofs.data.append_words.Given as goal

-- the numbers so far
abbrev pub invariant-loop-item : goal.invariant-loop-item
invariant-loop-item g l = l.words.items ≡ l.fn.words.items ++ numbers (addresses_of (system_view l.checked)) (take l.item-index l.items)

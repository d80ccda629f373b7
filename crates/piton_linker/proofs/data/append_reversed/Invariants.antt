use Rattle.std.proofs.Common.{◌≡◌, ◌++◌, take, reverse}
use Rattle.piton_check.specs.Instruction.{system_view}
use Rattle.piton_semantics.{specs.Addresses.numbers, specs.Placed.addresses_of}
use Rattle.piton_linker.proofs.data.append_reversed.Given as goal

-- the numbers so far
abbrev pub invariant-loop-done : goal.invariant-loop-done
invariant-loop-done g l = l.words.items ≡ l.fn.words.items ++ numbers (addresses_of (system_view l.checked)) (take l.done (reverse l.items))

use Rattle.std.{proofs.Common.{◌≡◌, ◌++◌, drop}, specs.List.flat_map}
use Rattle.fm_image.specs.Spelling.{slot_bytes}
use Rattle.fm_image.proofs.writing.push_slots.Given as goal

-- the bytes so far and those of what is left are those of all
abbrev pub invariant-loop-slot : goal.invariant-loop-slot
invariant-loop-slot g l = l.bytes.items ++ flat_map slot_bytes (drop l.slot-index l.slots) ≡ l.initial.bytes.items ++ flat_map slot_bytes l.slots

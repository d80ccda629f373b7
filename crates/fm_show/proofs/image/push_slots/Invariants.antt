use Rattle.std.{proofs.Common.{◌≡◌, ◌++◌, drop}, specs.List.flat_map}
use Rattle.fm_show.specs.ImageListing.{slot_line}
use Rattle.fm_show.proofs.image.push_slots.Given as goal

-- the lines so far and those of what is left are those of all
abbrev pub invariant-loop-slot : goal.invariant-loop-slot
invariant-loop-slot g l = l.text.items ++ flat_map slot_line (drop l.slot-index l.slots) ≡ l.initial.text.items ++ flat_map slot_line l.slots

use Rattle.std.proofs.Common.{◌≡◌, ◌-◌, [], map}
use Rattle.fm_image.{specs.Fields.items_at, specs.Reading.slot_at}
use Rattle.fm_image.proofs.reading.slots.Given as goal

-- what was read and what is still read are what all reads, and the list has the names of what was read
abbrev pub invariant-loop : goal.invariant-loop
invariant-loop g l = record {
  read : items_at (λ earlier. slot_at l.end l.window (map (λ slot. slot.name) earlier)) (l.count - l.counter) l.slots.items l.rest
      ≡ items_at (λ earlier. slot_at l.end l.window (map (λ slot. slot.name) earlier)) l.count [] l.initial.rest;
  known : l.names ≡ map (λ slot. slot.name) l.slots.items;
}

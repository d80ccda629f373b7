use Rattle.std.proofs.Common.{◌≡◌, ◌-◌, []}
use Rattle.fm_image.{specs.Fields.items_at, specs.Reading.new_name_at}
use Rattle.fm_image.proofs.reading.conditions.Given as goal

-- what was read and what is still read are what all reads, and the list has the names of what was read
abbrev pub invariant-loop : goal.invariant-loop
invariant-loop g l = record {
  read : items_at (new_name_at l.end) (l.count - l.counter) l.conditions.items l.rest ≡ items_at (new_name_at l.end) l.count [] l.initial.rest;
  known : l.names ≡ l.conditions.items;
}

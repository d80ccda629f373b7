use Rattle.std.proofs.Common.{◌≡◌, ◌-◌, [], map}
use Rattle.fm_image.{specs.Fields.items_at, specs.Reading.procedure_at}
use Rattle.fm_image.proofs.reading.procedures.Given as goal

-- what was read and what is still read are what all reads, and the list has the names of what was read
abbrev pub invariant-loop : goal.invariant-loop
invariant-loop g l = record {
  read : items_at (λ earlier. procedure_at l.end (map (λ procedure. procedure.name) earlier)) (l.count - l.counter) l.procedures.items l.rest
      ≡ items_at (λ earlier. procedure_at l.end (map (λ procedure. procedure.name) earlier)) l.count [] l.initial.rest;
  known : l.names ≡ map (λ procedure. procedure.name) l.procedures.items;
}

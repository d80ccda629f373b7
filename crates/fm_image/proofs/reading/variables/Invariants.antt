use Rattle.std.proofs.Common.{◌≡◌, ◌-◌, [], map}
use Rattle.fm_image.{specs.Fields.items_at, specs.Reading.variable_at}
use Rattle.fm_image.proofs.reading.variables.Given as goal

-- what was read and what is still read are what all reads, and the list has the names of what was read
abbrev pub invariant-loop : goal.invariant-loop
invariant-loop g l = record {
  read : items_at (λ earlier. variable_at l.end (map (λ variable. variable.name) earlier)) (l.count - l.counter) l.variables.items l.rest
      ≡ items_at (λ earlier. variable_at l.end (map (λ variable. variable.name) earlier)) l.count [] l.initial.rest;
  known : l.names ≡ map (λ variable. variable.name) l.variables.items;
}

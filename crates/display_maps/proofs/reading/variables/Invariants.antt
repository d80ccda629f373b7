use Rattle.std.proofs.Common.{◌≡◌, ◌++◌, drop, map}
use Rattle.display_maps.specs.Reading.{variable_of}
use Rattle.display_maps.proofs.reading.variables.Given as goal

-- the variables so far and those of what is left are all
abbrev pub invariant-loop-slot : goal.invariant-loop-slot
invariant-loop-slot g l =
    map (λ item. (item.0, item.1.items)) l.variables.items ++ map (variable_of l.machine.state) (drop l.slot-index l.slots)
    ≡ map (variable_of l.machine.state) l.slots

use Rattle.std.proofs.Common.{◌≡◌, ◌++◌, drop, map}
use Rattle.level_debuggers.specs.PitonReadings.{variable_at}
use Rattle.level_debuggers.proofs.piton_reading.variables.Given as goal

-- the variables so far and those of what is left are all
abbrev pub invariant-loop-slot : goal.invariant-loop-slot
invariant-loop-slot g l =
    map (λ item. (item.0, item.1.items)) l.variables.items ++ map (variable_at l.above l.elements) (drop l.slot-index l.slots)
    ≡ map (variable_at l.above l.elements) l.slots

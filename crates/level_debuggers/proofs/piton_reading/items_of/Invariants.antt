use Rattle.std.proofs.Common.{◌≡◌, ◌++◌, ◌-◌, map}
use Rattle.stack_text.specs.Values.{item_count}
use Rattle.display_maps.specs.Reading.{item_of}
use Rattle.level_debuggers.specs.PitonReadings.{elements_down}
use Rattle.level_debuggers.proofs.piton_reading.items_of.Given as goal

-- the items so far and those of what is left are those of the whole variable
abbrev pub invariant-loop : goal.invariant-loop
invariant-loop g l =
    l.items.items ++ map (item_of l.slot.shape.kind) (elements_down l.above l.elements l.address (item_count l.slot.shape - l.counter))
    ≡ map (item_of l.slot.shape.kind) (elements_down l.above l.elements l.slot.address (item_count l.slot.shape))

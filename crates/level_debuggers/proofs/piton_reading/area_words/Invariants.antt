use Rattle.std.{proofs.Common.{◌≡◌, ◌++◌, drop}, specs.List.flat_map}
use Rattle.level_debuggers.specs.PitonReadings.{area_words}
use Rattle.level_debuggers.proofs.piton_reading.area_words.Given as goal

-- the words so far and those of the areas that are left are all
abbrev pub invariant-loop-area : goal.invariant-loop-area
invariant-loop-area g l = l.words.items ++ flat_map (λ ws. ws) (drop l.area l.state.state.areas) ≡ area_words l.state.state

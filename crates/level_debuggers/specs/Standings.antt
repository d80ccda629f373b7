-- Where a state stands, as the code reads it.
use Rattle.fm_machine.specs.State.{word_at}
use Rattle.display_maps.specs.ReadingAt.{StandingOf}
use Rattle.piton_semantics.specs.{Fits.{system_in}, Placed.{areas_start}}
use Rattle.level_debuggers.specs.{declared.piton_standing.PitonAt.{PitonAt}, PitonReadings.{piton_at}}

-- what clauses see of a `PitonAt`: the run's standing, with the words of the areas as they are listed
abbrev pub standing_of : PitonAt → StandingOf
standing_of p =
    let s = system_in p.level.now.checked in
    let at = piton_at s p.level.now.seen.state in
    record at { word = word_at (areas_start s) p.areas.items }

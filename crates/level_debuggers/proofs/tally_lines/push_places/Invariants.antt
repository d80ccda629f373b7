use Rattle.std.proofs.Common.{◌≡◌, ◌++◌, drop}
use Rattle.level_debuggers.specs.Transcripts.{places_said}
use Rattle.level_debuggers.proofs.tally_lines.push_places.Given as goal

abbrev pub invariant-loop-place : goal.invariant-loop-place
invariant-loop-place g l =
    l.text.items ++ places_said (drop l.place-index l.places)
    ≡ l.initial.text.items ++ places_said l.places

-- Runs at each level.
use Rattle.std.specs.{Prelude.{ℕ, ◌≤◌, List, Option, Some, None, Bool, true, false}, List.{list_all, list_any}}
use Rattle.debug_script.specs.declared.command.Place.{Place}
use Rattle.debug_script.specs.declared.command.Place.TheVariants as place
use Rattle.fm_words.specs.WindowLimit.{most_window}
use Rattle.fm_show.specs.Listing.{machine_listing}
use Rattle.gypsy_syntax.specs.Views.SourceView.{source_of}
use Rattle.gypsy_meaning.specs.{Views.Belongs.{BelongsTo}, Views.Running.{seen}}
use Rattle.piton_semantics.specs.{Fits.{system_in}, Placed.{placed}, StateView.{IsSeen}}
use Rattle.piton_check.specs.NamedWords.{program_name_at}
use Rattle.level_debuggers.specs.{declared.runner.Runner.{Runner}, Steps.{Next, Over, Stops, Makes}, GypsyLevels.{GypsyLevelOf}}
use Rattle.level_debuggers.specs.GypsyLevels.{gypsy_listing, gypsy_listing_all, gypsy_next, gypsy_stands, gypsy_up, gypsy_within}
use Rattle.level_debuggers.specs.PitonLevels.{PitonLevelOf, piton_listing, piton_listing_all, piton_next, piton_stands, piton_within}
use Rattle.level_debuggers.specs.{PitonReadings.{piton_up}, FmLevels.{FmLevelOf, fm_next, fm_stands, fm_up, word_lines}}
use Rattle.level_debuggers.specs.declared.runner.Runner.TheVariants as runner

-- a run at one of the levels
pub data LevelOf : Type 0 where
  Gypsy : (run : GypsyLevelOf) → LevelOf
  Piton : (run : PitonLevelOf) → LevelOf
  Fm : (run : FmLevelOf) → LevelOf

-- The parts of a runner belong together: the needs are the source's, and the meaning is a run of it; the state is one of a run
-- of the system, which has a place in memory.
abbrev pub IsRunner : Runner → Type 0
IsRunner (runner.Gypsy accepted needs meaning) = BelongsTo (source_of accepted) needs.procedures.items meaning
IsRunner (runner.Piton checked image state) = IsSeen (system_in checked) state × ((placed (system_in checked)).size ≤ most_window)
IsRunner (runner.Fm image machine) = Unit {0}

-- the run that a runner begins with
abbrev pub level_of : Runner → LevelOf
level_of (runner.Gypsy accepted needs meaning) = Gypsy record { source = source_of accepted; seen = seen meaning }
level_of (runner.Piton checked image state) = Piton record { checked = checked; image = image; seen = state }
level_of (runner.Fm image machine) = Fm record { image = image; state = machine.state }

-- the same step, seen at another level
abbrev pub lifted : {R S : Type 0} → (R → S) → Next R → Next S
lifted up Over = Over
lifted up (Stops stop) = Stops stop
lifted up (Makes event after) = Makes event (up after)

-- how a run goes on
abbrev pub next_of : LevelOf → Next LevelOf
next_of (Gypsy run) = lifted Gypsy (gypsy_next run)
next_of (Piton run) = lifted Piton (piton_next run)
next_of (Fm run) = lifted Fm (fm_next run)

-- the name of the program at a position, of a run that has programs
abbrev pub program_named : LevelOf → ℕ → Option (List ℕ)
program_named (Piton run) program = Some (program_name_at run.checked.system program)
program_named level program = None

-- what is shown of a run, after so many steps of its session
abbrev pub show_text : LevelOf → ℕ → List ℕ
show_text (Gypsy run) steps = gypsy_listing run
show_text (Piton run) steps = piton_listing run.checked.system run.seen.state
show_text (Fm run) steps = machine_listing run.state steps

-- that, and what is shown of all that wait for a call, of a run that keeps them
abbrev pub all_text : LevelOf → Option (List ℕ)
all_text (Gypsy run) = Some (gypsy_listing_all run)
all_text (Piton run) = Some (piton_listing_all run.checked.system run.seen.state)
all_text (Fm run) = None

-- what is known of the variables of the source
abbrev pub up_text : LevelOf → List ℕ
up_text (Gypsy run) = gypsy_up
up_text (Piton run) = piton_up run
up_text (Fm run) = fm_up run

-- so many words of memory from an address on, in a run that has one
abbrev pub words_text : LevelOf → ℕ → ℕ → Option (List ℕ)
words_text (Fm run) address count = Some (word_lines run.state address count)
words_text level address count = None

-- whether runs of a level stand at such places: those of Piton at instructions, the others at numbers; the processor has no depth
abbrev pub has_places : LevelOf → Place → Bool
has_places (Piton run) (place.Instruction program number) = true
has_places (Gypsy run) (place.Number number) = true
has_places (Fm run) (place.Number number) = true
has_places (Gypsy run) (place.Depth most) = true
has_places (Piton run) (place.Depth most) = true
has_places level there = false

-- whether a run stands at a place
abbrev pub stands_at : Place → LevelOf → Bool
stands_at (place.Instruction program number) (Piton run) = piton_stands run program number
stands_at (place.Number number) (Gypsy run) = gypsy_stands run number
stands_at (place.Number number) (Fm run) = fm_stands run number
stands_at (place.Depth most) (Gypsy run) = gypsy_within run most
stands_at (place.Depth most) (Piton run) = piton_within run most
stands_at there level = false

-- of several places
abbrev pub has_all : LevelOf → List Place → Bool
has_all level places = list_all (has_places level) places

abbrev pub stands_at_one : List Place → LevelOf → Bool
stands_at_one places level = list_any (λ there. stands_at there level) places

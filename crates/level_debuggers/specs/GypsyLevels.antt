-- Runs of a source.
use Rattle.std.specs.{Prelude.{ℕ, List, [], ◌++◌, ◌==◌, ◌&&◌, not, nat_le, Bool, if◌then◌else◌, codes, get_or}, Fmt.{decimal}}
use Rattle.std.specs.List.{flat_map}
use Rattle.stack_text.specs.{Lines.{line}, Values.{ValueOf}}
use Rattle.display_maps.specs.{Report.{variable_line}, Running.{run_lines, variables_shown}}
use Rattle.gypsy_syntax.specs.{Resolved.{procedure_names}, Sources.{SourceOf}}
use Rattle.gypsy_meaning.specs.Views.Stacks.{ActivationOf, waiting_at}
use Rattle.gypsy_semantics.specs.{Views.RunView.{Seen, left_of, is_over, place_at, depth_at, values_at}, Views.Shown.{condition_at}}
use Rattle.gypsy_semantics.specs.Views.Shown.{names_at, variables_at}
use Rattle.level_debuggers.specs.{declared.watch.Event.{Event}, Steps.{Next, Over, Makes}}

-- a source, and a run of it
pub record GypsyLevelOf : Type 0 where
  pub source : SourceOf
  pub seen : Seen

abbrev pub gypsy_event : Seen → Event
gypsy_event v = record {
  place = place_at v.program v.stage;
  depth = depth_at v.stage;
  cost = (left_of v).cost;
}

abbrev pub gypsy_made : GypsyLevelOf → Next GypsyLevelOf
gypsy_made level = Makes (gypsy_event level.seen) (record level { seen = left_of level.seen })

abbrev pub gypsy_over : GypsyLevelOf → Bool
gypsy_over level = is_over level.seen.stage

-- over where main has ended; or else the item on top
abbrev pub gypsy_next : GypsyLevelOf → Next GypsyLevelOf
gypsy_next level = if gypsy_over level then Over else gypsy_made level

-- main hasn't ended, and this is the byte of the item on top
abbrev pub gypsy_stands : GypsyLevelOf → ℕ → Bool
gypsy_stands level number = not (gypsy_over level) && place_at level.seen.program level.seen.stage == number

-- main hasn't ended, and there are at most so many activations
abbrev pub gypsy_within : GypsyLevelOf → ℕ → Bool
gypsy_within level most = not (gypsy_over level) && nat_le (depth_at level.seen.stage) most

-- ---- what is shown

-- `at 48 depth 1`, or `ended`
abbrev pub gypsy_place_line : GypsyLevelOf → List ℕ
gypsy_place_line level =
    if gypsy_over level then codes "ended\n"
    else line (codes "at " ++ decimal (place_at level.seen.program level.seen.stage)
    ++ codes " depth " ++ decimal (depth_at level.seen.stage))

-- the place, the condition, and the variables of the active procedure
abbrev pub gypsy_listing : GypsyLevelOf → List ℕ
gypsy_listing level =
    let stage = level.seen.stage in
    gypsy_place_line level ++ run_lines (condition_at level.source stage) (names_at level.source stage) (values_at stage)

-- `in fact`
abbrev pub in_line : List ℕ → List ℕ
in_line name = line (codes "in " ++ name)

-- an activation of a procedure, with variables of these names and values
abbrev pub activation_lines : SourceOf → ℕ → List (List ℕ) → List ValueOf → List ℕ
activation_lines s procedure names values =
    in_line (get_or (procedure_names s) procedure []) ++ flat_map variable_line (variables_shown names values)

-- one that waits
abbrev pub waiting_lines : SourceOf → ActivationOf → List ℕ
waiting_lines s a = activation_lines s a.procedure (variables_at s a.procedure) a.values

-- the same as for the active one, and all that wait, the one that goes on first at the front
abbrev pub gypsy_listing_all : GypsyLevelOf → List ℕ
gypsy_listing_all level =
    gypsy_listing level ++ flat_map (waiting_lines level.source) (waiting_at level.seen.stage)

abbrev pub gypsy_up : List ℕ
gypsy_up = codes "top\n"

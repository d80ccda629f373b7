-- What a run of a source on values tells, where both are texts.
use Rattle.std.specs.Prelude.{◌≡◌, ◌≤◌, ◌<◌, ◌^◌, ℕ, List, length, Result, Ok, IfOk}
use Rattle.stack_text.specs.{Results.{◌>>=◌}, Values.{ValueOf}}
use Rattle.fm_loader.specs.Values.{values_in}
use Rattle.display_maps.specs.{declared.ending.Ending.{Ending}, declared.ending.Ending.TheVariants.{Finished, Unfinished, Outside}}
use Rattle.display_maps.specs.{Endings.{run_with}, Reading.{ReadingOf}}
use Rattle.gypsy_syntax.specs.Sources.{SourceOf}
use Rattle.gypsy_space.specs.Needs.{StackSizes, stack_sizes}
use Rattle.gypsy_semantics.specs.Calls.{CurrentCondition}
use Rattle.stack_build.specs.{declared.start_fault.StartFault.{StartFault}, Build.{accepted_source, built}, Image.{formal_slots}}
use Rattle.stack_build.specs.{Implements.{meaning_shown, FitsFormals, Finishes}, Starts.{or_build, or_values}}

-- how a run of what is built of a text ends, on the values of a second text; or why there is none
unfoldable pub source_run : List ℕ → StackSizes → List ℕ → ℕ → Result Ending StartFault
source_run text sizes values_text budget =
    or_build (built text sizes.ctrl sizes.temp 0)
    >>= λ built. or_values (values_in built.image.slots values_text) >>= λ values. Ok (run_with built.image values budget)

-- the source in a text, and the values that a second text gives its main's formals
pub record SourceOnValues (text values_text : List ℕ) : Type 0 where
  pub source : SourceOf
  pub read : accepted_source text ≡ Ok source
  pub values : List ValueOf
  pub given : values_in (formal_slots source) values_text ≡ Ok values
  pub fits : FitsFormals source values

-- its meaning on them is done, after exactly so many counted instructions, and the reading shows it
pub record TellsDone (text : List ℕ) (sizes : StackSizes) (values_text : List ℕ) (budget count : ℕ) (reading : ReadingOf) : Type 0 where
  pub on : SourceOnValues text values_text
  pub finals : List ValueOf
  pub way : CurrentCondition
  pub finishes : Finishes on.source sizes on.values finals way count
  pub within : count ≤ budget
  pub reads : reading ≡ meaning_shown on.source finals way

-- its meaning on them isn't done within the budget
pub record TellsNotDone (text : List ℕ) (sizes : StackSizes) (values_text : List ℕ) (budget : ℕ) : Type 0 where
  pub on : SourceOnValues text values_text
  pub beyond : (finals : List ValueOf) (way : CurrentCondition) (count : ℕ)
      → Finishes on.source sizes on.values finals way count → budget < count

-- what is told of the run is what the source means, and no run needs an address outside its window
abbrev pub TellsMeaning : List ℕ → StackSizes → List ℕ → ℕ → Ending → Type 0
TellsMeaning text sizes values_text budget (Finished count reading) = TellsDone text sizes values_text budget count reading
TellsMeaning text sizes values_text budget Unfinished = TellsNotDone text sizes values_text budget
TellsMeaning text sizes values_text budget (Outside address count) = ⊥

-- so it is of all texts, sizes and budgets
abbrev pub SourceRunsTellMeaning : Type 0
SourceRunsTellMeaning = (text : List ℕ) (ctrl temp : ℕ) (values_text : List ℕ) (budget : ℕ) → length text ≤ 2 ^ 31 →
    IfOk (source_run text (stack_sizes ctrl temp) values_text budget) (TellsMeaning text (stack_sizes ctrl temp) values_text budget)

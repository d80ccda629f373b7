-- What it is for an image to do what a source means.
use Rattle.std.specs.{Prelude.{◌≡◌, ℕ, List, [], map, get_or, Some, None}, List.{zip}}
use Rattle.stack_text.specs.Values.{ValueOf}
use Rattle.fm_image.specs.Image.{ImageOf}
use Rattle.display_maps.specs.{declared.shown.Shown.{Shown}, Reading.{ReadingOf, space_name}, ValueReading.{value_shown}}
use Rattle.display_maps.specs.declared.shown.Shown.TheVariants as shown
use Rattle.gypsy_syntax.specs.{Sources.{SourceOf}, Programs.{Leave, Routine, Space, Declared, proc_at}, Resolved.{program_of}}
use Rattle.gypsy_syntax.specs.ValuesFit.{VarsFit}
use Rattle.gypsy_space.specs.Needs.{StackSizes}
use Rattle.gypsy_semantics.specs.{Calls.{CurrentCondition}, Meaning.{Done, meaning}, Counted.{instruction_count}}
use Rattle.stack_build.specs.{Formals.{shown_names, formal_conditions}, ComesTo.{ComesTo}}

-- what a run ends with, as the word of its number is read: spaceerror has its name, and each declared condition its own among these
abbrev pub way_shown : List (List ℕ) → CurrentCondition → Shown
way_shown names None = shown.Normal
way_shown names (Some Leave) = shown.Leave
way_shown names (Some Routine) = shown.Routine
way_shown names (Some Space) = shown.Named space_name
way_shown names (Some (Declared i)) = shown.Named (get_or names i [])

-- a formal with its value, as memory is read
abbrev pub variable_shown : List ℕ × ValueOf → List ℕ × List Shown
variable_shown variable = (variable.0, value_shown variable.1)

-- main's formals with these values, and what the run ended with, as memory is read
abbrev pub meaning_shown : SourceOf → List ValueOf → CurrentCondition → ReadingOf
meaning_shown source values way =
    record { condition = Some (way_shown (formal_conditions source) way); items = map variable_shown (zip (shown_names source) values) }

-- a value of its type for each formal of main
abbrev pub FitsFormals : SourceOf → List ValueOf → Type 0
FitsFormals source values = let q = program_of source in VarsFit (proc_at q q.main).formals values

-- The meaning of the source on these values, with stacks of these sizes, is done within some bound, with these values of main's
-- formals, with this condition, and after so many counted instructions.
pub record Finishes (source : SourceOf) (sizes : StackSizes) (values finals : List ValueOf) (way : CurrentCondition)
    (count : ℕ) : Type 0 where
  pub bound : ℕ
  pub done : meaning (program_of source) sizes values bound ≡ Done finals way
  pub counted : instruction_count (program_of source) sizes values bound ≡ Some count

-- The image implements the source, for stacks of these sizes: on all values that fit main's formals, where the meaning is done, the
-- loaded machine comes to the end after exactly the counted instructions, and memory shows the meaning there.
abbrev pub Implements : ImageOf → SourceOf → StackSizes → Type 0
Implements image source sizes =
    (values finals : List ValueOf) (way : CurrentCondition) (count : ℕ) → FitsFormals source values →
    Finishes source sizes values finals way count → ComesTo image values count (meaning_shown source finals way)

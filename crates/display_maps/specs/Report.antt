-- A reading as text.
use Rattle.std.specs.{Prelude.{ℕ, List, [], ◌∷◌, ◌++◌, Option, Some, None, true, false, ◌==◌, if◌then◌else◌, codes}, Fmt.{decimal}}
use Rattle.std.specs.{Fmt.{signed_decimal}, List.{flat_map}}
use Rattle.stack_text.specs.{declared.shape.Shape.{Shape}, Lines.{line}}
use Rattle.fm_image.specs.{declared.slot.Slot.{Slot}, Image.{ImageOf}}
use Rattle.display_maps.specs.{declared.shown.Shown.{Shown}, declared.shown.Shown.TheVariants.{Normal, Routine, Leave, Named, Number}}
use Rattle.display_maps.specs.{declared.shown.Shown.TheVariants.{Truth, Code, Odd}, Reading.{ReadingOf}}

-- a condition's word or name; `-7`, `true`, `#65`; `?9` for a word that is none of these
unfoldable pub shown_text : Shown → List ℕ
shown_text Normal = codes "normal"
shown_text Routine = codes "routineerror"
shown_text Leave = codes "leave"
shown_text (Named name) = name
shown_text (Number number) = signed_decimal number
shown_text (Truth true) = codes "true"
shown_text (Truth false) = codes "false"
shown_text (Code code) = codes "#" ++ decimal code
shown_text (Odd word) = codes "?" ++ decimal word

-- each with a space before it
abbrev pub spaced : List Shown → List ℕ
spaced [] = []
spaced (item ∷ items) = codes " " ++ shown_text item ++ spaced items

-- with spaces between
unfoldable pub items_text : List Shown → List ℕ
items_text [] = []
items_text (item ∷ items) = shown_text item ++ spaced items

-- in parentheses for an array
abbrev pub value_text : Shape → List Shown → List ℕ
value_text shape items = if shape.length == 0 then items_text items else codes "(" ++ items_text items ++ codes ")"

-- what the line of a variable says: its name, its shape and its items
pub record VariableOf : Type 0 where
  pub name : List ℕ
  pub shape : Shape
  pub items : List Shown

-- `x = 7`
abbrev pub variable_line : VariableOf → List ℕ
variable_line variable = line (variable.name ++ codes " = " ++ value_text variable.shape variable.items)

-- `condition normal`, and nothing where there is no condition
abbrev pub condition_line : Option Shown → List ℕ
condition_line None = []
condition_line (Some condition) = line (codes "condition " ++ shown_text condition)

-- the condition, where there is one, and the variables, each on its line
abbrev pub reading_lines : Option Shown → List VariableOf → List ℕ
reading_lines condition variables = condition_line condition ++ flat_map variable_line variables

-- the variables of a reading, each with the shape of its slot
unfoldable pub shaped : List Slot → List (List ℕ × List Shown) → List VariableOf
shaped [] read = []
shaped (slot ∷ slots) [] = []
shaped (slot ∷ slots) (first ∷ others) = record { name = first.0; shape = slot.shape; items = first.1 } ∷ shaped slots others

-- the lines of a reading of an image
abbrev pub lines_of_reading : ImageOf → ReadingOf → List ℕ
lines_of_reading image read = reading_lines read.condition (shaped image.slots read.items)

-- the number of instructions, and the lines of a reading of the image
abbrev pub report_text : ImageOf → ReadingOf → ℕ → List ℕ
report_text image read count = line (codes "finished " ++ decimal count) ++ lines_of_reading image read

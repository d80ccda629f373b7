-- Conditions and variables of a run of a source as lines.
use Rattle.std.specs.{Prelude.{ℕ, List, [], ◌∷◌, ◌++◌, map, Some}, List.{flat_map}}
use Rattle.stack_text.specs.Values.{ValueOf}
use Rattle.fm_words.specs.Word.{word_of_int}
use Rattle.gypsy_semantics.specs.declared.conditions.Current.{Current}
use Rattle.gypsy_semantics.specs.declared.conditions.Current.TheVariants as current
use Rattle.display_maps.specs.{declared.shown.Shown.{Shown}, Reading.{item_of, space_name}, Report.{VariableOf, condition_line}}
use Rattle.display_maps.specs.Report.{variable_line}
use Rattle.display_maps.specs.declared.shown.Shown.TheVariants as shown

-- a condition, and the items of a value, as memory that has them is read
abbrev pub condition_shown : Current → Shown
condition_shown current.Normal = shown.Normal
condition_shown current.Routine = shown.Routine
condition_shown current.Leave = shown.Leave
condition_shown current.Space = shown.Named space_name
condition_shown (current.Named name) = shown.Named name

abbrev pub items_shown : ValueOf → List Shown
items_shown value = map (λ item. item_of value.shape.kind (word_of_int item)) value.items

abbrev pub variable_shown : List ℕ → ValueOf → VariableOf
variable_shown name value = record { name = name; shape = value.shape; items = items_shown value }

-- variables by their names and their values
unfoldable pub variables_shown : List (List ℕ) → List ValueOf → List VariableOf
variables_shown [] values = []
variables_shown (name ∷ names) [] = []
variables_shown (name ∷ names) (value ∷ values) = variable_shown name value ∷ variables_shown names values

-- the condition, and the variables, each on its line
abbrev pub run_lines : Current → List (List ℕ) → List ValueOf → List ℕ
run_lines condition names values =
    condition_line (Some (condition_shown condition)) ++ flat_map variable_line (variables_shown names values)

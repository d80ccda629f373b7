-- The names of procedures, as the code keeps them.
use Rattle.std.specs.Prelude.{ℕ, List, [], map, get_or, Option, Some, None}
use Rattle.gypsy_syntax.specs.{Sources.{ProcOf}, Resolved.{condition_names, variable_names}}
use Rattle.gypsy_semantics.specs.declared.conditions.Current.{Current}
use Rattle.gypsy_semantics.specs.declared.conditions.Current.TheVariants as current
use Rattle.gypsy_meaning.specs.{declared.names.Names.{Names}, declared.names.Unnamed.{Unnamed}}

-- the names of variables, and conditions as they are shown
pub record NamesOf : Type 0 where
  pub variables : List (List ℕ)
  pub conditions : List Current

abbrev pub shown_names : List (List ℕ) → List Current
shown_names names = map current.Named names

abbrev pub seen_names : Names → NamesOf
seen_names n = record { variables = n.variables.items; conditions = n.conditions.items }

abbrev pub proc_names : ProcOf → NamesOf
proc_names p = record { variables = variable_names p; conditions = shown_names (condition_names p) }

-- the names of a procedure's variables
abbrev pub variables_of : List Names → ℕ → List (List ℕ)
variables_of names p = get_or (map (λ n. n.variables.items) names) p []

abbrev pub conditions_of : List Names → ℕ → List Current
conditions_of names p = get_or (map (λ n. n.conditions.items) names) p []

-- each condition that is raised is there
abbrev pub current_or : Current → Option Current → Current
current_or other None = other
current_or other (Some c) = c

abbrev pub unnamed : Unnamed
unnamed = record { normal = current.Normal; routine = current.Routine; leave = current.Leave; space = current.Space }

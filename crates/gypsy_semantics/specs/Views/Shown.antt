-- The names that are shown: those of the accepted source.
use Rattle.std.specs.Prelude.{ℕ, List, [], map, length, take, get_or, slice_get, Option, Some, None}
use Rattle.gypsy_syntax.specs.{Sources.{SourceOf}, Programs.{Leave, Routine, Space, Declared, proc_at}, Resolved.{condition_names}}
use Rattle.gypsy_syntax.specs.Resolved.{program_of, variable_names}
use Rattle.gypsy_semantics.specs.{Calls.{CurrentCondition}, Views.RunView.{Stage, Running, Finished, procedure_at, way_at}}
use Rattle.gypsy_semantics.specs.declared.conditions.Current.{Current}
use Rattle.gypsy_semantics.specs.declared.conditions.Current.TheVariants as current

-- a condition by its name; each condition that is raised has one
abbrev pub named_or : Option (List ℕ) → Current
named_or None = current.Routine
named_or (Some name) = current.Named name

abbrev pub current_by : List (List ℕ) → CurrentCondition → Current
current_by names None = current.Normal
current_by names (Some Leave) = current.Leave
current_by names (Some Routine) = current.Routine
current_by names (Some Space) = current.Space
current_by names (Some (Declared i)) = named_or (slice_get names i)

-- the names of a procedure's conditions and of its variables
abbrev pub conditions_at : SourceOf → ℕ → List (List ℕ)
conditions_at s p = get_or (map condition_names s.procs) p []

abbrev pub variables_at : SourceOf → ℕ → List (List ℕ)
variables_at s p = get_or (map variable_names s.procs) p []

-- the condition of a stage
abbrev pub condition_at : SourceOf → Stage → Current
condition_at s stage = current_by (conditions_at s (procedure_at (program_of s) stage)) (way_at stage)

-- the names of its variables: the active procedure's, and main's formals at the end
abbrev pub names_at : SourceOf → Stage → List (List ℕ)
names_at s (Running g) = variables_at s (procedure_at (program_of s) (Running g))
names_at s (Finished x c) =
    let q = program_of s in take (length (proc_at q q.main).formals) (variables_at s q.main)

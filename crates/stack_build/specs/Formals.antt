-- What is shown of a source: the formals of its main procedure, spaceerror, and its formal conditions.
use Rattle.std.specs.Prelude.{ℕ, List, [], ◌∷◌, map, Option, Some, None}
use Rattle.display_maps.specs.Reading.{space_name}
use Rattle.gypsy_syntax.specs.{declared.literal.Decl.{Decl}, Sources.{ProcOf, SourceOf}, Resolved.{procedure_named}}

-- the formals of a procedure, and the names of its formal conditions; none where there is no procedure
abbrev pub formals_in : Option ProcOf → List Decl
formals_in None = []
formals_in (Some p) = p.formals

abbrev pub formal_conditions_in : Option ProcOf → List (List ℕ)
formal_conditions_in None = []
formal_conditions_in (Some p) = map (λ n. n.name) p.conds

-- the conditions that an image names: spaceerror, and then these
abbrev pub conditions_in : Option ProcOf → List (List ℕ)
conditions_in p = space_name ∷ formal_conditions_in p

-- the procedure that is run
unfoldable pub main_of : SourceOf → Option ProcOf
main_of s = procedure_named s s.main.name

-- the formals of main, and their names
abbrev pub shown_formals : SourceOf → List Decl
shown_formals s = formals_in (main_of s)

abbrev pub shown_names : SourceOf → List (List ℕ)
shown_names s = map (λ d. d.name.name) (shown_formals s)

-- the names of main's formal conditions, and of the conditions that its image names
abbrev pub formal_conditions : SourceOf → List (List ℕ)
formal_conditions s = formal_conditions_in (main_of s)

abbrev pub shown_conditions : SourceOf → List (List ℕ)
shown_conditions s = conditions_in (main_of s)

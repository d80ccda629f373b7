-- What a source's names are declared as, and names that stand more than once.
use Rattle.std.specs.Prelude.{ℕ, List, [], ◌∷◌, ◌++◌, map, slice_get, Bool, true, false, not, Option, Some, None, is_none}
use Rattle.stack_text.specs.{declared.breach.Breach.{Breach}, declared.name.Named.{Named}, Breaches.{when}, Names.{is_among, place_among}}
use Rattle.gypsy_syntax.specs.{declared.literal.TypeText.{TypeText}, declared.keyword.Keyword.{Keyword}}
use Rattle.gypsy_syntax.specs.{declared.keyword.Keyword.TheVariants.{Predef}, Keywords.{keyword_named}, Resolved.{variable_names}}
use Rattle.gypsy_syntax.specs.{Resolved.{variable_types, condition_names}, Sources.{ProcOf}}

-- the type of the first variable of a name, formals before locals
abbrev pub type_at : List TypeText → Option ℕ → Option TypeText
type_at types None = None
type_at types (Some i) = slice_get types i

abbrev pub type_of : ProcOf → List ℕ → Option TypeText
type_of p name = type_at (variable_types p) (place_among name (variable_names p))

-- a condition of the name is declared, formal or local
abbrev pub is_condition : ProcOf → List ℕ → Bool
is_condition p name = not (is_none (place_among name (condition_names p)))

-- the name is that of a predefined procedure
abbrev pub is_predefined_word : Option Keyword → Bool
is_predefined_word (Some (Predef which)) = true
is_predefined_word _ = false

abbrev pub is_predefined : List ℕ → Bool
is_predefined name = is_predefined_word (keyword_named name)

-- the declared names in order: variables, formals before locals, and conditions, formal before local
abbrev pub variables_of : ProcOf → List Named
variables_of p = map (λ d. d.name) p.formals ++ map (λ l. l.decl.name) p.locals

abbrev pub conditions_of : ProcOf → List Named
conditions_of p = p.conds ++ p.local_conds

-- the rule is broken at each name that stands earlier
abbrev pub repeats : ℕ → List (List ℕ) → List Named → List Breach
repeats rule earlier [] = []
repeats rule earlier (n ∷ ns) = when (is_among n.name earlier) n.place rule ++ repeats rule (n.name ∷ earlier) ns

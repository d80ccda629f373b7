-- Names and their first positions.
use Rattle.std.proofs.Common.{◌≡◌, ℕ, ◌<◌, List, [], ◌∷◌, ◌++◌, map, length, get_or, slice_get, bytes_eq, true, false, true≢false, Option, Some, None, is_none}
use Rattle.std.{proofs.Common.{unwrap_or, refl, ap, sym, ◌∙◌}, proofs.lemmas.List.Quantifiers.position-Some, proofs.lemmas.Slice.Eq.bytes_eq-Decides}
use Rattle.std.proofs.lemmas.Bool.{or_left, or_right}
use Rattle.stack_text.{specs.Names.{is_among, place_among}, specs.declared.name.Named.Named, specs.Breaches.when, proofs.SharedLaws.{rule_fails, append_none}}
use Rattle.stack_text.proofs.SharedLaws.{get_map}
use Rattle.gypsy_syntax.{specs.declared.literal.TypeText.TypeText, specs.Sources.{ProcOf, SourceOf, LocalOf}, specs.declared.literal.Decl.Decl}
use Rattle.gypsy_syntax.specs.Resolved.{position_of, variable_names, variable_types, shape_of, local_value, procedure_of, procedure_at}
use Rattle.gypsy_syntax.{specs.Programs.shapes_of, specs.ProgramFits.{Each, Misses, Distinct}}
use Rattle.gypsy_check.specs.Declarations.{type_at, type_of, repeats}

-- the name is among these
abbrev pub Found : List (List ℕ) → List ℕ → Type 0
Found names name = is_none (place_among name names) ≡ false

at_position : (name : List ℕ) (names : List (List ℕ)) (o : Option ℕ) → place_among name names ≡ o → is_none o ≡ false → (unwrap_or o 0 < length names)
    × (get_or names (unwrap_or o 0) [] ≡ name)
unfolding place_among
at_position name names None e h = cc
at_position name names (Some i) e h =
    let k = position-Some (bytes_eq name) names i [] e in
    (k.0, sym ((bytes_eq-Decides name (get_or names i [])).0 k.1))

pub found_below : (name : List ℕ) (names : List (List ℕ)) → Found names name → position_of name names < length names
found_below name names h = (at_position name names (place_among name names) refl h).0

pub found_name : (name : List ℕ) (names : List (List ℕ)) → Found names name → get_or names (position_of name names) [] ≡ name
found_name name names h = (at_position name names (place_among name names) refl h).1

-- append_none names at one position are one name
pub one_name : (a b : List ℕ) (names : List (List ℕ)) → Found names a → Found names b → position_of a names ≡ position_of b names → a ≡ b
one_name a b names ha hb e = sym (found_name a names ha) ∙ ap (λ i. get_or names i []) e ∙ found_name b names hb

pub eq_self : (a b : List ℕ) → a ≡ b → bytes_eq a b ≡ true
eq_self a b e = (bytes_eq-Decides a b).1 e

-- what is found has a type, or a procedure
pub type_found : (types : List TypeText) (o : Option ℕ) → is_none (type_at types o) ≡ false → is_none o ≡ false
type_found types None e = cc
type_found types (Some i) e = refl

pub procedure_found : (procs : List ProcOf) (o : Option ℕ) → is_none (procedure_at procs o) ≡ false → is_none o ≡ false
procedure_found procs None e = cc
procedure_found procs (Some i) e = refl

-- Names that aren't repeated stand at different positions.

-- whatever is the name is among these
abbrev Covers : List (List ℕ) → List ℕ → Type 0
Covers earlier name = (m : List ℕ) → bytes_eq m name ≡ true → is_among m earlier ≡ true

abbrev positions : List (List ℕ) → List Named → List ℕ
positions names xs = map (λ n. position_of n.name names) xs

misses : (names : List (List ℕ)) (rule : ℕ) (earlier : List (List ℕ)) (name : List ℕ) (xs : List Named) → Covers earlier name → Found names name
    → repeats rule earlier xs ≡ [] → Each (λ (n : Named). Found names n.name) xs → Misses (position_of name names) (positions names xs)
misses names rule earlier name [] c h e found = tt
misses names rule earlier name (x ∷ xs) c h e found =
    let k = append_none (when (is_among x.name earlier) x.place rule) (repeats rule (x.name ∷ earlier) xs) e in
    let new : is_among x.name earlier ≡ false = rule_fails (is_among x.name earlier) x.place rule k.0 in (
      λ same. true≢false (sym (c x.name (eq_self x.name name (sym (one_name name x.name names h found.0 same)))) ∙ new),
      misses names rule (x.name ∷ earlier) name xs (λ m is. or_right (bytes_eq m x.name) (is_among m earlier) (c m is)) h k.1 found.1,
    )

pub distinct : (names : List (List ℕ)) (rule : ℕ) (earlier : List (List ℕ)) (xs : List Named) → repeats rule earlier xs ≡ []
    → Each (λ (n : Named). Found names n.name) xs → Distinct (positions names xs)
distinct names rule earlier [] e found = tt
distinct names rule earlier (x ∷ xs) e found =
    let k = append_none (when (is_among x.name earlier) x.place rule) (repeats rule (x.name ∷ earlier) xs) e in (
      misses names rule (x.name ∷ earlier) x.name xs (λ m is. or_left (bytes_eq m x.name) (is_among m earlier) is) found.0 k.1 found.1,
      distinct names rule (x.name ∷ earlier) xs k.1 found.1,
    )

-- Variables and their shapes.

locals_shapes : (locals : List LocalOf) → map (λ v. v.shape) (map local_value locals) ≡ map shape_of (map (λ l. l.decl.shape) locals)
locals_shapes [] = refl
locals_shapes (l ∷ locals) = ap (λ shapes. shape_of l.decl.shape ∷ shapes) (locals_shapes locals)

all_shapes : (formals : List Decl) (locals : List LocalOf) → map (λ d. shape_of d.shape) formals ++ map (λ v. v.shape) (map local_value locals)
    ≡ map shape_of (map (λ d. d.shape) formals ++ map (λ l. l.decl.shape) locals)
all_shapes [] locals = locals_shapes locals
all_shapes (d ∷ formals) locals = ap (λ shapes. shape_of d.shape ∷ shapes) (all_shapes formals locals)

pub shapes_are : (s : SourceOf) (p : ProcOf) → shapes_of (procedure_of s p) ≡ map shape_of (variable_types p)
shapes_are s p = all_shapes p.formals p.locals

type_shape : (types : List TypeText) (o : Option ℕ) (t : TypeText) → type_at types o ≡ Some t
    → slice_get (map shape_of types) (unwrap_or o 0) ≡ Some (shape_of t)
type_shape types None t e = cc
type_shape types (Some i) t e = get_map shape_of types i t e

-- a variable's shape is that of its type
pub shape_found : (s : SourceOf) (p : ProcOf) (name : List ℕ) (t : TypeText) → type_of p name ≡ Some t
    → slice_get (shapes_of (procedure_of s p)) (position_of name (variable_names p)) ≡ Some (shape_of t)
shape_found s p name t e =
    ap (λ shapes. slice_get shapes (position_of name (variable_names p))) (shapes_are s p) ∙
    type_shape (variable_types p) (place_among name (variable_names p)) t e

pub variable_found : (p : ProcOf) (name : List ℕ) → is_none (type_of p name) ≡ false → Found (variable_names p) name
variable_found p name e = type_found (variable_types p) (place_among name (variable_names p)) e

-- Where the names of main's variables stand: the declared ones, and then the temporaries.
use Rattle.std.proofs.Common.{◌≡◌, ℕ, zero, suc, ◌+◌, ◌<◌, List, [], ◌∷◌, ◌++◌, map, length, cond, bytes_eq, Bool, true, false, Option, Some, None, is_none}
use Rattle.std.{proofs.Common.{option_map, refl, sym, ap, ◌∙◌, arith, true≢false}, specs.Prelude.{slice_get, ◌==◌, ◌&&◌, ◌||◌, nat_le, IsTrue}}
use Rattle.std.{specs.List.list_all, proofs.lemmas.Bool.{agree_below_at, eqb-true, and_parts}, proofs.lemmas.Slice.Eq.bytes_eq-Decides}
use Rattle.std.proofs.lemmas.Option.{slice_get_within}
use Rattle.stack_text.{specs.Names.{is_name, begins_with_letter, is_among, place_among}, proofs.SharedLaws.{and_false, get_front}}
use Rattle.gypsy_syntax.{specs.declared.literal.TypeText.TypeText, specs.Made.new_simple, specs.ProgramFits.Each, specs.declared.literal.Decl.Decl}
use Rattle.gypsy_syntax.{specs.Resolved.{variable_names, variable_types}, specs.Sources.{LocalOf, ProcOf}}
use Rattle.gypsy_check.{specs.Declarations.{type_at, type_of}, proofs.LookupLaws.place_cons}
use Rattle.mini_syntax.{specs.declared.program.Declared.Declared, specs.declared.sort.Sort.Sort, specs.Sorted.depths, specs.Lawful.{AreApart, nth_name}}
use Rattle.mini_syntax.{specs.Names.{is_variable_name, is_word_byte, word_named}, specs.Language.Stmt}
use Rattle.mini_syntax.specs.declared.sort.Sort.TheVariants as sort
use Rattle.mini_gypsy.{specs.Steps.temporary, specs.Lowered.{main_procedure, decl_of, kind_of, temporary_name, temporaries, locals_from, letter_of}}

-- a name is itself, and another isn't
pub same_name : (name : List ℕ) → bytes_eq name name ≡ true
same_name name = (bytes_eq-Decides name name).1 refl

-- a name that none of these is stands after them
pub place_after : (name : List ℕ) (names others : List (List ℕ)) (i : ℕ) → is_among name names ≡ false → place_among name others ≡ Some i →
    place_among name (names ++ others) ≡ Some (length names + i)
place_after name [] others i none e = e ∙ ap Some (let zero_first : i ≡ 0 + i = omega arith in zero_first)
place_after name (n ∷ names) others i none e =
    place_cons name n (names ++ others) ∙ pick (bytes_eq name n) none (λ none'. place_after name names others i none' e)
  where
    pick : (b : Bool) → (b || is_among name names) ≡ false → (is_among name names ≡ false → place_among name (names ++ others) ≡ Some (length names + i)) →
        cond b (Some 0) (option_map suc (place_among name (names ++ others))) ≡ Some (suc (length names) + i)
    pick true h later = cc
    pick false h later = ap (option_map suc) (later h) ∙ ap Some (let count : suc (length names + i) ≡ suc (length names) + i = omega arith in count)

-- one of these stands at its place
pub place_at : (names others : List (List ℕ)) (i : ℕ) → i < length names → AreApart names → place_among (nth_name names i) (names ++ others) ≡ Some i
place_at [] others i lt apart = absurd (omega arith)
place_at (n ∷ names) others zero lt apart =
    place_cons n n (names ++ others) ∙ ap (λ (b : Bool). cond b (Some 0) (option_map suc (place_among n (names ++ others)))) (same_name n)
place_at (n ∷ names) others (suc i) lt apart =
    let name = nth_name names i in
    place_cons name n (names ++ others)
    ∙ ap (λ (b : Bool). cond b (Some 0) (option_map suc (place_among name (names ++ others)))) (apart.0 i (omega arith))
    ∙ ap (option_map suc) (place_at names others i (omega arith) apart.1)

-- Temporaries.

is_at : Option ℕ → ℕ → Bool
is_at None k = false
is_at (Some i) k = i == k

is_at-true : (o : Option ℕ) (k : ℕ) → is_at o k ≡ true → o ≡ Some k
unfolding is_at
is_at-true None k e = cc
is_at-true (Some i) k e = ap Some (eqb-true i k e)

pub temporary_place : (s : Sort) (k : ℕ) → k < depths → place_among (temporary_name s k) (map (λ l. l.decl.name.name) temporaries) ≡ Some (temporary s k)
unfolding temporaries locals_from place_among is_at
temporary_place sort.Int k lt =
    is_at-true (place_among (temporary_name sort.Int k) (map (λ l. l.decl.name.name) temporaries)) k
    (agree_below_at (λ i. is_at (place_among (temporary_name sort.Int i) (map (λ l. l.decl.name.name) temporaries)) i) (λ i. true) depths k refl lt)
temporary_place sort.Bool k lt =
    is_at-true (place_among (temporary_name sort.Bool k) (map (λ l. l.decl.name.name) temporaries)) (depths + k)
    (agree_below_at (λ i. is_at (place_among (temporary_name sort.Bool i) (map (λ l. l.decl.name.name) temporaries)) (depths + i)) (λ i. true) depths k refl lt)

pub temporary_is_name : (s : Sort) (k : ℕ) → k < depths → IsTrue (is_name (temporary_name s k))
temporary_is_name sort.Int k lt = agree_below_at (λ i. is_name (temporary_name sort.Int i)) (λ i. true) depths k refl lt
temporary_is_name sort.Bool k lt = agree_below_at (λ i. is_name (temporary_name sort.Bool i)) (λ i. true) depths k refl lt

-- the types of the temporaries of a sort
from_at : (s : Sort) (k count i : ℕ) → i < count → slice_get (map (λ (l : LocalOf). l.decl.shape) (locals_from s k count)) i ≡ Some (new_simple 0 (kind_of s))
unfolding locals_from
from_at s k zero i lt = absurd (omega arith)
from_at s k (suc count) zero lt = refl
from_at s k (suc count) (suc i) lt = from_at s (k + 1) count i (omega arith)

get_after : {X : Type 0} (xs ys : List X) (i n : ℕ) → length xs ≡ n → slice_get (xs ++ ys) (n + i) ≡ slice_get ys i
get_after [] ys i n e = ap (slice_get ys) (let same : n + i ≡ i = omega arith in same)
get_after (x ∷ xs) ys i n e =
    ap (slice_get ((x ∷ xs) ++ ys)) (let more : n + i ≡ suc (length xs + i) = omega arith in more) ∙ get_after xs ys i (length xs) refl

pub get_map : {X Y : Type 0} (g : X → Y) (xs : List X) (i : ℕ) (y : Y) → slice_get (map g xs) i ≡ Some y → (x : X) × (slice_get xs i ≡ Some x) × (g x ≡ y)
get_map g [] i y e = cc
get_map g (x ∷ xs) zero y e = (x, refl, cc)
get_map g (x ∷ xs) (suc i) y e = get_map g xs i y e

temporary_shape : (s : Sort) (k : ℕ) → k < depths → slice_get (map (λ (l : LocalOf). l.decl.shape) temporaries) (temporary s k)
    ≡ Some (new_simple 0 (kind_of s))
unfolding temporaries locals_from
temporary_shape sort.Int k lt = get_front (map (λ (l : LocalOf). l.decl.shape) (locals_from sort.Int 0 depths))
    (map (λ (l : LocalOf). l.decl.shape) (locals_from sort.Bool 0 depths)) k (new_simple 0 (kind_of sort.Int)) (from_at sort.Int 0 depths k lt)
temporary_shape sort.Bool k lt =
    get_after (map (λ (l : LocalOf). l.decl.shape) (locals_from sort.Int 0 depths))
    (map (λ (l : LocalOf). l.decl.shape) (locals_from sort.Bool 0 depths)) k depths refl
    ∙ from_at sort.Bool 0 depths k lt

-- What is known of the names of main's variables.
pub record Knows (names : List (List ℕ)) (sorts : List Sort) (p : ProcOf) : Type 0 where
  pub declared_place : (i : ℕ) (s : Sort) → slice_get sorts i ≡ Some s → place_among (nth_name names i) (variable_names p) ≡ Some i
  pub declared_type : (i : ℕ) (s : Sort) → slice_get sorts i ≡ Some s → type_of p (nth_name names i) ≡ Some (new_simple 0 (kind_of s))
  pub temporary_stands : (s : Sort) (k : ℕ) → k < depths → place_among (temporary_name s k) (variable_names p) ≡ Some (length names + temporary s k)
  pub temporary_type : (s : Sort) (k : ℕ) → k < depths → type_of p (temporary_name s k) ≡ Some (new_simple 0 (kind_of s))

-- each declared name is one
pub all_named : (ds : List Declared) → list_all (λ (d : Declared). is_variable_name d.name) ds ≡ true
    → Each (λ (d : Declared). is_variable_name d.name ≡ true) ds
all_named [] h = tt
all_named (d ∷ ds) h =
    let k = and_parts (is_variable_name d.name) (list_all (λ (e : Declared). is_variable_name e.name) ds) h in
    (k.0, all_named ds k.1)

pub marked : (name : List ℕ) (s : Sort) (k : ℕ) → is_variable_name name ≡ true → bytes_eq (temporary_name s k) name ≡ false
marked name s k good = by_test (bytes_eq (temporary_name s k) name) refl
  where
    all_words : (a b c d : Bool) → (a && b && c && d) ≡ true → b ≡ true
    all_words true true c d e = refl
    all_words true false c d e = cc
    all_words false b c d e = cc

    no_mark : list_all is_word_byte (temporary_name s k) ≡ false
    no_mark = and_false (is_word_byte (letter_of s))

    by_test : (b : Bool) → bytes_eq (temporary_name s k) name ≡ b → b ≡ false
    by_test false e = refl
    by_test true e =
        let same : temporary_name s k ≡ name = (bytes_eq-Decides (temporary_name s k) name).0 e in
        let words : list_all is_word_byte name ≡ true =
        all_words (begins_with_letter name) (list_all is_word_byte name) (nat_le (length name) 60) (is_none (word_named name)) good in
        absurd (true≢false (sym words ∙ ap (list_all is_word_byte) (sym same) ∙ no_mark))

unmarked : (ds : List Declared) (s : Sort) (k : ℕ) → Each (λ d. is_variable_name d.name ≡ true) ds
    → is_among (temporary_name s k) (map (λ d. d.name) ds) ≡ false
unmarked [] s k h = refl
unmarked (d ∷ ds) s k h = rw (marked d.name s k h.0) (unmarked ds s k h.1)

map_decl_names : (ds : List Declared) → map (λ (d : Decl). d.name.name) (map (λ (d : Declared). decl_of d.name d.sort) ds) ≡ map (λ (d : Declared). d.name) ds
map_decl_names [] = refl
map_decl_names (d ∷ ds) = ap (λ (ns : List (List ℕ)). d.name ∷ ns) (map_decl_names ds)

declared_shape : (ds : List Declared) (i : ℕ) (s : Sort) → slice_get (map (λ (d : Declared). d.sort) ds) i ≡ Some s →
    slice_get (map (λ (d : Decl). d.shape) (map (λ (d : Declared). decl_of d.name d.sort) ds)) i ≡ Some (new_simple 0 (kind_of s))
declared_shape [] i s e = cc
declared_shape (d ∷ ds) zero s e = let same : d.sort ≡ s = cc in ap (λ (r : Sort). Some (new_simple 0 (kind_of r))) same
declared_shape (d ∷ ds) (suc i) s e = declared_shape ds i s e

shapes_length : (ds : List Declared) → length (map (λ (d : Decl). d.shape) (map (λ (d : Declared). decl_of d.name d.sort) ds)) ≡ length ds
shapes_length [] = refl
shapes_length (d ∷ ds) = ap suc (shapes_length ds)

names_length : (ds : List Declared) → length (map (λ (d : Declared). d.name) ds) ≡ length (map (λ (d : Declared). d.sort) ds)
names_length [] = refl
names_length (d ∷ ds) = ap suc (names_length ds)

pub names_count : (ds : List Declared) → length (map (λ (d : Declared). d.name) ds) ≡ length ds
names_count [] = refl
names_count (d ∷ ds) = ap suc (names_count ds)

-- what is known of `main`
pub knows : (ds : List Declared) (b : Stmt) → Each (λ d. is_variable_name d.name ≡ true) ds → AreApart (map (λ d. d.name) ds) →
    Knows (map (λ d. d.name) ds) (map (λ d. d.sort) ds) (main_procedure ds b)
knows ds b good apart = record {
  declared_place = stands;
  declared_type = λ i s e. ap (type_at (variable_types p)) (stands i s e) ∙ get_front shapes (map (λ (l : LocalOf). l.decl.shape) temporaries) i
      (new_simple 0 (kind_of s)) (declared_shape ds i s e);
  temporary_stands = after;
  temporary_type = λ s k lt.
      ap (type_at (variable_types p)) (after s k lt)
      ∙ get_after shapes (map (λ (l : LocalOf). l.decl.shape) temporaries) (temporary s k) (length names) (shapes_length ds ∙ sym (names_count ds))
      ∙ temporary_shape s k lt;
}
  where
    p : ProcOf
    p = main_procedure ds b

    names : List (List ℕ)
    names = map (λ (d : Declared). d.name) ds

    shapes : List TypeText
    shapes = map (λ (d : Decl). d.shape) (map (λ (d : Declared). decl_of d.name d.sort) ds)

    others : List (List ℕ)
    others = map (λ (l : LocalOf). l.decl.name.name) temporaries

    whole : variable_names p ≡ names ++ others
    whole = ap (λ (ns : List (List ℕ)). ns ++ others) (map_decl_names ds)

    stands : (i : ℕ) (s : Sort) → slice_get (map (λ (d : Declared). d.sort) ds) i ≡ Some s → place_among (nth_name names i) (variable_names p) ≡ Some i
    stands i s e =
        let lt = slice_get_within (map (λ (d : Declared). d.sort) ds) i s e in
        ap (place_among (nth_name names i)) whole ∙ place_at names others i (omega (arith, lt, names_length ds)) apart

    after : (s : Sort) (k : ℕ) → k < depths → place_among (temporary_name s k) (variable_names p) ≡ Some (length names + temporary s k)
    after s k lt =
        ap (place_among (temporary_name s k)) whole ∙ place_after (temporary_name s k) names others (temporary s k) (unmarked ds s k good)
        (temporary_place s k lt)

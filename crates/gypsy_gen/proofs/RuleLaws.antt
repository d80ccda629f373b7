-- A large source breaks no static rule.
use Rattle.std.proofs.Common.{◌≡◌, ◌≢◌, ◌+◌, ◌<◌, ◌≤◌, ◌^◌, ◌%◌, ℕ, zero, suc, Bool, true, false, cond, List, [], ◌∷◌, map, Option, Some, refl, sym, ap, ◌∙◌}
use Rattle.std.{proofs.Common.{bytes_eq, arith, ◌⊎◌, inl, inr, ◌==◌}, specs.Prelude.{codes, is_none, slice_get}, specs.List.{flat_map, position_from}}
use Rattle.std.{proofs.lemmas.Bool.lt-ltb, proofs.lemmas.Bool.Decides.eqb_tells, proofs.lemmas.Iterator.Adapters.position_from-zero}
use Rattle.stack_text.{specs.Names.{is_among, place_among}, specs.Breaches.when, specs.Grammar.Printed.unplaced}
use Rattle.gypsy_syntax.{specs.Made.{statements, new_proc}, specs.Keywords.{keyword_name, form_named, predef_named}, specs.Resolved.procedure_names}
use Rattle.gypsy_syntax.{specs.Resolved.{procedure_at, procedure_named}, specs.Sources.{ProcOf, SourceOf}}
use Rattle.gypsy_check.{specs.Declarations.{repeats, is_predefined}, specs.Rules.{violations, name_breaches, procedure_breaches, statement_breaches}}
use Rattle.gypsy_check.specs.Rules.{parts_breaches, main_breaches}
use Rattle.gypsy_gen.{specs.declared.body.Body.Body, specs.declared.body.Body.TheVariants.{Add, Subtract, Minus, Assign}, specs.Parts.{procedure_name, formal}}
use Rattle.gypsy_gen.{specs.Parts.{local, call_of, body_of, body}, specs.Large.{next_state, procedure, procedures_from, calls_from, main_procedure, large_of}}
use Rattle.gypsy_gen.proofs.NameLaws.{name_itself, name_differs}

-- ---- names

-- no name from the number i on stands among these
record Newer (earlier : List (List ℕ)) (i : ℕ) : Type 0 where
  misses : (k : ℕ) → i ≤ k → k < 2 ^ 32 → is_among (procedure_name k) earlier ≡ false

no_repeats : (earlier : List (List ℕ)) (i state count : ℕ) → i + count < 2 ^ 32 → Newer earlier i
    → repeats 1 earlier (map (λ p. p.name) (procedures_from i state count)) ≡ []
unfolding procedures_from
no_repeats earlier i state zero lt newer = refl
no_repeats earlier i state (suc count) lt newer =
    let one = newer.misses i (omega arith) (omega arith) in
    let rest = no_repeats (procedure_name i ∷ earlier) (i + 1) (next_state state) count (omega arith)
    record {
      misses = λ k le small.
          rw (name_differs k i small (omega arith) (omega arith)) (newer.misses k (omega arith) small);
    } in
    rw one rest

-- a procedure is found by its name
record Found (procs : List ProcOf) (i k : ℕ) : Type 0 where
  place : ℕ
  state : ℕ
  at : position_from (bytes_eq (procedure_name i)) k (map (λ p. p.name.name) procs) ≡ Some (k + place)
  is : slice_get procs place ≡ Some (procedure i state)

found_from : (i j state count k : ℕ) → j ≤ i → i < j + count → j + count < 2 ^ 32 → Found (procedures_from j state count) i k
unfolding procedures_from
found_from i j state zero k low high small = absurd (omega arith)
found_from i j state (suc count) k low high small =
    by_cases (eqb_tells i j) (λ differs. found_from i (j + 1) (next_state state) count (k + 1) (omega arith) (omega arith) (omega arith))
  where
    rest : Found (procedures_from (j + 1) (next_state state) count) i (k + 1) → bytes_eq (procedure_name i) (procedure_name j) ≡ false
        → Found (procedures_from j state (suc count)) i k
    rest later e = record {
      place = suc later.place;
      state = later.state;
      at =
          ap (λ (b : Bool). cond b (Some k) (position_from (bytes_eq (procedure_name i)) (k + 1)
          (map (λ p. p.name.name) (procedures_from (j + 1) (next_state state) count)))) e
          ∙ later.at ∙ (let sum : k + 1 + later.place ≡ k + suc later.place = omega arith in ap (λ (n : ℕ). Some n) sum);
      is = later.is;
    }

    first : i ≡ j → bytes_eq (procedure_name i) (procedure_name j) ≡ true → Found (procedures_from j state (suc count)) i k
    first same e = record {
      place = 0;
      state = next_state state;
      at =
          ap (λ (b : Bool). cond b (Some k) (position_from (bytes_eq (procedure_name i)) (k + 1)
          (map (λ p. p.name.name) (procedures_from (j + 1) (next_state state) count)))) e
          ∙ (let sum : k ≡ k + 0 = omega arith in ap (λ (n : ℕ). Some n) sum);
      is = ap (λ (n : ℕ). Some (procedure n (next_state state))) (sym same);
    }

    by_cases : ((i == j) ≡ true) × (i ≡ j) ⊎ ((i == j) ≡ false) × (i ≢ j)
        → (i ≢ j → Found (procedures_from (j + 1) (next_state state) count) i (k + 1)) → Found (procedures_from j state (suc count)) i k
    by_cases (inl same) later = first same.1 (ap (λ (n : ℕ). bytes_eq (procedure_name i) (procedure_name n)) (sym same.1) ∙ name_itself i)
    by_cases (inr other) later = rest (later other.1) (name_differs i j (omega arith) (omega arith) other.1)

-- the procedure that a large source has for a number
found_in : (number size i : ℕ) → 1 ≤ i → i ≤ size → size ≤ 900
    → (state : ℕ) × (procedure_named (large_of number size) (procedure_name i) ≡ Some (procedure i state))
unfolding place_among
found_in number size i low high few =
    let found = found_from i 1 number size 1 low (omega arith) (omega arith) in
    let all = procedure_names (large_of number size) in
    let place : place_among (procedure_name i) all ≡ Some (suc found.place) =
    position_from-zero (bytes_eq (procedure_name i)) all ∙ found.at
    ∙ (let sum : 1 + found.place ≡ suc found.place = omega arith in ap (λ (n : ℕ). Some n) sum) in
    (found.state, ap (procedure_at (large_of number size).procs) place ∙ found.is)

-- ---- each procedure

not_predefined : (i : ℕ) → is_predefined (procedure_name i) ≡ false
unfolding keyword_name form_named predef_named
not_predefined i = refl

names_free : (i state count : ℕ) → flat_map name_breaches (procedures_from i state count) ≡ []
unfolding procedures_from
names_free i state zero = refl
names_free i state (suc count) = rw (not_predefined i) (names_free (i + 1) (next_state state) count)

made_of : ℕ → ℕ → Body → ProcOf
made_of i n b = new_proc 0 (unplaced (procedure_name i)) (formal ∷ []) [] (local n ∷ []) [] (body b)

procedure_clean : (s : SourceOf) (i n : ℕ) (b : Body) → n < 1000 → procedure_breaches s (made_of i n b) ≡ []
unfolding made_of place_among
procedure_clean s i n Add lt = rw (lt-ltb n (2 ^ 31) (omega arith)) refl
procedure_clean s i n Subtract lt = rw (lt-ltb n (2 ^ 31) (omega arith)) refl
procedure_clean s i n Minus lt = rw (lt-ltb n (2 ^ 31) (omega arith)) refl
procedure_clean s i n Assign lt = rw (lt-ltb n (2 ^ 31) (omega arith)) refl

procedures_clean : (s : SourceOf) (i state count : ℕ) → flat_map (procedure_breaches s) (procedures_from i state count) ≡ []
unfolding procedures_from made_of
procedures_clean s i state zero = refl
procedures_clean s i state (suc count) =
    let next = next_state state in
    let one : procedure_breaches s (procedure i next) ≡ [] = procedure_clean s i (next % 1000) (body_of next) (omega arith) in
    rw one (procedures_clean s (i + 1) next count)

-- ---- the main procedure

call_clean : (number size i : ℕ) → 1 ≤ i → i ≤ size → size ≤ 900
    → statement_breaches (large_of number size) (main_procedure size) false (call_of i) ≡ []
unfolding place_among
call_clean number size i low high few =
    let found = found_in number size i low high few in
    rw found.1 refl

calls_clean : (number size i count : ℕ) → 1 ≤ i → i + count ≤ size + 1 → size ≤ 900
    → parts_breaches (large_of number size) (main_procedure size) false (statements (calls_from i count)) ≡ []
unfolding calls_from
calls_clean number size i zero low high few = refl
calls_clean number size i (suc count) low high few =
    rw (call_clean number size i low (omega arith) few) (calls_clean number size (i + 1) count (omega arith) (omega arith) few)

main_clean : (number size : ℕ) → size ≤ 900 → procedure_breaches (large_of number size) (main_procedure size) ≡ []
unfolding place_among
main_clean number size few = calls_clean number size 1 size (omega arith) (omega arith) few

main_there : (number size : ℕ) → main_breaches (large_of number size) ≡ []
unfolding place_among
main_there number size =
    let s = large_of number size in
    let place : place_among (codes "main") (procedure_names s) ≡ Some 0 = position_from-zero (bytes_eq (codes "main")) (procedure_names s) in
    ap (λ (o : Option ℕ). when (is_none (procedure_at s.procs o)) 0 3) place

-- ---- all

main_first : Newer (codes "main" ∷ []) 1
main_first = record { misses = λ k low small. refl }

pub large_clean : (number size : ℕ) → size ≤ 900 → violations (large_of number size) ≡ []
unfolding violations keyword_name form_named predef_named
large_clean number size few =
    rw (
      no_repeats (codes "main" ∷ []) 1 number size (omega arith) main_first,
      names_free 1 number size,
      main_there number size,
      main_clean number size few,
      procedures_clean (large_of number size) 1 number size,
    ) refl

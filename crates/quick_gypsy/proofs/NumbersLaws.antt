-- The numbers of variables: where they are read, and which are set where a variable is written.
use Rattle.std.proofs.Common.{
  ◌≡◌,
  ℕ,
  zero,
  suc,
  ◌+◌,
  ◌<◌,
  ◌≤◌,
  ℤ,
  pos,
  Some,
  true,
  false,
  ◌==◌,
  List,
  [],
  ◌∷◌,
  ◌++◌,
  length,
  take,
  map,
  get_or,
  refl,
  sym,
  ap,
  ◌∙◌,
  arith,
}
use Rattle.std.{proofs.Common.length-append, specs.Prelude.{slice_get, slice_set}, proofs.lemmas.List.length-map, proofs.lemmas.Option.slice_get-get_or}
use Rattle.std.{proofs.lemmas.Option.{slice_get_within, get_or_from_slice_get}, proofs.lemmas.Bool.Decides.nat_tests}
use Rattle.stack_text.{specs.declared.shape.Kind.Kind, specs.declared.shape.Kind.TheVariants.Integer, specs.declared.shape.Shape.Shape, specs.Values.ValueOf}
use Rattle.stack_text.{specs.Values.item_count, proofs.SharedLaws.one_item}
use Rattle.fm_words.specs.Word.{word_of_int}
use Rattle.fm_code.proofs.ListLaws.{get_front, get_after, set_front, set_after, get_map, set_map}
use Rattle.gypsy_syntax.{specs.Programs.{simple, words_of}, specs.Ranges.is_in_range, specs.ValuesFit.{ValueFits, VarsFit}, specs.Effects.value_at}
use Rattle.gypsy_syntax.{specs.Effects.item_of_value, proofs.RangeLaws.simple_item}
use Rattle.gypsy_semantics.proofs.EffectLaws.{value_fits}
use Rattle.quick_gypsy.specs.Numbers.{value_numbers, numbers_of}

value_length : (v : ValueOf) → ValueFits v → length (value_numbers v) ≡ item_count v.shape
value_length v f = length-map v.items word_of_int ∙ f.number

pub numbers_length : (shapes : List Shape) (x : List ValueOf) → VarsFit shapes x → length (numbers_of x) ≡ words_of shapes
numbers_length [] [] h = refl
numbers_length [] (v ∷ x) h = absurd h
numbers_length (s ∷ shapes) [] h = absurd h
numbers_length (s ∷ shapes) (v ∷ x) h =
    omega (arith, length-append (value_numbers v) (numbers_of x), value_length v h.1, ap item_count h.0, numbers_length shapes x h.2)

-- an item of a variable
pub read_number : (shapes : List Shape) (x : List ValueOf) (b h w : ℕ) → VarsFit shapes x → b < length shapes
    → slice_get (value_numbers (value_at x b)) h ≡ Some w → slice_get (numbers_of x) (words_of (take b shapes) + h) ≡ Some w
read_number [] x b h w f lt g = absurd (omega (arith, lt))
read_number (s ∷ shapes) [] b h w f lt g = absurd f
read_number (s ∷ shapes) (v ∷ x) zero h w f lt g =
    let e : 0 + h ≡ h = omega arith in
    ap (slice_get (numbers_of (v ∷ x))) e ∙ get_front (value_numbers v) (numbers_of x) h w g
read_number (s ∷ shapes) (v ∷ x) (suc b) h w f lt g =
    let e : item_count s + words_of (take b shapes) + h ≡ length (value_numbers v) + (words_of (take b shapes) + h) =
    omega (arith, value_length v f.1, ap item_count f.0) in
    ap (slice_get (numbers_of (v ∷ x))) e ∙ get_after (value_numbers v) (numbers_of x) (words_of (take b shapes) + h)
    ∙ read_number shapes x b h w f.2 (omega (arith, lt)) g

-- the value with another item
abbrev pub with_item : ValueOf → ℕ → ℤ → ValueOf
with_item v h z = record { shape = v.shape; items = slice_set v.items h z }

pub write_number : (shapes : List Shape) (x : List ValueOf) (b h : ℕ) (z : ℤ) → VarsFit shapes x → b < length shapes → h < length (value_at x b).items
    → slice_set (numbers_of x) (words_of (take b shapes) + h) (word_of_int z) ≡ numbers_of (slice_set x b (with_item (value_at x b) h z))
write_number [] x b h z f lt g = absurd (omega (arith, lt))
write_number (s ∷ shapes) [] b h z f lt g = absurd f
write_number (s ∷ shapes) (v ∷ x) zero h z f lt g =
    let e : 0 + h ≡ h = omega arith in
    ap (λ i. slice_set (numbers_of (v ∷ x)) i (word_of_int z)) e
    ∙ set_front (value_numbers v) (numbers_of x) h (word_of_int z) (omega (arith, g, length-map v.items word_of_int))
    ∙ ap (λ ns. ns ++ numbers_of x) (set_map word_of_int v.items h z)
write_number (s ∷ shapes) (v ∷ x) (suc b) h z f lt g =
    let e : item_count s + words_of (take b shapes) + h ≡ length (value_numbers v) + (words_of (take b shapes) + h) =
    omega (arith, value_length v f.1, ap item_count f.0) in
    ap (λ i. slice_set (numbers_of (v ∷ x)) i (word_of_int z)) e
    ∙ set_after (value_numbers v) (numbers_of x) (words_of (take b shapes) + h) (word_of_int z)
    ∙ ap (λ ns. value_numbers v ++ ns) (write_number shapes x b h z f.2 (omega (arith, lt)) g)

pub words_fit : (shapes : List Shape) (b : ℕ) (s : Shape) → slice_get shapes b ≡ Some s → words_of (take b shapes) + item_count s ≤ words_of shapes
words_fit [] b s g = cc
words_fit (t ∷ shapes) zero s g = let same : t ≡ s = cc in omega (arith, ap item_count same)
words_fit (t ∷ shapes) (suc b) s g = let h = words_fit shapes b s g in omega (arith, h)

-- a simple value is its item
pub simple_value : (k : Kind) (v : ValueOf) → v.shape ≡ simple k → ValueFits v → v ≡ record { shape = simple k; items = item_of_value v ∷ [] }
simple_value k v e f =
    let items : v.items ≡ item_of_value v ∷ [] = one_item v.items (f.number ∙ ap item_count e) in
    λ i. record { shape = e i; items = items i }

-- A simple variable.
pub record IsSimple (shapes : List Shape) (x : List ValueOf) (b : ℕ) (k : Kind) : Type 0 where
  pub bound : b < length shapes
  pub within : words_of (take b shapes) < length (numbers_of x)
  pub word : slice_get (numbers_of x) (words_of (take b shapes)) ≡ Some (word_of_int (item_of_value (value_at x b)))
  pub range : is_in_range k (item_of_value (value_at x b)) ≡ true
  pub value : record { shape = simple k; items = item_of_value (value_at x b) ∷ [] } ≡ value_at x b
  pub write : (z : ℤ) → slice_set (numbers_of x) (words_of (take b shapes)) (word_of_int z)
      ≡ numbers_of (slice_set x b record { shape = simple k; items = z ∷ [] })

pub simple_var : (shapes : List Shape) (x : List ValueOf) (b : ℕ) (k : Kind) → VarsFit shapes x → slice_get shapes b ≡ Some (simple k)
    → IsSimple shapes x b k
simple_var shapes x b k f g =
    let v = value_at x b in
    let at = words_of (take b shapes) in
    let fits = value_fits shapes x b (simple k) f g in
    let items : v.items ≡ item_of_value v ∷ [] = one_item v.items (fits.1.number ∙ ap item_count fits.0) in
    let bound = slice_get_within shapes b (simple k) g in
    let first : slice_get (value_numbers v) 0 ≡ Some (word_of_int (item_of_value v)) = ap (λ zs. slice_get (map word_of_int zs) 0) items in
    let e : at + 0 ≡ at = omega arith in
    let one : 0 < length v.items = omega (arith, ap length items) in
    record {
      bound = bound;
      within = omega (arith, numbers_length shapes x f, words_fit shapes b (simple k) g);
      word = ap (slice_get (numbers_of x)) (sym e) ∙ read_number shapes x b 0 (word_of_int (item_of_value v)) f bound first;
      range = simple_item k v fits.0 fits.1;
      value = sym (simple_value k v fits.0 fits.1);
      write = λ z. ap (λ i. slice_set (numbers_of x) i (word_of_int z)) (sym e) ∙ write_number shapes x b 0 z f bound one
          ∙ (λ i. numbers_of (slice_set x b record { shape = fits.0 i; items = slice_set (items i) 0 z }));
    }

-- An array.
pub record IsArray (shapes : List Shape) (x : List ValueOf) (b n : ℕ) (k : Kind) : Type 0 where
  pub bound : b < length shapes
  pub fits : words_of (take b shapes) + n ≤ words_of shapes
  pub counted : item_count (get_or shapes b (simple Integer)) ≡ n
  pub number : length (value_at x b).items ≡ n
  pub kind_is : (value_at x b).shape.kind ≡ k
  pub word : (j : ℕ) → j < n → slice_get (numbers_of x) (words_of (take b shapes) + j) ≡ Some (word_of_int (get_or (value_at x b).items j (pos 0)))
  pub write : (j : ℕ) (z : ℤ) → j < n → slice_set (numbers_of x) (words_of (take b shapes) + j) (word_of_int z)
      ≡ numbers_of (slice_set x b (with_item (value_at x b) j z))

pub array_var : (shapes : List Shape) (x : List ValueOf) (b n : ℕ) (k : Kind) → VarsFit shapes x → 0 < n
    → slice_get shapes b ≡ Some record { kind = k; length = n } → IsArray shapes x b n k
array_var shapes x b n k f low g =
    let v = value_at x b in
    let at = words_of (take b shapes) in
    let s : Shape = record { kind = k; length = n } in
    let fits = value_fits shapes x b s f g in
    let bound = slice_get_within shapes b s g in
    let count : item_count s ≡ n = counted_by n low in
    let number : length v.items ≡ n = fits.1.number ∙ ap item_count fits.0 ∙ count in
    record {
      bound = bound;
      fits = omega (arith, words_fit shapes b s g, count);
      counted = ap item_count (get_or_from_slice_get shapes b s (simple Integer) g) ∙ count;
      number = number;
      kind_is = ap (λ (t : Shape). t.kind) fits.0;
      word = λ j low. read_number shapes x b j (word_of_int (get_or v.items j (pos 0))) f bound
          (get_map word_of_int v.items j (get_or v.items j (pos 0)) (slice_get-get_or v.items j (pos 0) (omega (arith, low, number))));
      write = λ j z low. write_number shapes x b j z f bound (omega (arith, low, number));
    }
  where
    counted_by : (n : ℕ) → 0 < n → item_count record { kind = k; length = n } ≡ n
    counted_by zero h = absurd (omega (arith, h))
    counted_by (suc n) h = let e : (suc n == 0) ≡ false = grind (arith, nat_tests) in rw e refl

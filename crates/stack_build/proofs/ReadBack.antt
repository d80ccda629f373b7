-- A window whose stack has the words of values at its bottom is read as the values.
use Rattle.std.proofs.Common.{◌≡◌, ◌+◌, ◌-◌, ℕ, zero, suc, ℤ, pos, negsuc, true, List, [], ◌∷◌, ◌++◌, length, map, Some, refl, sym, ap, subst, ◌∙◌, arith}
use Rattle.std.{proofs.Common.{length-append, eq-eqb, true≢false}, specs.Prelude.unwrap_or, specs.List.{list_all, zip}, proofs.lemmas.Bool.and_parts}
use Rattle.std.{proofs.lemmas.Bool.{and_from, leb-true, lt-ltb}, proofs.lemmas.List.length-map}
use mathlib.Core.List.{reverse_aux}
use Rattle.stack_text.{specs.declared.shape.Kind.Kind, specs.declared.shape.Kind.TheVariants.{Integer, Boolean, Character}, specs.Values.{ValueOf, item_count}}
use Rattle.stack_text.specs.Values.{is_item, is_value}
use Rattle.fm_words.specs.Word.{is_int, word_of_int}
use Rattle.fm_machine.specs.State.{Fm, word_at}
use Rattle.fm_code.specs.Execution.{Holds}
use Rattle.fm_image.specs.declared.slot.Slot.{Slot}
use Rattle.display_maps.{specs.Reading.{word_or_zero, words_down, variable_of}, proofs.ItemLaws.slot_read}
use Rattle.gypsy_syntax.{specs.declared.literal.Decl.Decl, specs.Ranges.is_in_range, specs.Resolved.shape_of, specs.ValuesFit.VarsFit}
use Rattle.stack_build.{specs.Image.slots_from, specs.Implements.variable_shown, proofs.Bits.no_bit, proofs.Laying.{reversed_append, Holds-reversed}}
use Rattle.stack_build.{proofs.Storing.items_words, specs.Internal.Showing.shapes_in}

-- an item in range is one of its kind, and has 32 bits
item_fits : (k : Kind) (z : ℤ) → is_in_range k z ≡ true → (is_item k z ≡ true) × (is_int z ≡ true)
item_fits Integer (pos n) h = (refl, h)
item_fits Integer (negsuc n) h = (refl, h)
item_fits Boolean (pos zero) h = (refl, refl)
item_fits Boolean (pos (suc zero)) h = (refl, refl)
item_fits Boolean (pos (suc (suc n))) h = absurd (no_bit n h)
item_fits Boolean (negsuc n) h = absurd (true≢false (sym h))
item_fits Character (pos n) h = let le = leb-true n 127 h in (h, lt-ltb n 2147483648 (omega (arith, le)))
item_fits Character (negsuc n) h = absurd (true≢false (sym h))

pub items_fit : (k : Kind) (items : List ℤ) → list_all (is_in_range k) items ≡ true → (list_all (λ item. is_item k item) items ≡ true)
    × (list_all is_int items ≡ true)
items_fit k [] h = (refl, refl)
items_fit k (z ∷ items) h =
    let p = and_parts (is_in_range k z) (list_all (is_in_range k) items) h in
    let one = item_fits k z p.0 in
    let rest = items_fit k items p.1 in
    (and_from _ _ one.0 rest.0, and_from _ _ one.1 rest.1)

-- the word at an address that is read
pub word_read : (s : Fm) (a w : ℕ) → word_at s.base s.memory a ≡ Some w → word_or_zero s a ≡ w
word_read s a w h = ap (λ o. unwrap_or o 0) h

words_read : (s : Fm) (ws above : List ℕ) (p a : ℕ) → Holds s.base s.memory p (reverse_aux ws above) → a ≡ p + length ws - 1 → words_down s a (length ws) ≡ ws
words_read s [] above p a h e = refl
words_read s (w ∷ ws) above p a h e =
    let here : Holds s.base s.memory a (w ∷ above) = Holds-reversed s.base s.memory p a ws (w ∷ above) (omega arith) h in
    ap (λ (v : ℕ). v ∷ words_down s (a - 1) (length ws)) (word_read s a w here.0)
    ∙ ap (λ (vs : List ℕ). w ∷ vs) (words_read s ws (w ∷ above) p (a - 1) h (omega arith))

-- each slot is read as its value
pub values_read : (s : Fm) (ds : List Decl) (x : List ValueOf) (above : List ℕ) (p a : ℕ) → VarsFit (shapes_in ds) x →
    Holds s.base s.memory p (reverse_aux (items_words x) above) → a ≡ p + length (items_words x) - 1 →
    map (variable_of s) (slots_from a ds) ≡ map variable_shown (zip (map (λ (d : Decl). d.name.name) ds) x)
values_read s [] [] above p a f h e = refl
values_read s [] (v ∷ x) above p a f h e = absurd f
values_read s (d ∷ ds) [] above p a f h e = absurd f
values_read s (d ∷ ds) (v ∷ x) above p a f h e =
    let is : List ℕ = map word_of_int v.items in
    let rest : List ℕ = items_words x in
    let count : ℕ = item_count (shape_of d.shape) in
    let slot : Slot = record { name = d.name.name; shape = shape_of d.shape; address = a } in
    let all : length (is ++ rest) ≡ length is + length rest = length-append is rest in
    let many : length is ≡ item_count v.shape = length-map v.items word_of_int ∙ f.1.number in
    let same : item_count v.shape ≡ count = ap item_count f.0 in
    let whole : Holds s.base s.memory p (reverse_aux rest (reverse_aux is above)) = subst (Holds s.base s.memory p) (reversed_append is rest above) h in
    let here : Holds s.base s.memory (p + length rest) (reverse_aux is above) =
    Holds-reversed s.base s.memory p (p + length rest) rest (reverse_aux is above) refl whole in
    let down : words_down s a (length is) ≡ is = words_read s is above (p + length rest) a here (omega arith) in
    let kinds = items_fit v.shape.kind v.items f.1.items in
    let is_one : is_value v.shape v.items ≡ true = and_from _ _ (eq-eqb (length v.items) (item_count v.shape) f.1.number) kinds.0 in
    let one = slot_read s slot v (sym f.0) is_one kinds.1 (ap (words_down s a) (sym many) ∙ down) in
    let others = values_read s ds x (reverse_aux is above) p (a - count) f.2 whole (omega arith) in
    λ i. one i ∷ others i

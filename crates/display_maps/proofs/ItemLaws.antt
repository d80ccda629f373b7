-- Items of variables.
use Rattle.std.proofs.Common.{◌≡◌, ◌<◌, ◌+◌, ◌-◌, ◌⊎◌, ◌||◌, ◌∙◌, ℕ, suc, pos, negsuc, Bool, true, false, eqb, List, [], ◌∷◌, length, map, refl, sym, ap, subst}
use Rattle.std.{proofs.Common.{inl, inr, true≢false, Vec, Global, find, bytes_eq, option_map, Option, arith}, specs.Prelude.ℤ, specs.List.list_all}
use Rattle.std.proofs.lemmas.Bool.{eqb-true, and_parts}
use Rattle.stack_text.{specs.declared.shape.Kind.Kind, specs.declared.shape.Kind.TheVariants.{Integer, Boolean, Character}, specs.declared.shape.Shape.Shape}
use Rattle.stack_text.{specs.Values.{ValueOf, item_count, is_item, is_value}, proofs.SharedLaws.find_map}
use Rattle.fm_words.{specs.Word.{is_int, word_of_int}, proofs.WordLaws.signed_of-word_of_int}
use Rattle.fm_machine.specs.State.{Fm}
use Rattle.fm_image.specs.declared.slot.Slot.{Slot}
use Rattle.display_maps.{specs.declared.shown.Shown.Shown, specs.declared.shown.Shown.TheVariants.Number, specs.Reading.{word_or_zero, item_of, items_named}}
use Rattle.display_maps.{specs.Reading.{words_down, variable_of}, specs.ValueReading.{item_shown, value_shown}}

-- one of them, and those below it
pub items_next : (s : Fm) (kind : Kind) (address n count : ℕ) → count < n
    → map (item_of kind) (words_down s address (n - count)) ≡ item_of kind (word_or_zero s address)
    ∷ map (item_of kind) (words_down s (address - 1) (n - (count + 1)))
items_next s kind address n count lt =
    let e : n - count ≡ suc (n - (count + 1)) = omega arith in
    ap (λ m. map (item_of kind) (words_down s address m)) e

-- a number of one bit
bit : (n : ℕ) (a b : Bool) → eqb n 0 ≡ a → eqb n 1 ≡ b → (a || b) ≡ true → (n ≡ 0) ⊎ (n ≡ 1)
bit n true b is0 is1 h = inl (eqb-true n 0 is0)
bit n false true is0 is1 h = inr (eqb-true n 1 is1)
bit n false false is0 is1 h = absurd (true≢false (sym h))

truth_read : (n : ℕ) → (n ≡ 0) ⊎ (n ≡ 1) → item_of Boolean n ≡ item_shown Boolean (pos n)
unfolding item_of
truth_read n (inl e) = let P : ℕ → Type 0 = λ m. item_of Boolean m ≡ item_shown Boolean (pos m) in subst P (sym e) refl
truth_read n (inr e) = let P : ℕ → Type 0 = λ m. item_of Boolean m ≡ item_shown Boolean (pos m) in subst P (sym e) refl

-- the word of an item is read as the item
pub item_of-word_of_int : (kind : Kind) (item : ℤ) → is_item kind item ≡ true → is_int item ≡ true → item_of kind (word_of_int item) ≡ item_shown kind item
unfolding item_of
item_of-word_of_int Integer item is fits = ap Number (signed_of-word_of_int item fits)
item_of-word_of_int Boolean (pos n) is fits = truth_read n (bit n (eqb n 0) (eqb n 1) refl refl is)
item_of-word_of_int Boolean (negsuc n) is fits = absurd (true≢false (sym is))
item_of-word_of_int Character (pos n) is fits = rw is refl
item_of-word_of_int Character (negsuc n) is fits = absurd (true≢false (sym is))

-- the words of items are read as the items
pub items_read : (kind : Kind) (items : List ℤ) → list_all (λ item. is_item kind item) items ≡ true → list_all is_int items ≡ true
    → map (item_of kind) (map word_of_int items) ≡ map (item_shown kind) items
items_read kind [] are fit = refl
items_read kind (item ∷ items) are fit =
    let p = and_parts (is_item kind item) (list_all (λ item. is_item kind item) items) are in
    let q = and_parts (is_int item) (list_all is_int items) fit in
    rw (item_of-word_of_int kind item p.0 q.0) (ap (λ (shown : List Shown). item_shown kind item ∷ shown) (items_read kind items p.1 q.1))

-- a slot from whose address downwards memory holds a value is read as the value
pub slot_read : (s : Fm) (slot : Slot) (value : ValueOf) → slot.shape ≡ value.shape → is_value value.shape value.items ≡ true
    → list_all is_int value.items ≡ true
    → words_down s slot.address (item_count value.shape) ≡ map word_of_int value.items → variable_of s slot ≡ (slot.name, value_shown value)
slot_read s slot value same is fit held =
    let p = and_parts (eqb (length value.items) (item_count value.shape)) (list_all (λ item. is_item value.shape.kind item) value.items) is in
    ap (λ (shape : Shape). (slot.name, map (item_of shape.kind) (words_down s slot.address (item_count shape)))) same
    ∙ ap (λ (words : List ℕ). (slot.name, map (item_of value.shape.kind) words)) held
    ∙ ap (λ (shown : List Shown). (slot.name, shown)) (items_read value.shape.kind value.items p.1 fit)

-- the items of the first variable of a name, as vectors have them
pub items_found : (name : List ℕ) (variables : List (List ℕ × Vec Shown Global)) (shown : List (List ℕ × List Shown))
    (found : Option (List ℕ × Vec Shown Global))
    → map (λ (v : List ℕ × Vec Shown Global). (v.0, v.1.items)) variables ≡ shown
    → found ≡ find (λ (v : List ℕ × Vec Shown Global). bytes_eq v.0 name) variables
    → option_map (λ (v : List ℕ × Vec Shown Global). v.1.items) found ≡ items_named name shown
unfolding items_named
items_found name variables shown found view is =
    ap (λ (o : Option (List ℕ × Vec Shown Global)). option_map (λ (v : List ℕ × Vec Shown Global). v.1.items) o) is
    ∙ sym (find_map (λ (v : List ℕ × Vec Shown Global). (v.0, v.1.items)) (λ (v : List ℕ × List Shown). bytes_eq v.0 name)
    (λ (v : List ℕ × List Shown). v.1) variables)
    ∙ ap (λ (vs : List (List ℕ × List Shown)). option_map (λ (v : List ℕ × List Shown). v.1) (find (λ (v : List ℕ × List Shown). bytes_eq v.0 name) vs)) view

-- Values stored in slots, where the words at the end of the window are those of other values of the same shapes.
use Rattle.std.proofs.Common.{◌≡◌, ◌+◌, ◌-◌, ℕ, ℤ, List, [], ◌∷◌, ◌++◌, length, map, refl, sym, ap, ◌∙◌, arith, append_assoc, length-append}
use Rattle.std.{specs.Prelude.slice_set, proofs.Math.Seq.set-append_seam, proofs.Math.ListN.length-reverse_aux, proofs.lemmas.List.length-map}
use mathlib.Core.List.{reverse_aux}
use Rattle.stack_text.specs.Values.{ValueOf, item_count}
use Rattle.fm_words.specs.Word.{word_of_int}
use Rattle.fm_machine.specs.State.{with_word}
use Rattle.fm_loader.specs.Loaded.{with_items, with_values}
use Rattle.gypsy_syntax.{specs.declared.literal.Decl.Decl, specs.Resolved.shape_of, specs.ValuesFit.VarsFit}
use Rattle.stack_build.{specs.Image.slots_from, specs.Internal.Showing.shapes_in, proofs.Laying.{reversed_append, reversed_front}}

-- the words of values, one after the other
abbrev pub items_words : List ValueOf → List ℕ
items_words [] = []
items_words (v ∷ x) = map word_of_int v.items ++ items_words x

-- words in front of one that is set
pub split : (front xs above : List ℕ) → front ++ reverse_aux xs above ≡ (front ++ reverse_aux xs []) ++ above
split front xs above =
    ap (λ (l : List ℕ). front ++ l) (reversed_front xs [] above) ∙ sym (append_assoc front (reverse_aux xs []) above)

set_last : (front xs above : List ℕ) (o w k : ℕ) → k ≡ length front + length xs →
    slice_set (front ++ reverse_aux xs (o ∷ above)) k w ≡ front ++ reverse_aux xs (w ∷ above)
set_last front xs above o w k e =
    let before : List ℕ = front ++ reverse_aux xs [] in
    let at : k ≡ length before = omega (arith, length-append front (reverse_aux xs []), length-reverse_aux xs []) in
    ap (λ (l : List ℕ). slice_set l k w) (split front xs (o ∷ above))
    ∙ ap (λ (i : ℕ). slice_set (before ++ o ∷ above) i w) at
    ∙ set-append_seam before o above w
    ∙ sym (split front xs (w ∷ above))

items_stored : (base a : ℕ) (items : List ℤ) (front olds above : List ℕ) → length olds ≡ length items → a ≡ base + length front + length olds - 1 →
    with_items base a items (front ++ reverse_aux olds above) ≡ front ++ reverse_aux (map word_of_int items) above
unfolding with_word
items_stored base a [] front [] above e at = refl
items_stored base a [] front (o ∷ olds) above e at = absurd (omega (arith, e))
items_stored base a (z ∷ items) front [] above e at = absurd (omega (arith, e))
items_stored base a (z ∷ items) front (o ∷ olds) above e at =
    ap (λ (m : List ℕ). with_items base (a - 1) items m) (set_last front olds above o (word_of_int z) (a - base) (omega arith))
    ∙ items_stored base (a - 1) items front olds (word_of_int z ∷ above) (omega arith) (omega arith)

pub values_stored : (base a : ℕ) (ds : List Decl) (old new : List ValueOf) (front above : List ℕ) → VarsFit (shapes_in ds) old → VarsFit (shapes_in ds) new →
    a ≡ base + length front + length (items_words old) - 1 →
    with_values base (slots_from a ds) new (front ++ reverse_aux (items_words old) above) ≡ front ++ reverse_aux (items_words new) above
values_stored base a [] [] [] front above f g at = refl
values_stored base a [] [] (v ∷ new) front above f g at = absurd g
values_stored base a [] (o ∷ old) new front above f g at = absurd f
values_stored base a (d ∷ ds) [] new front above f g at = absurd f
values_stored base a (d ∷ ds) (o ∷ old) [] front above f g at = absurd g
values_stored base a (d ∷ ds) (o ∷ old) (v ∷ new) front above f g at =
    let is : List ℕ = map word_of_int o.items in
    let rest : List ℕ = items_words old in
    let count : ℕ = item_count (shape_of d.shape) in
    let many : length is ≡ count = length-map o.items word_of_int ∙ f.1.number ∙ ap item_count f.0 in
    let others : length v.items ≡ count = g.1.number ∙ ap item_count g.0 in
    let all : length (is ++ rest) ≡ length is + length rest = length-append is rest in
    let before : List ℕ = front ++ reverse_aux rest [] in
    let size : length before ≡ length front + length rest = omega (arith, length-append front (reverse_aux rest []), length-reverse_aux rest []) in
    ap (λ (l : List ℕ). with_values base (slots_from a (d ∷ ds)) (v ∷ new) (front ++ l)) (reversed_append is rest above)
    ∙ ap (λ (m : List ℕ). with_values base (slots_from a (d ∷ ds)) (v ∷ new) m) (split front rest (reverse_aux is above))
    ∙ ap (λ (m : List ℕ). with_values base (slots_from (a - count) ds) new m) (items_stored base a v.items before is above (omega arith) (omega arith))
    ∙ ap (λ (m : List ℕ). with_values base (slots_from (a - count) ds) new m) (sym (split front rest (reverse_aux (map word_of_int v.items) above)))
    ∙ values_stored base (a - count) ds old new front (reverse_aux (map word_of_int v.items) above) f.2 g.2 (omega arith)
    ∙ ap (λ (l : List ℕ). front ++ l) (sym (reversed_append (map word_of_int v.items) (items_words new) above))

-- Elements of the temporary stack, read under pushed words and written.
use Rattle.std.proofs.Common.{◌≤◌, ◌≡◌, ℕ, zero, suc, ◌+◌, ◌-◌, ◌<◌, Some, None, Bool, true, false, List, [], ◌∷◌, length, refl, ap, sym, ◌∙◌, subst, arith}
use Rattle.std.{proofs.Common.{ltb-true, length-set}, specs.Prelude.{if◌then◌else◌, slice_get, slice_set, nat_lt, get_or, ◌≢◌}, proofs.lemmas.Bool.lt-ltb}
use Rattle.std.{proofs.lemmas.Option.{slice_get_within, slice_get-get_or, get_or_from_slice_get}, proofs.lemmas.List.{get_or-set_other, get_or-set_same}}
use Rattle.std.proofs.lemmas.List.{set-get_or}
use Rattle.piton_words.specs.declared.word.Word.{Word}
use Rattle.piton_semantics.{specs.State.{element, with_element}, proofs.ElementLaws.element_below}
use Rattle.gypsy_predef.specs.Runs.{Holds, with_elements}

-- an element that is there lies below the top, and is the word at its distance from the top
pub element_there : (stack : List Word) (i : ℕ) (w : Word) → element stack i ≡ Some w → i < length stack
element_there stack i w h = pick (nat_lt i (length stack)) refl h
  where
    pick : (b : Bool) → nat_lt i (length stack) ≡ b → (if b then slice_get stack (length stack - 1 - i) else None) ≡ Some w → i < length stack
    pick true e h = ltb-true i (length stack) e
    pick false e h = cc

pub element_is : (stack : List Word) (i : ℕ) → i < length stack → element stack i ≡ slice_get stack (length stack - 1 - i)
element_is stack i h = ap (λ b. if b then slice_get stack (length stack - 1 - i) else None) (lt-ltb i (length stack) h)

pub element_over : (v : Word) (stack : List Word) (i : ℕ) (w : Word) → element stack i ≡ Some w → element (v ∷ stack) i ≡ Some w
element_over v stack i w h = element_below v stack i (element_there stack i w h) ∙ h

-- Words written.

same_element : (stack : List Word) (i : ℕ) (w : Word) → element stack i ≡ Some w → with_element stack i w ≡ stack
same_element stack i w h =
    let low = element_there stack i w h in
    let read : get_or stack (length stack - 1 - i) w ≡ w = get_or_from_slice_get stack (length stack - 1 - i) w w (sym (element_is stack i low) ∙ h) in
    ap (slice_set stack (length stack - 1 - i)) (sym read) ∙ set-get_or stack (length stack - 1 - i) w

element_other : (stack : List Word) (i j : ℕ) (w : Word) → i < length stack → j < length stack → i ≢ j → element (with_element stack i w) j ≡ element stack j
element_other stack i j w h l n =
    let same : length (with_element stack i w) ≡ length stack = length-set stack (length stack - 1 - i) w in
    let low : j < length (with_element stack i w) = omega (arith, l, same) in
    let at : length (with_element stack i w) - 1 - j ≡ length stack - 1 - j = ap (λ k. k - 1 - j) same in
    let apart : length stack - 1 - j ≢ length stack - 1 - i = λ e. n (omega (arith, e, h, l)) in
    let there : length stack - 1 - j < length (with_element stack i w) = omega (arith, l, same) in
    let was : length stack - 1 - j < length stack = omega (arith, l) in
    element_is (with_element stack i w) j low
    ∙ ap (slice_get (with_element stack i w)) at
    ∙ slice_get-get_or (with_element stack i w) (length stack - 1 - j) w there
    ∙ ap Some (get_or-set_other stack (length stack - 1 - i) (length stack - 1 - j) w w apart)
    ∙ sym (slice_get-get_or stack (length stack - 1 - j) w was)
    ∙ sym (element_is stack j l)

holds_first : (stack : List Word) (index : ℕ) (w : Word) (words : List Word) → Holds stack index (w ∷ words) → element stack index ≡ Some w
holds_first stack index w words h =
    let same : index + 0 ≡ index = omega arith in
    subst (λ i. element stack i ≡ Some w) same (h 0 w refl)

holds_rest : (stack : List Word) (index : ℕ) (w : Word) (words : List Word) → Holds stack index (w ∷ words) → Holds stack (index + 1) words
holds_rest stack index w words h = λ i v e. subst (λ i. element stack i ≡ Some v) (omega arith) (h (suc i) v e)

-- the words that are there, written again
held_same : (words : List Word) (stack : List Word) (index : ℕ) → Holds stack index words → with_elements stack index words ≡ stack
held_same [] stack index h = refl
held_same (w ∷ words) stack index h =
    ap (λ s. with_element s index w) (held_same words stack (index + 1) (holds_rest stack index w words h))
    ∙ same_element stack index w (holds_first stack index w words h)

-- the words that are there with one of them changed: that element alone is written
pub written_one : (words : List Word) (stack : List Word) (index i : ℕ) (w : Word) → Holds stack index words → i < length words →
    with_elements stack index (slice_set words i w) ≡ with_element stack (index + i) w
written_one [] stack index i w h l = absurd (omega (arith, l))
written_one (v ∷ words) stack index zero w h l =
    let same : index ≡ index + 0 = omega arith in
    ap (λ s. with_element s index w) (held_same words stack (index + 1) (holds_rest stack index v words h))
    ∙ ap (λ i. with_element stack i w) same
written_one (v ∷ words) stack index (suc i) w h l =
    let rest = holds_rest stack index v words h in
    let first = holds_first stack index v words h in
    let low : i < length words = omega (arith, l) in
    let at : index < length stack = element_there stack index v first in
    let there : index + 1 + i < length stack =
    element_there stack (index + 1 + i) (get_or words i w) (rest i (get_or words i w) (slice_get-get_or words i w low)) in
    let same : index + 1 + i ≡ index + suc i = omega arith in
    ap (λ s. with_element s index v) (written_one words stack (index + 1) i w rest low)
    ∙ same_element (with_element stack (index + 1 + i) w) index v (element_other stack (index + 1 + i) index w there at (λ e. omega (arith, e)) ∙ first)
    ∙ ap (λ i. with_element stack i w) same

element_same : (stack : List Word) (i : ℕ) (w : Word) → i < length stack → element (with_element stack i w) i ≡ Some w
element_same stack i w h =
    let same : length (with_element stack i w) ≡ length stack = length-set stack (length stack - 1 - i) w in
    let low : i < length (with_element stack i w) = omega (arith, h, same) in
    let at : length (with_element stack i w) - 1 - i ≡ length stack - 1 - i = ap (λ k. k - 1 - i) same in
    let there : length stack - 1 - i < length (with_element stack i w) = omega (arith, h, same) in
    let was : length stack - 1 - i < length stack = omega (arith, h) in
    element_is (with_element stack i w) i low
    ∙ ap (slice_get (with_element stack i w)) at
    ∙ slice_get-get_or (with_element stack i w) (length stack - 1 - i) w there
    ∙ ap Some (get_or-set_same stack (length stack - 1 - i) w w was)

pub written_length : (words stack : List Word) (index : ℕ) → length (with_elements stack index words) ≡ length stack
written_length [] stack index = refl
written_length (w ∷ words) stack index =
    let rest = with_elements stack (index + 1) words in
    length-set rest (length rest - 1 - index) w ∙ written_length words stack (index + 1)

pub written_word : (words stack : List Word) (index h : ℕ) (w : Word) → index + length words ≤ length stack → slice_get words h ≡ Some w →
    element (with_elements stack index words) (index + h) ≡ Some w
written_word [] stack index h w room e = cc
written_word (v ∷ words) stack index zero w room e =
    let rest = with_elements stack (index + 1) words in
    let size = written_length words stack (index + 1) in
    let low : index < length rest = omega (arith, room, size) in
    let same : index + 0 ≡ index = omega arith in
    ap (element (with_element rest index v)) same ∙ element_same rest index v low ∙ e
written_word (v ∷ words) stack index (suc h) w room e =
    let rest = with_elements stack (index + 1) words in
    let size = written_length words stack (index + 1) in
    let inside : h < length words = slice_get_within words h w e in
    let low : index < length rest = omega (arith, room, size) in
    let there : index + suc h < length rest = omega (arith, room, size, inside) in
    let same : index + suc h ≡ index + 1 + h = omega arith in
    element_other rest index (index + suc h) v low there (λ e. omega (arith, e))
    ∙ ap (element rest) same
    ∙ written_word words stack (index + 1) h w (omega (arith, room)) e

pub written_other : (words stack : List Word) (index i : ℕ) → index + length words ≤ length stack → i < length stack →
    ((h : ℕ) → h < length words → i ≢ index + h) → element (with_elements stack index words) i ≡ element stack i
written_other [] stack index i room low apart = refl
written_other (v ∷ words) stack index i room low apart =
    let rest = with_elements stack (index + 1) words in
    let size = written_length words stack (index + 1) in
    let at : index < length rest = omega (arith, room, size) in
    let there : i < length rest = omega (arith, low, size) in
    let first : i ≢ index + 0 = apart 0 (omega arith) in
    element_other rest index i v at there (λ e. first (omega (arith, e)))
    ∙ written_other words stack (index + 1) i (omega (arith, room)) low (λ h l e. apart (suc h) (omega (arith, l)) (omega (arith, e)))

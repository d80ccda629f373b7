-- Elements of the temporary stack counted from the bottom, by the stack's top.
use Rattle.std.{proofs.Common.{◌≡◌, ℕ, zero, suc, ◌-◌, ◌<◌, Some, None, List, ◌∷◌, length, refl, ap, sym, ◌∙◌, arith}, specs.Prelude.{if◌then◌else◌, slice_get}}
use Rattle.std.{specs.Prelude.slice_set, proofs.lemmas.Bool.lt-ltb}
use Rattle.piton_words.specs.declared.word.Word.{Word}
use Rattle.piton_semantics.specs.State.{element, with_element}

element_at : (stack : List Word) (i k : ℕ) → i < length stack → length stack - 1 - i ≡ k → element stack i ≡ slice_get stack k
element_at stack i k h e =
    ap (λ b. if b then slice_get stack (length stack - 1 - i) else None) (lt-ltb i (length stack) h) ∙ ap (slice_get stack) e

pub element_top : (w : Word) (stack : List Word) → element (w ∷ stack) (length stack) ≡ Some w
element_top w stack = element_at (w ∷ stack) (length stack) zero (omega arith) (omega arith)

pub element_below : (w : Word) (stack : List Word) (i : ℕ) → i < length stack → element (w ∷ stack) i ≡ element stack i
element_below w stack i h =
    element_at (w ∷ stack) i (suc (length stack - 1 - i)) (omega arith) (omega arith)
    ∙ sym (element_at stack i (length stack - 1 - i) h refl)

pub with_element_top : (w v : Word) (stack : List Word) → with_element (w ∷ stack) (length stack) v ≡ v ∷ stack
with_element_top w v stack = let e : length (w ∷ stack) - 1 - length stack ≡ zero = omega arith in ap (λ k. slice_set (w ∷ stack) k v) e

pub with_element_below : (w v : Word) (stack : List Word) (i : ℕ) → i < length stack →
    with_element (w ∷ stack) i v ≡ w ∷ with_element stack i v
with_element_below w v stack i h =
    let e : length (w ∷ stack) - 1 - i ≡ suc (length stack - 1 - i) = omega arith in ap (λ k. slice_set (w ∷ stack) k v) e

-- A stack listed from its bottom, and the same from its top.
use Rattle.std.{proofs.Common.{◌≡◌, ℕ, zero, suc, ◌+◌, ◌-◌, ◌<◌, Some, List, [], ◌∷◌, ◌++◌, length, sym, ap, ◌∙◌, arith}, specs.Prelude.{reverse, slice_get}}
use Rattle.std.{specs.Prelude.slice_set, proofs.lemmas.List.length-reverse, proofs.lemmas.Grind.reverse_onto, proofs.lemmas.Option.slice_get_within}
use Rattle.fm_code.proofs.ListLaws.{get_front, get_after, set_front, set_after}

turned : {A : Type 0} (x : A) (xs : List A) → reverse (x ∷ xs) ≡ reverse xs ++ x ∷ []
turned x xs = reverse_onto xs x []

-- the word of an index from the bottom
pub from_bottom : {A : Type 0} (xs : List A) (i : ℕ) (x : A) → slice_get xs i ≡ Some x → slice_get (reverse xs) (length xs - 1 - i) ≡ Some x
from_bottom [] i x h = cc
from_bottom (y ∷ xs) zero x h =
    let e : length (y ∷ xs) - 1 - 0 ≡ length (reverse xs) + 0 = omega (arith, length-reverse xs) in
    ap (λ k. slice_get (reverse (y ∷ xs)) k) e ∙ ap (λ zs. slice_get zs (length (reverse xs) + 0)) (turned y xs)
    ∙ get_after (reverse xs) (y ∷ []) 0 ∙ h
from_bottom (y ∷ xs) (suc i) x h =
    let within = slice_get_within xs i x h in
    let e : length (y ∷ xs) - 1 - suc i ≡ length xs - 1 - i = omega arith in
    ap (λ k. slice_get (reverse (y ∷ xs)) k) e ∙ ap (λ zs. slice_get zs (length xs - 1 - i)) (turned y xs)
    ∙ get_front (reverse xs) (y ∷ []) (length xs - 1 - i) x (from_bottom xs i x h)

-- and one that is set
pub set_from_bottom : {A : Type 0} (xs : List A) (i : ℕ) (v : A) → i < length xs → slice_set (reverse xs) (length xs - 1 - i) v ≡ reverse (slice_set xs i v)
set_from_bottom [] i v h = absurd (omega arith)
set_from_bottom (y ∷ xs) zero v h =
    let e : length (y ∷ xs) - 1 - 0 ≡ length (reverse xs) + 0 = omega (arith, length-reverse xs) in
    ap (λ k. slice_set (reverse (y ∷ xs)) k v) e ∙ ap (λ zs. slice_set zs (length (reverse xs) + 0) v) (turned y xs)
    ∙ set_after (reverse xs) (y ∷ []) 0 v ∙ sym (turned v xs)
set_from_bottom (y ∷ xs) (suc i) v h =
    let within : i < length xs = omega arith in
    let e : length (y ∷ xs) - 1 - suc i ≡ length xs - 1 - i = omega arith in
    let below : length xs - 1 - i < length (reverse xs) = omega (arith, length-reverse xs) in
    ap (λ k. slice_set (reverse (y ∷ xs)) k v) e ∙ ap (λ zs. slice_set zs (length xs - 1 - i) v) (turned y xs)
    ∙ set_front (reverse xs) (y ∷ []) (length xs - 1 - i) v below
    ∙ ap (λ zs. zs ++ y ∷ []) (set_from_bottom xs i v within) ∙ sym (turned y (slice_set xs i v))

-- Facts on the items of arrays that proofs about programs meet.
use Rattle.std.{proofs.Common.{◌≡◌, ◌≢◌, ℕ, zero, suc, ◌<◌, ◌≤◌, List, [], ◌∷◌, length, take, get_or, slice_set, refl, ap, arith}, specs.Prelude.{ℤ, pos}}

abbrev pub at : List ℤ → ℕ → ℤ
at zs i = get_or zs i (pos 0)

pub at_set : (zs : List ℤ) (i : ℕ) (z : ℤ) → i < length zs → at (slice_set zs i z) i ≡ z
at_set [] i z less = absurd (omega arith)
at_set (y ∷ zs) zero z less = refl
at_set (y ∷ zs) (suc i) z less = at_set zs i z (omega arith)

pub at_other : (zs : List ℤ) (i k : ℕ) (z : ℤ) → k ≢ i → at (slice_set zs i z) k ≡ at zs k
at_other [] i k z n = refl
at_other (y ∷ zs) zero zero z n = absurd (n refl)
at_other (y ∷ zs) zero (suc k) z n = refl
at_other (y ∷ zs) (suc i) zero z n = refl
at_other (y ∷ zs) (suc i) (suc k) z n = at_other zs i k z (λ e. n (ap suc e))

pub length_set : (zs : List ℤ) (i : ℕ) (z : ℤ) → length (slice_set zs i z) ≡ length zs
length_set [] i z = refl
length_set (y ∷ zs) zero z = refl
length_set (y ∷ zs) (suc i) z = ap suc (length_set zs i z)

pub take_all : (zs : List ℤ) (n : ℕ) → length zs ≤ n → take n zs ≡ zs
take_all [] zero h = refl
take_all [] (suc n) h = refl
take_all (z ∷ zs) zero h = absurd (omega arith)
take_all (z ∷ zs) (suc n) h = ap (λ (ys : List ℤ). z ∷ ys) (take_all zs n (omega arith))

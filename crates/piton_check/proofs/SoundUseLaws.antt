-- What holds of all items of a list holds of each.
use Rattle.std.proofs.Common.{◌≡◌, ℕ, zero, suc, List, [], ◌∷◌, slice_get, Some, All, subst, arith}

-- what holds of all items holds of the one at a position
pub all_at : {X : Type 0} (P : X → Type 0) (xs : List X) (i : ℕ) (x : X) → All P xs → slice_get xs i ≡ Some x → P x
all_at P [] i x h e = absurd cc
all_at P (y ∷ xs) zero x h e = let same : y ≡ x = cc in subst P same (h 0 y (omega arith))
all_at P (y ∷ xs) (suc i) x h e = all_at P xs i x (λ k d lt. h (suc k) d (omega (arith, lt))) e

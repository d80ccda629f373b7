-- What a list contains.
use Rattle.std.{proofs.Common.{◌≡◌, zero, suc, List, [], ◌∷◌, ◌⊎◌, inl, inr, refl, arith}, specs.List.Contains}

pub contains_none : {X : Type 0} {x : X} → Contains [] x → ⊥
contains_none (k, lt, e) = omega (arith, lt)

pub contains_first : {X : Type 0} (x : X) (xs : List X) → Contains (x ∷ xs) x
contains_first x xs = (0, omega arith, refl)

pub contains_later : {X : Type 0} (y : X) (xs : List X) (x : X) → Contains xs x → Contains (y ∷ xs) x
contains_later y xs x (k, lt, e) = (suc k, omega (arith, lt), e)

pub contains_cases : {X : Type 0} (y : X) (xs : List X) (x : X) → Contains (y ∷ xs) x → (y ≡ x) ⊎ Contains xs x
contains_cases y xs x (zero, lt, e) = inl e
contains_cases y xs x (suc k, lt, e) = inr (k, omega (arith, lt), e)

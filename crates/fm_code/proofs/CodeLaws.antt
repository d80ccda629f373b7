-- Where the words of the code are.
use Rattle.std.{proofs.Common.{◌≡◌, ℕ, zero, suc, ◌+◌, ◌-◌, Some, List, [], ◌∷◌, ◌++◌, length, refl, subst, arith}, specs.Prelude.slice_get}
use Rattle.fm_code.specs.Execution.{Parts, CodeAt, CodeWord}

-- words that the code has from its k-th word on are at its k-th address and those after it
code_from : (P : Parts) (k pc : ℕ) (ws : List ℕ) → pc ≡ P.base + k → ((j w : ℕ) → slice_get ws j ≡ Some w → slice_get P.code (k + j) ≡ Some w) → CodeAt P pc ws
code_from P k pc [] e h = tt
code_from P k pc (w ∷ ws) e h =
    let first : k + 0 ≡ pc - P.base = omega arith in
    let one = subst (λ i. slice_get P.code i ≡ Some w) first (h 0 w refl) in
    let rest = code_from P (k + 1) (pc + 1) ws (omega arith) (λ j v g. subst (λ i. slice_get P.code i ≡ Some v) (later j) (h (suc j) v g)) in
    (record { above = omega arith; found = one }, rest)
  where
    later : (j : ℕ) → k + suc j ≡ k + 1 + j
    later j = omega arith

-- all of the code is at base
pub code_whole : (P : Parts) → CodeAt P P.base P.code
code_whole P =
    code_from P 0 P.base P.code (omega arith) (λ j w g. subst (λ i. slice_get P.code i ≡ Some w) (none j) g)
  where
    none : (j : ℕ) → j ≡ 0 + j
    none j = omega arith

-- of words that are followed by others, both parts are in their places
pub code_front : (P : Parts) (pc : ℕ) (ws vs : List ℕ) → CodeAt P pc (ws ++ vs) → CodeAt P pc ws
code_front P pc [] vs code = tt
code_front P pc (w ∷ ws) vs code = (code.0, code_front P (pc + 1) ws vs code.1)

pub code_after : (P : Parts) (pc : ℕ) (ws vs : List ℕ) → CodeAt P pc (ws ++ vs) → CodeAt P (pc + length ws) vs
code_after P pc [] vs code =
    let e : pc ≡ pc + length {A = ℕ} [] = omega arith in
    subst (λ a. CodeAt P a vs) e code
code_after P pc (w ∷ ws) vs code =
    let e : pc + 1 + length ws ≡ pc + length (w ∷ ws) = omega arith in
    subst (λ a. CodeAt P a vs) e (code_after P (pc + 1) ws vs code.1)

-- one of the words
pub code_get : (P : Parts) (pc k w : ℕ) (ws : List ℕ) → slice_get ws k ≡ Some w → CodeAt P pc ws → CodeWord P (pc + k) w
code_get P pc k w [] g code = cc
code_get P pc zero w (v ∷ ws) g code =
    let e : pc ≡ pc + 0 = omega arith in
    let same : v ≡ w = cc in
    subst (λ a. CodeWord P a w) e (subst (λ u. CodeWord P pc u) same code.0)
code_get P pc (suc k) w (v ∷ ws) g code =
    let e : pc + 1 + k ≡ pc + suc k = omega arith in
    subst (λ a. CodeWord P a w) e (code_get P (pc + 1) k w ws g code.1)

-- Words up to the last that isn't zero.
use Rattle.std.{proofs.Common.{◌≡◌, ◌≢◌, ℕ, zero, suc, ◌+◌, ◌-◌, ◌<◌, List, [], ◌∷◌, ◌++◌, length, take, refl, sym, ap, ◌∙◌, arith}, specs.Prelude.get_or}
use Rattle.std.specs.Prelude.{replicate}
use Rattle.piton_linker.specs.Layouts.{before_zeros, trimmed}

-- a zero more at the end changes nothing
trimmed-zero : (ws : List ℕ) → trimmed (ws ++ 0 ∷ []) ≡ trimmed ws
trimmed-zero [] = refl
trimmed-zero (w ∷ ws) = ap (before_zeros w) (trimmed-zero ws)

before_zeros-some : (w v : ℕ) (ws : List ℕ) → before_zeros w (v ∷ ws) ≡ w ∷ v ∷ ws
before_zeros-some zero v ws = refl
before_zeros-some (suc w) v ws = refl

-- words that end in one that isn't zero are kept
trimmed-word : (ws : List ℕ) (w : ℕ) → w ≢ 0 → trimmed (ws ++ w ∷ []) ≡ ws ++ w ∷ []
trimmed-word [] zero h = absurd (h refl)
trimmed-word [] (suc w) h = refl
trimmed-word (v ∷ []) w h = ap (before_zeros v) (trimmed-word [] w h) ∙ before_zeros-some v w []
trimmed-word (v ∷ u ∷ ws) w h = ap (before_zeros v) (trimmed-word (u ∷ ws) w h) ∙ before_zeros-some v u (ws ++ w ∷ [])

take-next : (ws : List ℕ) (k d : ℕ) → k < length ws → take (k + 1) ws ≡ take k ws ++ get_or ws k d ∷ []
take-next [] k d h = absurd (omega arith)
take-next (w ∷ ws) zero d h = refl
take-next (w ∷ ws) (suc k) d h =
    let count : suc k + 1 ≡ suc (k + 1) = omega arith in
    ap (λ n. take n (w ∷ ws)) count ∙ ap (λ vs. w ∷ vs) (take-next ws k d (omega arith))

-- the words so far: the next one is zero, or it is the last so far that isn't
pub zero_next : (ws : List ℕ) (used k d : ℕ) → take used ws ≡ trimmed (take k ws) → get_or ws k d ≡ 0 → k < length ws → take used ws ≡ trimmed (take (k + 1) ws)
zero_next ws used k d h is lt =
    h ∙ sym (trimmed-zero (take k ws)) ∙ ap (λ w. trimmed (take k ws ++ w ∷ [])) (sym is) ∙ ap trimmed (sym (take-next ws k d lt))

pub word_next : (ws : List ℕ) (k d : ℕ) → get_or ws k d ≢ 0 → k < length ws → take (k + 1) ws ≡ trimmed (take (k + 1) ws)
word_next ws k d h lt =
    take-next ws k d lt ∙ sym (trimmed-word (take k ws) (get_or ws k d) h) ∙ ap trimmed (sym (take-next ws k d lt))

rest_by : (w : ℕ) (rest vs : List ℕ) → rest ≡ vs ++ replicate (length rest - length vs) 0
    → w ∷ rest ≡ before_zeros w vs ++ replicate (length (w ∷ rest) - length (before_zeros w vs)) 0
rest_by zero rest [] e =
    let count : suc (length rest) - 0 ≡ suc (length rest - 0) = omega arith in
    ap (λ ws. 0 ∷ ws) e ∙ ap (λ n. replicate n 0) (sym count)
rest_by zero rest (v ∷ vs) e = ap (λ ws. 0 ∷ ws) (e ∙ ap (λ n. v ∷ (vs ++ replicate n 0)) (omega arith))
rest_by (suc w) rest vs e = ap (λ ws. suc w ∷ ws) (e ∙ ap (λ n. vs ++ replicate n 0) (omega arith))

-- what is taken off is zeros
pub trimmed-rest : (ws : List ℕ) → ws ≡ trimmed ws ++ replicate (length ws - length (trimmed ws)) 0
trimmed-rest [] = refl
trimmed-rest (w ∷ ws) = rest_by w ws (trimmed ws) (trimmed-rest ws)

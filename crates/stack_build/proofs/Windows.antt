-- A window of zeros into which words are stored up to the last that isn't zero.
use Rattle.std.proofs.Common.{◌≡◌, ◌≤◌, ◌+◌, ◌-◌, ℕ, zero, suc, List, [], ◌∷◌, ◌++◌, length, drop, refl, sym, ap, ◌∙◌, append_assoc, arith}
use Rattle.std.{specs.Prelude.{replicate, slice_set}, proofs.Math.Seq.set-append_seam, proofs.lemmas.List.{length-append, length-replicate}}
use Rattle.fm_machine.specs.State.{with_word}
use Rattle.fm_loader.specs.Loaded.{with_words}
use Rattle.piton_linker.{specs.Layouts.trimmed, proofs.TrimLaws.trimmed-rest}

-- they are no more than all
pub shorter : (ws : List ℕ) → length (trimmed ws) ≤ length ws
shorter ws = omega (arith, ap length (trimmed-rest ws), length-append (trimmed ws) (replicate (length ws - length (trimmed ws)) 0))

at_seam : (base n : ℕ) (front : List ℕ) (r w : ℕ) (rest : List ℕ) → n ≡ length front → with_word base (front ++ r ∷ rest) (base + n) w ≡ front ++ w ∷ rest
unfolding with_word
at_seam base n front r w rest is =
    let at : base + n - base ≡ length front = omega arith in
    ap (λ (i : ℕ). slice_set (front ++ r ∷ rest) i w) at ∙ set-append_seam front r rest w

-- words stored behind others
words_over : (base k : ℕ) (ws front rest : List ℕ) → k ≡ length front → length ws ≤ length rest
    → with_words base (base + k) ws (front ++ rest) ≡ front ++ (ws ++ drop (length ws) rest)
words_over base k [] front rest at fits = refl
words_over base k (w ∷ ws) front [] at fits = absurd (omega arith)
words_over base k (w ∷ ws) front (r ∷ rest) at fits =
    let first : with_word base (front ++ r ∷ rest) (base + k) w ≡ (front ++ w ∷ []) ++ rest =
    at_seam base k front r w rest at ∙ sym (append_assoc front (w ∷ []) rest) in
    let next : base + k + 1 ≡ base + (k + 1) = omega arith in
    ap (λ (m : List ℕ). with_words base (base + k + 1) ws m) first
    ∙ ap (λ (n : ℕ). with_words base n ws ((front ++ w ∷ []) ++ rest)) next
    ∙ words_over base (k + 1) ws (front ++ w ∷ []) rest (omega (arith, length-append front (w ∷ []))) (omega arith)
    ∙ append_assoc front (w ∷ []) (ws ++ drop (length ws) rest)

drop-replicate : (n k : ℕ) → drop n (replicate {A = ℕ} k 0) ≡ replicate (k - n) 0
drop-replicate zero k = let count : k ≡ k - 0 = omega arith in ap (λ (m : ℕ). replicate {A = ℕ} m 0) count
drop-replicate (suc n) zero = let count : 0 ≡ 0 - suc n = omega arith in ap (λ (m : ℕ). replicate {A = ℕ} m 0) count
drop-replicate (suc n) (suc k) = let count : k - n ≡ suc k - suc n = omega arith in drop-replicate n k ∙ ap (λ (m : ℕ). replicate {A = ℕ} m 0) count

-- it has all of them
pub all_stand : (base size : ℕ) (ws : List ℕ) → length ws ≡ size → with_words base base (trimmed ws) (replicate size 0) ≡ ws
all_stand base size ws long =
    let zeros : List ℕ = replicate size 0 in
    let start : base ≡ base + 0 = omega arith in
    let count : length zeros ≡ size = length-replicate size 0 in
    ap (λ (a : ℕ). with_words base a (trimmed ws) zeros) start
    ∙ words_over base 0 (trimmed ws) [] zeros refl (omega (arith, shorter ws))
    ∙ ap (λ (rest : List ℕ). trimmed ws ++ rest)
    (drop-replicate (length (trimmed ws)) size ∙ ap (λ (m : ℕ). replicate {A = ℕ} (m - length (trimmed ws)) 0) (sym long))
    ∙ sym (trimmed-rest ws)

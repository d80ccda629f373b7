-- The numbers of the data of a placed system.
use Rattle.std.proofs.Common.{◌≡◌, ℕ, zero, suc, ◌+◌, ◌-◌, ◌<◌, Some, List, [], ◌∷◌, ◌++◌, length, take, reverse, sym, ap, ◌∙◌, arith, append_assoc}
use Rattle.std.{specs.Prelude.{get_or, slice_get}, proofs.lemmas.List.{append-nil, length-reverse, get_or-reverse}}
use Rattle.piton_words.specs.declared.word.Word.{Word}
use Rattle.piton_check.specs.Instruction.{SystemView}
use Rattle.piton_semantics.{specs.Addresses.{word_number, numbers}, specs.Placed.addresses_of}
use Rattle.piton_linker.specs.Tables.{areas_words}

pub numbers_more : (s : SystemView) (k w : ℕ) (ws : List Word) (d : Word) → w ≡ word_number (addresses_of s) (get_or ws k d) → k < length ws
    → numbers (addresses_of s) (take k ws) ++ w ∷ [] ≡ numbers (addresses_of s) (take (k + 1) ws)
numbers_more s k w [] d e lt = absurd (omega arith)
numbers_more s zero w (x ∷ ws) d e lt = ap (λ n. n ∷ []) e
numbers_more s (suc k) w (x ∷ ws) d e lt =
    let count : suc (k + 1) ≡ suc k + 1 = omega arith in
    ap (λ ns. word_number (addresses_of s) x ∷ ns) (numbers_more s k w ws d e (omega arith)) ∙ ap (λ n. numbers (addresses_of s) (take n (x ∷ ws))) count

pub areas_more : (s : SystemView) (k : ℕ) (xss : List (List Word)) (xs : List Word) → slice_get xss k ≡ Some xs
    → areas_words s (take k xss) ++ numbers (addresses_of s) xs ≡ areas_words s (take (k + 1) xss)
areas_more s k [] xs h = cc
areas_more s zero (ys ∷ xss) xs h = let same : ys ≡ xs = cc in sym (append-nil (numbers (addresses_of s) ys) ∙ ap (numbers (addresses_of s)) same)
areas_more s (suc k) (ys ∷ xss) xs h =
    let count : suc (k + 1) ≡ suc k + 1 = omega arith in
    append_assoc (numbers (addresses_of s) ys) (areas_words s (take k xss)) (numbers (addresses_of s) xs)
    ∙ ap (λ ws. numbers (addresses_of s) ys ++ ws) (areas_more s k xss xs h)
    ∙ ap (λ n. areas_words s (take n (ys ∷ xss))) count

pub reversed_more : (s : SystemView) (k w j : ℕ) (ws : List Word) (d : Word) → w ≡ word_number (addresses_of s) (get_or ws j d) → j ≡ length ws - 1 - k
    → k < length ws → numbers (addresses_of s) (take k (reverse ws)) ++ w ∷ [] ≡ numbers (addresses_of s) (take (k + 1) (reverse ws))
reversed_more s k w j ws d e at lt =
    let size = length-reverse ws in
    let there : get_or (reverse ws) k d ≡ get_or ws j d = get_or-reverse ws k d lt ∙ ap (λ n. get_or ws n d) (omega arith) in
    numbers_more s k w (reverse ws) d (e ∙ sym (ap (word_number (addresses_of s)) there)) (omega arith)

-- the parts of the memory, put together
pub assembled : (code areas gap frame free stack : List ℕ) (halt : ℕ) → (((((code ++ halt ∷ []) ++ areas) ++ gap) ++ frame) ++ free) ++ stack ≡ code
    ++ (halt ∷ (areas ++ (gap ++ (frame ++ (free ++ stack)))))
assembled code areas gap frame free stack halt =
    append_assoc ((((code ++ halt ∷ []) ++ areas) ++ gap) ++ frame) free stack
    ∙ append_assoc (((code ++ halt ∷ []) ++ areas) ++ gap) frame (free ++ stack)
    ∙ append_assoc ((code ++ halt ∷ []) ++ areas) gap (frame ++ (free ++ stack))
    ∙ append_assoc (code ++ halt ∷ []) areas (gap ++ (frame ++ (free ++ stack)))
    ∙ append_assoc code (halt ∷ []) (areas ++ (gap ++ (frame ++ (free ++ stack))))

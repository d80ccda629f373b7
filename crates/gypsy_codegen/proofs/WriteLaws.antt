-- Lines that are written one behind the other.
use Rattle.std.proofs.Common.{◌≡◌, ℕ, suc, ◌+◌, ◌-◌, ◌<◌, List, ◌∷◌, ◌++◌, length, drop, get_or, replicate, sym, ap, ◌∙◌, append_assoc, arith}
use Rattle.std.proofs.lemmas.List.{get_or_default}
use Rattle.stack_text.proofs.Loops.{drop-item}

-- the lines of an item are written: they, and those of what is left, behind what is there
pub more_next : {X Y : Type 0} (f : List X → List Y) (xs : List X) (n : ℕ) (x : X) (piece old new all : List Y) →
    n < length xs → x ≡ get_or xs n x → f (x ∷ drop (n + 1) xs) ≡ piece ++ f (drop (n + 1) xs) → new ≡ old ++ piece →
    old ++ f (drop n xs) ≡ all → new ++ f (drop (n + 1) xs) ≡ all
more_next {X} {Y} f xs n x piece old new all lt is split now so_far =
    ap (λ (ys : List Y). ys ++ f (drop (n + 1) xs)) now ∙ append_assoc old piece (f (drop (n + 1) xs))
    ∙ ap (λ (ys : List Y). old ++ ys) (sym split)
    ∙ ap (λ (rest : List X). old ++ f rest) (sym (drop-item xs n x lt is))
    ∙ so_far

-- one of several equal items is written, and one fewer is left
pub copy_next : {X Y : Type 0} (f : List X → List Y) (x : X) (n k : ℕ) (piece old new all : List Y) → k < n →
    ((xs : List X) → f (x ∷ xs) ≡ piece ++ f xs) → new ≡ old ++ piece → old ++ f (replicate (n - k) x) ≡ all →
    new ++ f (replicate (n - (k + 1)) x) ≡ all
copy_next {X} {Y} f x n k piece old new all lt split now so_far =
    let one : n - k ≡ suc (n - (k + 1)) = omega (arith, lt) in
    let left = replicate (n - (k + 1)) x in
    ap (λ (ys : List Y). ys ++ f left) now ∙ append_assoc old piece (f left)
    ∙ ap (λ (ys : List Y). old ++ ys) (sym (split left))
    ∙ ap (λ (m : ℕ). old ++ f (replicate m x)) (sym one)
    ∙ so_far

-- the same, where what is written goes by the number of the item
pub numbered_next : {X Y : Type 0} (f : ℕ → List X → List Y) (xs : List X) (n : ℕ) (d : X) (piece old new all : List Y) →
    n < length xs → ((x : X) (rest : List X) → f n (x ∷ rest) ≡ piece ++ f (n + 1) rest) → new ≡ old ++ piece →
    old ++ f n (drop n xs) ≡ all → new ++ f (n + 1) (drop (n + 1) xs) ≡ all
numbered_next {X} {Y} f xs n d piece old new all lt split now so_far =
    let x : X = get_or xs n d in
    let left = drop (n + 1) xs in
    ap (λ (ys : List Y). ys ++ f (n + 1) left) now ∙ append_assoc old piece (f (n + 1) left)
    ∙ ap (λ (ys : List Y). old ++ ys) (sym (split x left))
    ∙ ap (λ (rest : List X). old ++ f n rest) (sym (drop-item xs n x lt (get_or_default xs n d x lt)))
    ∙ so_far

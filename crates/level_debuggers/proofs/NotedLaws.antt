-- A list whose items are changed one after the other.
use Rattle.std.{proofs.Common.{◌≡◌, ◌+◌, ◌<◌, ◌≤◌, ℕ, zero, suc, List, [], ◌∷◌, length, map, get_or, refl, ap, add-one, arith}, proofs.Math.ListN.set}

-- the first n items are changed
abbrev pub changed : {X : Type 0} → (X → X) → ℕ → List X → List X
changed change zero xs = xs
changed change (suc n) [] = []
changed change (suc n) (x ∷ xs) = change x ∷ changed change n xs

pub changed_all : {X : Type 0} (change : X → X) (n : ℕ) (xs : List X) → length xs ≤ n → changed change n xs ≡ map change xs
changed_all change zero [] h = refl
changed_all change zero (x ∷ xs) h = absurd (omega arith)
changed_all change (suc n) [] h = refl
changed_all {X} change (suc n) (x ∷ xs) h = ap (λ (ys : List X). change x ∷ ys) (changed_all change n xs (omega arith))

-- one more is changed
changed_suc : {W X : Type 0} (seen : W → X) (change : X → X) (n : ℕ) (items : List W) (or new : W) (before : List X)
    → n < length items → seen new ≡ change (seen (get_or items n or)) → map seen items ≡ changed change n before
    → map seen (set items n new) ≡ changed change (suc n) before
changed_suc seen change n [] or new before lt is so_far = absurd (omega arith)
changed_suc seen change zero (w ∷ items) or new [] lt is so_far = absurd cc
changed_suc seen change zero (w ∷ items) or new (x ∷ before) lt is so_far = cc
changed_suc seen change (suc n) (w ∷ items) or new [] lt is so_far = absurd cc
changed_suc seen change (suc n) (w ∷ items) or new (x ∷ before) lt is so_far =
    let rest : map seen items ≡ changed change n before = cc in
    let more : map seen (set items n new) ≡ changed change (suc n) before = changed_suc seen change n items or new before (omega arith) is rest in
    cc

pub changed_more : {W X : Type 0} (items : List W) (or new : W) (seen : W → X) (change : X → X) (n : ℕ) (before : List X)
    → n < length items → seen new ≡ change (seen (get_or items n or)) → map seen items ≡ changed change n before
    → map seen (set items n new) ≡ changed change (n + 1) before
changed_more items or new seen change n before lt is so_far =
    rw (add-one n) (changed_suc seen change n items or new before lt is so_far)

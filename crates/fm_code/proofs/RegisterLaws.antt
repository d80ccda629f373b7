-- Sixteen registers as a function of their numbers.
use Rattle.std.{proofs.Common.{◌≡◌, ℕ, zero, suc, ◌+◌, ◌<◌, List, [], ◌∷◌, length, refl, ap, ◌∙◌, arith, false}, specs.Prelude.{slice_index, slice_set}}
use Rattle.std.{specs.Prelude.{if◌then◌else◌, ◌==◌}, proofs.lemmas.Bool.Decides.nat_tests}

-- the sixteen registers, from a function of their numbers
abbrev pub registers_of : (ℕ → ℕ) → List ℕ
registers_of r = r 0 ∷ r 1 ∷ r 2 ∷ r 3 ∷ r 4 ∷ r 5 ∷ r 6 ∷ r 7 ∷ r 8 ∷ r 9 ∷ r 10 ∷ r 11 ∷ r 12 ∷ r 13 ∷ r 14 ∷ r 15 ∷ []

-- such a function, with the k-th register set
abbrev pub with_register : (ℕ → ℕ) → ℕ → ℕ → ℕ → ℕ
with_register r k v n = if n == k then v else r n

-- the registers when the pc has passed an instruction's word, and when it has passed the word after it too
abbrev pub next : (ℕ → ℕ) → ℕ → ℕ
next r = with_register r 15 (r 15 + 1)

abbrev pub past : (ℕ → ℕ) → ℕ → ℕ
past r = with_register r 15 (r 15 + 1 + 1)

-- the first n values of a function
table : ℕ → (ℕ → ℕ) → List ℕ
table zero r = []
table (suc n) r = r 0 ∷ table n (λ k. r (suc k))

tabled : (rs : List ℕ) → rs ≡ table (length rs) (slice_index rs)
unfolding table
tabled [] = refl
tabled (x ∷ rs) = ap (λ ys. x ∷ ys) (tabled rs)

-- a list of sixteen words is such registers
pub sixteen_are : (rs : List ℕ) → length rs ≡ 16 → rs ≡ registers_of (slice_index rs)
unfolding table
sixteen_are rs h = tabled rs ∙ ap (λ n. table n (slice_index rs)) h

index_table : (n k : ℕ) (r : ℕ → ℕ) → k < n → slice_index (table n r) k ≡ r k
unfolding table
index_table zero k r h = absurd (omega arith)
index_table (suc n) zero r h = refl
index_table (suc n) (suc k) r h = index_table n k (λ j. r (suc j)) (omega arith)

-- a register is read
pub index_of : (k : ℕ) (r : ℕ → ℕ) → k < 16 → slice_index (registers_of r) k ≡ r k
unfolding table
index_of k r h = index_table 16 k r h

same_table : (n : ℕ) (r q : ℕ → ℕ) → ((k : ℕ) → r k ≡ q k) → table n r ≡ table n q
unfolding table
same_table zero r q h = refl
same_table (suc n) r q h = λ i. h 0 i ∷ same_table n (λ k. r (suc k)) (λ k. q (suc k)) (λ k. h (suc k)) i

set_table : (n k v : ℕ) (r : ℕ → ℕ) → k < n → slice_set (table n r) k v ≡ table n (with_register r k v)
unfolding table
set_table zero k v r h = absurd (omega arith)
set_table (suc n) zero v r h =
    ap (λ ys. v ∷ ys) (same_table n (λ k. r (suc k)) (λ k. with_register r 0 v (suc k)) (λ k. later k))
  where
    later : (k : ℕ) → r (suc k) ≡ with_register r 0 v (suc k)
    later k = let e : (suc k == 0) ≡ false = grind (arith, nat_tests) in rw e refl
set_table (suc n) (suc k) v r h =
    let first : r 0 ≡ with_register r (suc k) v 0 = at_front in
    let rest = set_table n k v (λ j. r (suc j)) (omega arith) in
    let same = same_table n (with_register (λ j. r (suc j)) k v) (λ j. with_register r (suc k) v (suc j)) (λ j. later j) in
    λ i. first i ∷ (rest ∙ same) i
  where
    at_front : r 0 ≡ with_register r (suc k) v 0
    at_front = let e : (0 == suc k) ≡ false = grind (arith, nat_tests) in rw e refl

    later : (j : ℕ) → with_register (λ i. r (suc i)) k v j ≡ with_register r (suc k) v (suc j)
    later j = let e : (suc j == suc k) ≡ (j == k) = grind (arith, nat_tests) in rw e refl

-- a register is set
pub set_of : (k v : ℕ) (r : ℕ → ℕ) → k < 16 → slice_set (registers_of r) k v ≡ registers_of (with_register r k v)
unfolding table
set_of k v r h = set_table 16 k v r h

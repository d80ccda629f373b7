-- Words of bits, and the words of the register file.
use Rattle.std.proofs.Common.{◌≡◌, ◌≢◌, ℕ, zero, suc, ◌+◌, ◌-◌, ◌*◌, ◌/◌, ◌%◌, ◌^◌, ◌<◌, ◌≤◌, ◌==◌, ◌&&◌, Bool, true, false, not, List, [], ◌∷◌, refl, ap, ◌∙◌}
use Rattle.std.{proofs.Common.{arith, eq-eqb, pow-suc, if◌then◌else◌}, proofs.lemmas.Bool.ne_eqb, proofs.lemmas.Nat.Bits.{bit_at-suc, bit_at_lowest, bit_at-lt}}
use Rattle.std.{proofs.lemmas.Nat.Bits.same_from_bits_below, specs.Prelude.{map, min, slice_index, slice_set}, specs.Int.{from_bool as bit_of, bit_at}}
use Rattle.fm_gates.{specs.Gates.file_numbers, specs.Netlist.word_of_bits}

-- a word of bits is below its power
pub word_below : (n : ℕ) (f : ℕ → ℕ) → ((i : ℕ) → i < n → f i < 2) → word_of_bits n f < 2 ^ n
unfolding word_of_bits
word_below zero f h = omega arith
word_below (suc n) f h =
    let first = h 0 (omega arith) in
    let rest = word_below n (λ i. f (suc i)) (λ i lt. h (suc i) (omega arith)) in
    omega (arith, first, rest, pow-suc 2 n)

-- and has them
pub bit_of_word : (n : ℕ) (f : ℕ → ℕ) (i : ℕ) → ((i : ℕ) → i < n → f i < 2) → i < n → bit_at (word_of_bits n f) i ≡ f i
unfolding word_of_bits
bit_of_word zero f i h lt = absurd (omega arith)
bit_of_word (suc n) f zero h lt =
    let first = h 0 (omega arith) in
    let low : (f 0 + 2 * word_of_bits n (λ i. f (suc i))) % 2 ≡ f 0 = omega (arith, first) in
    bit_at_lowest (f 0 + 2 * word_of_bits n (λ i. f (suc i))) ∙ low
bit_of_word (suc n) f (suc i) h lt =
    let first = h 0 (omega arith) in
    let high : (f 0 + 2 * word_of_bits n (λ i. f (suc i))) / 2 ≡ word_of_bits n (λ i. f (suc i)) = omega (arith, first) in
    bit_at-suc (f 0 + 2 * word_of_bits n (λ i. f (suc i))) i ∙ ap (λ x. bit_at x i) high
    ∙ bit_of_word n (λ i. f (suc i)) i (λ j below. h (suc j) (omega arith)) (omega arith)

-- a word is that of its bits
pub word_of_own : (n x : ℕ) → x < 2 ^ n → word_of_bits n (bit_at x) ≡ x
word_of_own n x lt =
    same_from_bits_below n (word_of_bits n (bit_at x)) x (word_below n (bit_at x) (λ i below. bit_at-lt x i)) lt
    (λ i below. bit_of_word n (bit_at x) i (λ j less. bit_at-lt x j) below)

pub zero_word : (n : ℕ) (f : ℕ → ℕ) → ((i : ℕ) → f i ≡ 0) → word_of_bits n f ≡ 0
unfolding word_of_bits
zero_word zero f h = refl
zero_word (suc n) f h =
    let first = h 0 in
    let rest = zero_word n (λ i. f (suc i)) (λ i. h (suc i)) in
    omega (arith, first, rest)

-- one of two words, bit by bit
pub picked_word : (t : Bool) (n by : ℕ) (f g : ℕ → ℕ) → by ≡ bit_of t → word_of_bits n (λ i. slice_index (f i ∷ g i ∷ []) by)
    ≡ (if t then word_of_bits n g else word_of_bits n f)
picked_word true n by f g e = ap (λ k. word_of_bits n (λ i. slice_index (f i ∷ g i ∷ []) k)) e
picked_word false n by f g e = ap (λ k. word_of_bits n (λ i. slice_index (f i ∷ g i ∷ []) k)) e

-- numbers from one on
abbrev numbers_from : ℕ → ℕ → List ℕ
numbers_from k zero = []
numbers_from k (suc m) = k ∷ numbers_from (suc k) m

module _ (n x : ℕ) (f g : ℕ → ℕ) (same : (r : ℕ) → r < 16 → g r ≡ (if n == r then x else f r)) where
  at_number : (r : ℕ) → r < 16 → n ≡ r → g r ≡ x
  at_number r lt e = same r lt ∙ ap (λ t. if t then x else f r) (eq-eqb n r e)

  at_other : (r : ℕ) → r < 16 → n ≢ r → g r ≡ f r
  at_other r lt ne = same r lt ∙ ap (λ t. if t then x else f r) (ne_eqb n r ne)

  -- before the number nothing differs
  past_number : (k m : ℕ) → k + m ≤ 16 → n < k → map g (numbers_from k m) ≡ map f (numbers_from k m)
  past_number k zero le lt = refl
  past_number k (suc m) le lt = λ j. at_other k (omega arith) apart j ∷ past_number (suc k) m (omega arith) (omega arith) j
    where
      apart : n ≢ k
      apart e = absurd (omega arith)

  set_from : (k m j : ℕ) → k + m ≤ 16 → n ≡ k + j → map g (numbers_from k m) ≡ slice_set (map f (numbers_from k m)) j x
  set_from k zero j le e = refl
  set_from k (suc m) zero le e = λ i. at_number k (omega arith) (omega arith) i ∷ past_number (suc k) m (omega arith) (omega arith) i
  set_from k (suc m) (suc j) le e = λ i. at_other k (omega arith) apart i ∷ set_from (suc k) m j (omega arith) (omega arith) i
    where
      apart : n ≢ k
      apart is = absurd (omega arith)

same_from : (f g : ℕ → ℕ) (k m : ℕ) → k + m ≤ 16 → ((r : ℕ) → r < 16 → g r ≡ f r) → map g (numbers_from k m) ≡ map f (numbers_from k m)
same_from f g k zero le same = refl
same_from f g k (suc m) le same = λ j. same k (omega arith) j ∷ same_from f g (suc k) m (omega arith) same j

-- the register file, of which one word is written or none
pub file_words : (write : Bool) (n x : ℕ) (f g : ℕ → ℕ) → ((r : ℕ) → r < 16 → g r ≡ (if write && (n == r) then x else f r))
    → map g file_numbers ≡ (if write then slice_set (map f file_numbers) n x else map f file_numbers)
file_words true n x f g same = set_from n x f g same 0 16 n (omega arith) (omega arith)
file_words false n x f g same = same_from f g 0 16 (omega arith) same

-- the gates of a write
pub write_bit : (reset : Bool) (write : ℕ) → write < 2 → min (1 - bit_of reset) write ≡ bit_of (not reset && (write == 1))
write_bit true zero h = refl
write_bit true (suc zero) h = refl
write_bit false zero h = refl
write_bit false (suc zero) h = refl
write_bit reset (suc (suc n)) h = absurd (omega arith)

pub file_bit : (reset chosen : Bool) (write : ℕ) → write < 2 → min (1 - bit_of reset) (min write (bit_of chosen)) ≡ bit_of (not reset && (write == 1) && chosen)
file_bit true true zero h = refl
file_bit true false zero h = refl
file_bit true true (suc zero) h = refl
file_bit true false (suc zero) h = refl
file_bit false true zero h = refl
file_bit false false zero h = refl
file_bit false true (suc zero) h = refl
file_bit false false (suc zero) h = refl
file_bit reset chosen (suc (suc n)) h = absurd (omega arith)

pub is_one : (t : Bool) → (bit_of t == 1) ≡ t
is_one true = refl
is_one false = refl

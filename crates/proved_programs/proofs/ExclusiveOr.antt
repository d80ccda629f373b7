-- Exclusive or of natural numbers.
use Rattle.std.{proofs.Common.{◌≡◌, ℕ, zero, suc, ◌+◌, ◌-◌, ◌*◌, ◌/◌, ◌%◌, ◌^◌, ◌<◌, ◌≤◌, ◌⊎◌, inl, inr, sym, ap, ◌∙◌, subst, arith}, specs.Prelude.bit_xor}
use Rattle.std.{specs.Int.bit_at, specs.Int.Bits.{xor_self, xor_zero_l, xor_zero_r}, proofs.Math.Nat.div-mul-le_self, proofs.lemmas.Bool.cases_lt}
use Rattle.std.{proofs.lemmas.Nat.{xor_comm, xor_shr, xor_block, leading_top, pow-add, pow_pos, div-mul-add, le-div}, proofs.lemmas.Nat.Bits.bit_at_xor}
use Rattle.std.proofs.lemmas.Nat.Bits.{same_from_bits}

pub xor_assoc : (a b c : ℕ) → bit_xor (bit_xor a b) c ≡ bit_xor a (bit_xor b c)
xor_assoc a b c = same_from_bits _ _ (λ i.
    let e = bit_at_xor (bit_xor a b) c i in
    let f = bit_at_xor a b i in
    let g = bit_at_xor a (bit_xor b c) i in
    let h = bit_at_xor b c i in
    bits (bit_at a i) (bit_at b i) (bit_at c i) (bit_at (bit_xor a b) i) (bit_at (bit_xor b c) i) _ _ e f g h)
  where
    bits : (a b c ab bc l r : ℕ) → l ≡ (ab + c) % 2 → ab ≡ (a + b) % 2 → r ≡ (a + bc) % 2 → bc ≡ (b + c) % 2 → l ≡ r
    bits a b c ab bc l r e f g h = omega arith

-- a number twice falls out
pub xor_twice : (a b : ℕ) → bit_xor a (bit_xor a b) ≡ b
xor_twice a b = sym (xor_assoc a a b) ∙ ap (λ (n : ℕ). bit_xor n b) (xor_self a) ∙ xor_zero_l b

-- the order of two in front is free
pub xor_exchange : (a b c : ℕ) → bit_xor a (bit_xor b c) ≡ bit_xor b (bit_xor a c)
xor_exchange a b c = sym (xor_assoc a b c) ∙ ap (λ (n : ℕ). bit_xor n c) (xor_comm a b) ∙ xor_assoc b a c

pub doubled : (n : ℕ) → 2 ^ suc n ≡ 2 ^ n * 2
doubled n = ap (λ (m : ℕ). 2 ^ m) (let e : suc n ≡ n + 1 = omega arith in e) ∙ pow-add 2 n 1

-- a number other than 0 has a highest bit
pub highest : (s : ℕ) → 0 < s → (j : ℕ) × (s / 2 ^ j ≡ 1)
highest s more =
    let t = leading_top s s more (below s) in
    (t.0, one t.0 (t.2) (t.3))
  where
    below : (n : ℕ) → n < 2 ^ n
    below zero = omega arith
    below (suc n) = let h = below n in let e = doubled n in omega arith

    one : (j : ℕ) → 2 ^ j ≤ s → s < 2 ^ suc j → s / 2 ^ j ≡ 1
    one j low high =
        let e = doubled j in
        let f : 1 * 2 ^ j + (s - 2 ^ j) ≡ s = omega arith in
        subst (λ (n : ℕ). n / 2 ^ j ≡ 1) f (div-mul-add 1 (2 ^ j) (s - 2 ^ j) (omega arith))

-- exclusive or with 1 takes 1 from an odd number
odd_less : (m : ℕ) → m % 2 ≡ 1 → bit_xor m 1 < m
odd_less m odd =
    let e : m / 2 * 2 + 1 ≡ m = omega (arith, odd) in
    subst (λ (n : ℕ). bit_xor n 1 < n) e
    (let f : bit_xor (m / 2 * 2 + 1) 1 ≡ bit_xor (m / 2) 0 * 2 + bit_xor 1 1 = xor_block 1 (m / 2) 0 1 1 (omega arith) (omega arith) in
    omega (arith, f, xor_zero_r (m / 2), xor_self 1))

quotient_less : (a b k : ℕ) → a / 2 ^ k < b / 2 ^ k → a < b
quotient_less a b k less = pick (cases_lt a b)
  where
    pick : (a < b) ⊎ (b ≤ a) → a < b
    pick (inl h) = h
    pick (inr h) =
        let e : b / 2 ^ k ≤ a / 2 ^ k = le-div (b / 2 ^ k) a (2 ^ k) (pow_pos k) (omega (arith, h, div-mul-le_self b (2 ^ k))) in
        absurd (omega arith)

-- with the highest bit of s in x, the exclusive or of both is less than x
pub xor_less : (x s j : ℕ) → s / 2 ^ j ≡ 1 → bit_at x j ≡ 1 → bit_xor x s < x
xor_less x s j top set =
    quotient_less (bit_xor x s) x j
    (subst (λ (n : ℕ). n < x / 2 ^ j) (sym (xor_shr x s j ∙ ap (bit_xor (x / 2 ^ j)) top)) (odd_less (x / 2 ^ j) set))

-- Numbers read bit by bit, from the highest on: n bits are still to be read, and what they are worth was moved up by i places.
use Rattle.std.{proofs.Common.{◌≡◌, ℕ, zero, suc, ◌+◌, ◌*◌, ◌/◌, ◌%◌, ◌^◌, ◌<◌, Bool, true, false, refl, sym, ap, ◌∙◌, subst, arith}, specs.Prelude.bit_xor}
use Rattle.std.{specs.Int.bit_at, proofs.Math.Nat.{add-mul, mul-add}, proofs.lemmas.Nat.{pow-add, mod-pow-add, mod_below, pow_pos, mul-add-lt, shr-shr}}
use Rattle.std.proofs.lemmas.Nat.Bits.{bit_at-lt, bit_at_xor}
use Rattle.proved_programs.proofs.ExclusiveOr.{doubled}

abbrev pub digit : Bool → ℕ
digit true = 1
digit false = 0

-- what the highest of 31 bits is worth
abbrev pub high : Bool → ℕ
high true = 1073741824
high false = 0

-- what is left of x before and after its bit n is read
abbrev pub rest : ℕ → ℕ → ℕ → ℕ
rest x n i = (x % 2 ^ n) * 2 ^ i

pub record Read (x n i : ℕ) : Type 0 where
  pub bit : Bool
  pub is : bit_at x n ≡ digit bit
  pub before : rest x (suc n) i ≡ high bit + rest x n i
  pub less : rest x n i < 2 ^ 30
  pub after : rest x n (suc i) ≡ rest x n i + rest x n i

pub bit_read : (x n i : ℕ) → i + suc n ≡ 31 → Read x n i
bit_read x n i e = pick (bit_at x n) refl
  where
    whole : 2 ^ n * 2 ^ i ≡ 2 ^ 30
    whole = sym (pow-add 2 n i) ∙ ap (λ (m : ℕ). 2 ^ m) (let f : n + i ≡ 30 = omega arith in f)

    small : rest x n i < 2 ^ 30
    small =
        let f : rest x n i + 0 < 2 ^ i * 2 ^ n = mul-add-lt (x % 2 ^ n) (2 ^ i) 0 (2 ^ n) (mod_below x (2 ^ n) (pow_pos n)) (pow_pos i) in
        grind (arith, f, whole)

    twice : rest x n (suc i) ≡ rest x n i + rest x n i
    twice = ap (λ (m : ℕ). x % 2 ^ n * m) (let f : 2 ^ suc i ≡ 2 ^ i + 2 ^ i = omega (arith, doubled i) in f) ∙ mul-add (x % 2 ^ n) (2 ^ i) (2 ^ i)

    parts : x % 2 ^ suc n ≡ bit_at x n * 2 ^ n + x % 2 ^ n
    parts = ap (λ (m : ℕ). x % 2 ^ m) (let f : suc n ≡ 1 + n = omega arith in f) ∙ mod-pow-add x 1 n

    one : (b : ℕ) → bit_at x n ≡ suc b → bit_at x n ≡ 1
    one b f = let g = bit_at-lt x n in omega (arith, f, g)

    pick : (b : ℕ) → bit_at x n ≡ b → Read x n i
    pick zero f = record {
      bit = false;
      is = f;
      before =
          let g : x % 2 ^ suc n ≡ 0 * 2 ^ n + x % 2 ^ n = subst (λ (b : ℕ). x % 2 ^ suc n ≡ b * 2 ^ n + x % 2 ^ n) f parts in
          let h : x % 2 ^ suc n ≡ x % 2 ^ n = omega (arith, g) in
          let k : rest x (suc n) i ≡ rest x n i = ap (λ (m : ℕ). m * 2 ^ i) h in
          omega (arith, k);
      less = small;
      after = twice;
    }
    pick (suc b) f = record {
      bit = true;
      is = one b f;
      before =
          let g : x % 2 ^ suc n ≡ 1 * 2 ^ n + x % 2 ^ n = subst (λ (b : ℕ). x % 2 ^ suc n ≡ b * 2 ^ n + x % 2 ^ n) (one b f) parts in
          let h : x % 2 ^ suc n ≡ 2 ^ n + x % 2 ^ n = omega (arith, g) in
          ap (λ (m : ℕ). m * 2 ^ i) h ∙ add-mul (2 ^ n) (x % 2 ^ n) (2 ^ i) ∙ ap (λ (m : ℕ). m + rest x n i) whole;
      less = small;
      after = twice;
    }

-- before the first of 31 bits
pub none_yet : (m : ℕ) → m < 2 ^ 31 → m / 2 ^ 31 ≡ 0
none_yet m less = omega arith

pub all_left : (m : ℕ) → m < 2 ^ 31 → m ≡ rest m 31 0
all_left m less = omega arith

-- one more bit of a number: twice what was there, and the bit
pub next_bit : (m n : ℕ) → m / 2 ^ n ≡ m / 2 ^ suc n + m / 2 ^ suc n + bit_at m n
next_bit m n =
    let e : m / 2 ^ suc n ≡ m / 2 ^ n / 2 = ap (λ (k : ℕ). m / 2 ^ k) (let f : suc n ≡ n + 1 = omega arith in f) ∙ sym (shr-shr m n 1) in
    omega (arith, e)

-- the bit of an exclusive or
pub xor_bit : (x y n : ℕ) (p q : Bool) → bit_at x n ≡ digit p → bit_at y n ≡ digit q → bit_at (bit_xor x y) n ≡ (digit p + digit q) % 2
xor_bit x y n p q e f = let h = bit_at_xor x y n in h ∙ ap (λ (b : ℕ). (b + bit_at y n) % 2) e ∙ ap (λ (b : ℕ). (digit p + b) % 2) f

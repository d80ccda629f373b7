-- Bits of sums, differences and choices.
use Rattle.std.{proofs.Common.{◌≡◌, ℕ, zero, suc, ◌+◌, ◌-◌, ◌*◌, ◌/◌, ◌%◌, ◌^◌, ◌<◌, [], ◌∷◌, refl, ap, sym, ◌∙◌, arith}, proofs.lemmas.Nat.{pow_pos, pow-add}}
use Rattle.std.{proofs.lemmas.Nat.{shr-shr, shr_split, shr_high, mod-pow-add, div_below, mod_below}, proofs.Math.Nat.mod-eq_of_lt}
use Rattle.std.{proofs.lemmas.Nat.Bits.{bit_at-suc, bit_at-lt, bit_at_lowest, bit_at_cat_low}, specs.Prelude.slice_index, specs.Int.bit_at}

-- a bit of the lowest bits
pub bit_of_low : (x k i : ℕ) → i < k → bit_at (x % 2 ^ k) i ≡ bit_at x i
bit_of_low x k i h =
    let p = pow_pos k in
    let e : x / 2 ^ k * 2 ^ k + x % 2 ^ k ≡ x = omega arith in
    sym (bit_at_cat_low (x / 2 ^ k) k (x % 2 ^ k) i h) ∙ ap (λ n. bit_at n i) e

-- a bit of what is above
pub bit_of_high : (x l i : ℕ) → bit_at (x / 2 ^ l) i ≡ bit_at x (l + i)
bit_of_high x l i = ap (λ n. n % 2) (shr-shr x l i)

twice : (w : ℕ) → 2 ^ suc w ≡ 2 ^ w + 2 ^ w
twice w = let e : suc w ≡ w + 1 = omega arith in let g : 2 ^ (w + 1) ≡ 2 ^ w * 2 ^ 1 = pow-add 2 w 1 in ap (λ n. 2 ^ n) e ∙ (omega (arith, g))

-- the bits of an inverted word
pub bit_of_inverse : (w i x : ℕ) → x < 2 ^ w → i < w → bit_at (2 ^ w - 1 - x) i ≡ 1 - bit_at x i
bit_of_inverse zero i x h lt = absurd (omega arith)
bit_of_inverse (suc w) zero x h lt =
    let e = twice w in
    let low : (2 ^ suc w - 1 - x) % 2 ≡ 1 - x % 2 = omega (arith, e) in
    bit_at_lowest (2 ^ suc w - 1 - x) ∙ low ∙ ap (λ n. 1 - n) (sym (bit_at_lowest x))
bit_of_inverse (suc w) (suc i) x h lt =
    let e = twice w in
    let half : (2 ^ suc w - 1 - x) / 2 ≡ 2 ^ w - 1 - x / 2 = omega (arith, e) in
    bit_at-suc (2 ^ suc w - 1 - x) i ∙ ap (λ n. bit_at n i) half ∙ bit_of_inverse w i (x / 2) (omega (arith, e)) (omega arith)
    ∙ ap (λ n. 1 - n) (sym (bit_at-suc x i))

-- the carry into a bit
abbrev pub carry_into : ℕ → ℕ → ℕ → ℕ → ℕ
carry_into x y c i = (x % 2 ^ i + y % 2 ^ i + c) / 2 ^ i

pub carry_small : (x y c i : ℕ) → c < 2 → carry_into x y c i < 2
carry_small x y c i h =
    let p = pow_pos i in
    div_below (x % 2 ^ i + y % 2 ^ i + c) (2 ^ i) 2 p (omega (arith, mod_below x (2 ^ i) p, mod_below y (2 ^ i) p))

chosen : (a b c : ℕ) → a < 2 → b < 2 → c < 2 → (a + b + c) / 2 ≡ slice_index (a ∷ c ∷ []) ((a + b) % 2)
chosen zero zero zero h g f = refl
chosen zero zero (suc zero) h g f = refl
chosen zero (suc zero) zero h g f = refl
chosen zero (suc zero) (suc zero) h g f = refl
chosen (suc zero) zero zero h g f = refl
chosen (suc zero) zero (suc zero) h g f = refl
chosen (suc zero) (suc zero) zero h g f = refl
chosen (suc zero) (suc zero) (suc zero) h g f = refl
chosen (suc (suc a)) b c h g f = absurd (omega arith)
chosen a (suc (suc b)) c h g f = absurd (omega arith)
chosen a b (suc (suc c)) h g f = absurd (omega arith)

-- the carry into the next bit
pub carry_next : (x y c i : ℕ) → c < 2 → carry_into x y c (suc i) ≡ slice_index (bit_at x i ∷ carry_into x y c i ∷ []) ((bit_at x i + bit_at y i) % 2)
carry_next x y c i h =
    let n = x % 2 ^ i + y % 2 ^ i + c in
    let up : suc i ≡ 1 + i = omega arith in
    let back : i + 1 ≡ 1 + i = omega arith in
    let split : x % 2 ^ (1 + i) + y % 2 ^ (1 + i) + c ≡ (bit_at x i + bit_at y i + n / 2 ^ i) * 2 ^ i + n % 2 ^ i =
    omega (arith, mod-pow-add x 1 i, mod-pow-add y 1 i, shr_split n i) in
    let whole : (x % 2 ^ (1 + i) + y % 2 ^ (1 + i) + c) / 2 ^ i ≡ bit_at x i + bit_at y i + n / 2 ^ i =
    ap (λ k. k / 2 ^ i) split ∙ shr_high (bit_at x i + bit_at y i + n / 2 ^ i) i (n % 2 ^ i) (mod_below n (2 ^ i) (pow_pos i)) in
    let halved : (x % 2 ^ (1 + i) + y % 2 ^ (1 + i) + c) / 2 ^ (1 + i) ≡ (bit_at x i + bit_at y i + n / 2 ^ i) / 2 =
    ap (λ k. (x % 2 ^ (1 + i) + y % 2 ^ (1 + i) + c) / 2 ^ k) (sym back) ∙ sym (shr-shr (x % 2 ^ (1 + i) + y % 2 ^ (1 + i) + c) i 1)
    ∙ ap (λ k. k / 2) whole in
    ap (λ k. carry_into x y c k) up ∙ halved ∙ chosen (bit_at x i) (bit_at y i) (n / 2 ^ i) (bit_at-lt x i) (bit_at-lt y i) (carry_small x y c i h)

-- a bit of a sum
pub sum_bit : (x y c i : ℕ) → bit_at (x + y + c) i ≡ ((bit_at x i + bit_at y i) % 2 + carry_into x y c i) % 2
sum_bit x y c i =
    let n = x % 2 ^ i + y % 2 ^ i + c in
    let split : x + y + c ≡ (x / 2 ^ i + y / 2 ^ i + n / 2 ^ i) * 2 ^ i + n % 2 ^ i = omega (arith, shr_split x i, shr_split y i, shr_split n i) in
    let whole : (x + y + c) / 2 ^ i ≡ x / 2 ^ i + y / 2 ^ i + n / 2 ^ i =
    ap (λ k. k / 2 ^ i) split ∙ shr_high (x / 2 ^ i + y / 2 ^ i + n / 2 ^ i) i (n % 2 ^ i) (mod_below n (2 ^ i) (pow_pos i)) in
    ap (λ k. k % 2) whole ∙ parity (x / 2 ^ i) (y / 2 ^ i) (n / 2 ^ i)
  where
    parity : (a b c : ℕ) → (a + b + c) % 2 ≡ ((a % 2 + b % 2) % 2 + c) % 2
    parity a b c = omega arith

-- the highest bit of a sum
pub sum_top : (x y c w : ℕ) → x < 2 ^ w → y < 2 ^ w → c < 2 → bit_at (x + y + c) w ≡ carry_into x y c w
sum_top x y c w h g k =
    let ex : x % 2 ^ w ≡ x = mod-eq_of_lt h in
    let ey : y % 2 ^ w ≡ y = mod-eq_of_lt g in
    let small = carry_small x y c w k in
    let same : x % 2 ^ w + y % 2 ^ w + c ≡ x + y + c = omega (arith, ex, ey) in
    let whole : (x + y + c) / 2 ^ w ≡ carry_into x y c w = ap (λ n. n / 2 ^ w) (sym same) in
    ap (λ n. n % 2) whole ∙ mod-eq_of_lt small

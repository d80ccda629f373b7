-- The arithmetic of a product that is added up bit by bit, over whole numbers.
use Rattle.std.proofs.Common.{◌≡◌, ℕ, zero, suc, ◌+◌, ◌*◌, ◌-◌, ◌%◌, ◌≤◌, ◌<◌, ◌^◌, ℤ, pos, negsuc, ◌+ℤ◌, ◌-ℤ◌, ◌*ℤ◌, neg_ℤ, Bool, true, false, not, ◌||◌, ◌⊎◌}
use Rattle.std.{proofs.Common.{inl, inr, refl, ap, sym, ◌∙◌, subst, arith}, specs.Prelude.{nat_lt, if◌then◌else◌}, specs.Int.{w32, cast_signed, cast_unsigned}}
use Rattle.std.{specs.Int.int_wrap, proofs.lemmas.Bool.{lt-ltb, ltb-true, ltb-false, or_parts, or_cases, false_from_ne_true, not-false, not-true, both_ways}}
use Rattle.std.{proofs.lemmas.Int.{int_wrap_fits, SFits-int_wrap, to_z-of_z, wrapping_add-bits, ints}, proofs.lemmas.Nat.pow_pos, proofs.Math.IntN.+ℤ_comm}
use Rattle.std.proofs.Math.Nat.{mul-le-mul_left}
use borrow.Author.Differences.{up, down, sum_is_lem, product_is, same_in}
use Rattle.fm_words.{specs.Word.{is_int, wrapped}, proofs.WordLaws.{is_int_from_fits, fits_signed}}
use Rattle.piton_semantics.specs.Views.{is_negative}
use Rattle.stack_text.proofs.SharedLaws.{or_false}

-- ---- sums and products

-- a product with a sum
pub times_sum : (x a b : ℤ) → x *ℤ (a +ℤ b) ≡ x *ℤ a +ℤ x *ℤ b
times_sum x a b =
    let sum : up (a +ℤ b) + down a + down b ≡ down (a +ℤ b) + up a + up b = sum_is_lem a b in
    let above = ap (λ n. up x * n) sum in
    let below = ap (λ n. down x * n) sum in
    omega (arith, same_in, sum_is_lem, product_is)

-- ---- what lies between 0 and a number

-- a lies between 0 and c, whatever sign c has
abbrev pub IsUpTo : ℤ → ℤ → Type 0
IsUpTo (pos a) (pos c) = a ≤ c
IsUpTo (pos a) (negsuc c) = a ≡ 0
IsUpTo (negsuc a) (pos c) = ⊥
IsUpTo (negsuc a) (negsuc c) = a ≤ c

small_up : (m n : ℕ) → m ≤ n → is_int (pos n) ≡ true → is_int (pos m) ≡ true
small_up m n l h = let small : n < 2 ^ 31 = ltb-true n (2 ^ 31) h in lt-ltb m (2 ^ 31) (omega (arith, l, small))

small_down : (m n : ℕ) → m ≤ n → is_int (neg_ℤ (pos n)) ≡ true → is_int (neg_ℤ (pos m)) ≡ true
small_down zero n l h = refl
small_down (suc m) zero l h = absurd (omega (arith, l))
small_down (suc m) (suc n) l h = let small : n < 2 ^ 31 = ltb-true n (2 ^ 31) h in lt-ltb m (2 ^ 31) (omega (arith, l, small))

-- a product that fits keeps fitting with a factor nearer to 0
pub nearer_fits : (x a c : ℤ) → IsUpTo a c → is_int (x *ℤ c) ≡ true → is_int (x *ℤ a) ≡ true
nearer_fits (pos x) (pos a) (pos c) l h = small_up (x * a) (x * c) (mul-le-mul_left x l) h
nearer_fits (pos x) (pos a) (negsuc c) l h = let none : x * a ≡ 0 = ap (λ n. x * n) l ∙ omega arith in lt-ltb (x * a) (2 ^ 31) (omega (arith, none))
nearer_fits (pos x) (negsuc a) (pos c) l h = absurd l
nearer_fits (pos x) (negsuc a) (negsuc c) l h = let more : suc a ≤ suc c = omega (arith, l) in small_down (x * suc a) (x * suc c) (mul-le-mul_left x more) h
nearer_fits (negsuc x) (pos a) (pos c) l h = small_down (suc x * a) (suc x * c) (mul-le-mul_left (suc x) l) h
nearer_fits (negsuc x) (pos a) (negsuc c) l h =
    let none : suc x * a ≡ 0 = ap (λ n. suc x * n) l ∙ omega arith in
    ap (λ n. is_int (neg_ℤ (pos n))) none
nearer_fits (negsuc x) (negsuc a) (pos c) l h = absurd l
nearer_fits (negsuc x) (negsuc a) (negsuc c) l h =
    let more : suc a ≤ suc c = omega (arith, l) in small_up (suc x * suc a) (suc x * suc c) (mul-le-mul_left (suc x) more) h

-- ---- bits

-- a bit as a number
abbrev pub bit : Bool → ℤ
bit true = pos 1
bit false = pos 0

-- less than 0, and a bit
bit_below : (a : ℕ) → negsuc a +ℤ bit false ≡ negsuc a
bit_below a = omega (arith, ints)

bit_above : (a : ℕ) → negsuc (suc a) +ℤ bit true ≡ negsuc a
bit_above a = omega (arith, ints)

-- a number and the next bit lie between 0 and twice the number and the bit
pub half_up_to : (a c : ℤ) (b : Bool) → IsUpTo (a +ℤ (a +ℤ bit b)) c → IsUpTo (a +ℤ bit b) c
half_up_to (pos a) (pos c) true h = omega (arith, h)
half_up_to (pos a) (pos c) false h = omega (arith, h)
half_up_to (pos a) (negsuc c) true h = omega (arith, h)
half_up_to (pos a) (negsuc c) false h = omega (arith, h)
half_up_to (negsuc a) (pos c) false h = absurd (subst (λ z. IsUpTo (negsuc a +ℤ z) (pos c)) (bit_below a) h)
half_up_to (negsuc zero) (pos c) true h = absurd h
half_up_to (negsuc (suc a)) (pos c) true h = absurd (subst (λ z. IsUpTo (negsuc (suc a) +ℤ z) (pos c)) (bit_above a) h)
half_up_to (negsuc a) (negsuc c) false h =
    let twice : suc (a + a) ≤ c = subst (λ z. IsUpTo (negsuc a +ℤ z) (negsuc c)) (bit_below a) h in
    let once : a ≤ c = omega (arith, twice) in
    subst (λ z. IsUpTo z (negsuc c)) (sym (bit_below a)) once
half_up_to (negsuc zero) (negsuc c) true h = refl
half_up_to (negsuc (suc a)) (negsuc c) true h =
    let twice : suc (suc a + a) ≤ c = subst (λ z. IsUpTo (negsuc (suc a) +ℤ z) (negsuc c)) (bit_above a) h in
    let once : a ≤ c = omega (arith, twice) in
    subst (λ z. IsUpTo z (negsuc c)) (sym (bit_above a)) once

-- ---- a factor cut at a bit

-- y times a scale of at most 2^31 is 2^31 times high and some low bits: so high lies between 0 and y
pub cut_up_to : (y high : ℤ) (scale low : ℕ) → 0 < scale → scale ≤ 2 ^ 31 → low < 2 ^ 31 → y *ℤ pos scale ≡ high *ℤ pos (2 ^ 31) +ℤ pos low →
    IsUpTo high y
cut_up_to (pos y) (pos h) scale low some few small e =
    let more : y * scale ≤ y * 2 ^ 31 = mul-le-mul_left y few in
    let same : y * scale ≡ h * 2 ^ 31 + low = ap up e in
    omega (arith, more, same)
cut_up_to (pos y) (negsuc h) scale low some few small e = absurd (omega (arith, ints, e, small))
cut_up_to (negsuc y) (pos h) scale low some few small e =
    let more : suc y * 1 ≤ suc y * scale = mul-le-mul_left (suc y) some in
    omega (arith, ints, e, more)
cut_up_to (negsuc y) (negsuc h) scale low some few small e =
    let more : suc y * scale ≤ suc y * 2 ^ 31 = mul-le-mul_left (suc y) few in
    let same : suc y * scale + low ≡ suc h * 2 ^ 31 = omega (arith, ints, e) in
    omega (arith, more, same, small)

-- ---- 32 bits of a number

-- what 32 bits keep of a number
abbrev pub kept : ℤ → ℤ
kept z = cast_signed w32 (wrapped z)

pub kept_is : (z : ℤ) → is_int z ≡ true → kept z ≡ z
unfolding int_wrap
kept_is z h = int_wrap_fits w32 z (fits_signed z h)

pub kept_fits : (z : ℤ) → is_int (kept z) ≡ true
unfolding int_wrap
kept_fits z = is_int_from_fits (kept z) (SFits-int_wrap w32 z)

-- the bits of a number that fits
pub bits_of : (z : ℤ) → is_int z ≡ true → cast_signed w32 (cast_unsigned w32 z) ≡ z
bits_of z h = to_z-of_z w32 z (fits_signed z h)

-- twice a number: its bits, moved up by one
pub kept_twice : (n : ℕ) → n < 2 ^ 32 → kept (cast_signed w32 n +ℤ cast_signed w32 n) ≡ cast_signed w32 ((n + n) % 2 ^ 32)
unfolding int_wrap
kept_twice n h = sym (wrapping_add-bits w32 n n h h)

-- the sign is the highest bit
pub sign_is : (n : ℕ) → is_negative (cast_signed w32 n) ≡ not (nat_lt n (2 ^ 31))
sign_is n = pick (nat_lt n (2 ^ 31)) refl
  where
    pick : (t : Bool) → nat_lt n (2 ^ 31) ≡ t → is_negative (if t then pos n else negsuc (2 ^ 32 - suc n)) ≡ not t
    pick true e = refl
    pick false e = refl

-- ---- a factor cut at its bit n

-- y's bits from the bit n on are `high`, which has y's sign; the bits below stand at the top of `rest`, next to its highest bit, which
-- was used already
pub record Cut (n : ℕ) (y high rest : ℤ) : Type 0 where
  pub scale : ℕ
  pub bits : ℕ
  pub scaled : scale * 2 ^ n ≡ 2 ^ 31
  pub few : bits < 2 ^ 32
  pub rest_is : rest ≡ cast_signed w32 bits
  pub is : y *ℤ pos scale ≡ high *ℤ pos (2 ^ 31) +ℤ pos (bits % 2 ^ 31)

scale_some : (scale n : ℕ) → scale * 2 ^ n ≡ 2 ^ 31 → 0 < scale
scale_some zero n e = absurd (omega (arith, e))
scale_some (suc k) n e = omega arith

scale_few : (scale n : ℕ) → scale * 2 ^ n ≡ 2 ^ 31 → scale ≤ 2 ^ 31
scale_few scale n e = let more : scale * 1 ≤ scale * 2 ^ n = mul-le-mul_left scale (pow_pos n) in omega (arith, e, more)

-- `high` lies between 0 and y
pub cut_between : (n : ℕ) (y high rest : ℤ) → Cut n y high rest → IsUpTo high y
cut_between n y high rest c =
    cut_up_to y high c.scale (c.bits % 2 ^ 31) (scale_some c.scale n c.scaled) (scale_few c.scale n c.scaled) (omega arith) c.is

-- a number is doubled: its next bit goes from the low bits to the high ones
bit_moves : (t t' high : ℤ) (low : ℕ) (b : Bool) → nat_lt (low + low) (2 ^ 31) ≡ not b → low < 2 ^ 31 → t' ≡ t +ℤ t → t ≡ high *ℤ pos (2 ^ 31) +ℤ pos low →
    t' ≡ (high +ℤ (high +ℤ bit b)) *ℤ pos (2 ^ 31) +ℤ pos ((low + low) % 2 ^ 31)
bit_moves t t' high low true h few d e =
    let big = ltb-false (low + low) (2 ^ 31) h in
    let rest : (low + low) % 2 ^ 31 + 2 ^ 31 ≡ low + low = omega (arith, big, few) in
    omega (arith, ints, d, e, rest)
bit_moves t t' high low false h few d e =
    let small = ltb-true (low + low) (2 ^ 31) h in
    let rest : (low + low) % 2 ^ 31 ≡ low + low = omega (arith, small) in
    omega (arith, ints, d, e, rest)

not_back : (t b : Bool) → b ≡ not t → t ≡ not b
not_back true b e = sym (ap not e)
not_back false b e = sym (ap not e)

-- the next bit of y is the sign of twice `rest`
pub cut_next : (n : ℕ) (y high rest : ℤ) → Cut (suc n) y high rest →
    Cut n y (high +ℤ (high +ℤ bit (is_negative (kept (rest +ℤ rest))))) (kept (rest +ℤ rest))
cut_next n y high rest c =
    let low = c.bits % 2 ^ 31 in
    let moved = (c.bits + c.bits) % 2 ^ 32 in
    let b = is_negative (kept (rest +ℤ rest)) in
    let twice : kept (rest +ℤ rest) ≡ cast_signed w32 moved = ap (λ z. kept (z +ℤ z)) c.rest_is ∙ kept_twice c.bits c.few in
    let same : moved ≡ low + low = omega arith in
    let sign : b ≡ not (nat_lt (low + low) (2 ^ 31)) = ap is_negative twice ∙ sign_is moved ∙ ap (λ k. not (nat_lt k (2 ^ 31))) same in
    let test : nat_lt (low + low) (2 ^ 31) ≡ not b = not_back (nat_lt (low + low) (2 ^ 31)) b sign in
    let power : 2 ^ suc n ≡ 2 ^ n + 2 ^ n = omega arith in
    let doubled : y *ℤ pos (c.scale + c.scale) ≡ y *ℤ pos c.scale +ℤ y *ℤ pos c.scale = times_sum y (pos c.scale) (pos c.scale) in
    let is : y *ℤ pos (c.scale + c.scale) ≡ (high +ℤ (high +ℤ bit b)) *ℤ pos (2 ^ 31) +ℤ pos ((low + low) % 2 ^ 31) =
    bit_moves (y *ℤ pos c.scale) (y *ℤ pos (c.scale + c.scale)) high low b test (omega arith) doubled c.is in
    let scaled : (c.scale + c.scale) * 2 ^ n ≡ 2 ^ 31 = omega (arith, c.scaled, ap (λ k. c.scale * k) power) in
    let few : moved < 2 ^ 32 = omega arith in
    record {
      scale = c.scale + c.scale;
      bits = moved;
      scaled = scaled;
      few = few;
      rest_is = twice;
      is = is ∙ ap (λ k. (high +ℤ (high +ℤ bit b)) *ℤ pos (2 ^ 31) +ℤ pos (k % 2 ^ 31)) (sym same);
    }

-- no bit is to come: all of y
pub cut_whole : (y high rest : ℤ) → Cut 0 y high rest → high ≡ y
cut_whole y high rest c =
    let all : c.scale ≡ 2 ^ 31 = omega (arith, c.scaled) in
    let is : y *ℤ pos (2 ^ 31) ≡ high *ℤ pos (2 ^ 31) +ℤ pos (c.bits % 2 ^ 31) =
    subst (λ k. y *ℤ pos k ≡ high *ℤ pos (2 ^ 31) +ℤ pos (c.bits % 2 ^ 31)) all c.is in
    omega (arith, ints, is)

-- at first only the sign is known
first_bits : (y : ℤ) → is_int y ≡ true → (cast_unsigned w32 y < 2 ^ 32)
    × (y *ℤ pos 1 ≡ neg_ℤ (bit (is_negative y)) *ℤ pos (2 ^ 31) +ℤ pos (cast_unsigned w32 y % 2 ^ 31))
first_bits (pos n) h =
    let small : n < 2 ^ 31 = ltb-true n (2 ^ 31) h in
    let low : n % 2 ^ 31 ≡ n = omega (arith, small) in
    (omega (arith, small), omega (arith, ints, low))
first_bits (negsuc n) h =
    let small : n < 2 ^ 31 = ltb-true n (2 ^ 31) h in
    let low : (2 ^ 32 - suc n) % 2 ^ 31 + suc n ≡ 2 ^ 31 = omega (arith, small) in
    (omega (arith, small), omega (arith, ints, low))

pub cut_first : (y : ℤ) → is_int y ≡ true → Cut 31 y (neg_ℤ (bit (is_negative y))) y
cut_first y h =
    let bits = first_bits y h in
    record { scale = 1; bits = cast_unsigned w32 y; scaled = refl; few = bits.0; rest_is = sym (bits_of y h); is = bits.1 }

-- ---- the sum so far

-- x where the bit is set, else 0
abbrev pub term : Bool → ℤ → ℤ
term b x = if b then x else pos 0

times_bit : (x : ℤ) (b : Bool) → x *ℤ bit b ≡ term b x
times_bit x true = omega (arith, ints)
times_bit x false = omega (arith, ints)

-- x times the high bits of y, as long as no overflow was noted; where one was noted, x times y doesn't fit
pub record IsSum (x y high : ℤ) (overflow : Bool) (sum : ℤ) : Type 0 where
  pub exact : overflow ≡ false → sum ≡ x *ℤ high
  pub fits : is_int sum ≡ true
  pub noted : overflow ≡ true → is_int (x *ℤ y) ≡ false

-- a multiple of x that doesn't fit, nearer to 0 than the product: the product doesn't fit
beyond : (x a y : ℤ) → IsUpTo a y → is_int (x *ℤ a) ≡ false → is_int (x *ℤ y) ≡ false
beyond x a y l h = false_from_ne_true (is_int (x *ℤ y)) (λ fits. both_ways (is_int (x *ℤ a)) h (nearer_fits x a y l fits))

-- one more number is added, and its overflow noted
add_on : (x y a z : ℤ) (overflow : Bool) → IsUpTo a y → (overflow ≡ false → z ≡ x *ℤ a) → (overflow ≡ true → is_int (x *ℤ y) ≡ false) →
    IsSum x y a (not (is_int z) || overflow) (kept z)
add_on x y a z overflow l is was = record {
  exact = λ e. let parts = or_parts (not (is_int z)) overflow e in kept_is z (not-false (is_int z) parts.0) ∙ is parts.1;
  fits = kept_fits z;
  noted = noted overflow is was;
}
  where
    noted : (o : Bool) → (o ≡ false → z ≡ x *ℤ a) → (o ≡ true → is_int (x *ℤ y) ≡ false) → (not (is_int z) || o) ≡ true → is_int (x *ℤ y) ≡ false
    noted true is was e = was refl
    noted false is was e = pick (or_cases (not (is_int z)) false e)
      where
        pick : ((not (is_int z) ≡ true) ⊎ (false ≡ true)) → is_int (x *ℤ y) ≡ false
        pick (inl e) = beyond x a y l (sym (ap is_int (is refl)) ∙ not-true (is_int z) e)
        pick (inr e) = cc

-- The next bit is added, and then the sum so far: the sum is doubled, and the bit added. Neither overflows where the product fits.
pub sum_next : (x y high : ℤ) (overflow : Bool) (sum : ℤ) (b : Bool) → IsUpTo (high +ℤ (high +ℤ bit b)) y → IsSum x y high overflow sum →
    let added = sum +ℤ term b x in
    let half = kept added in
    IsSum x y (high +ℤ (high +ℤ bit b)) (not (is_int (half +ℤ sum)) || (not (is_int added) || overflow)) (kept (half +ℤ sum))
sum_next x y high overflow sum b near so_far =
    let added = sum +ℤ term b x in
    let half = kept added in
    let is : overflow ≡ false → added ≡ x *ℤ (high +ℤ bit b) =
    λ e. ap (λ z. z +ℤ term b x) (so_far.exact e) ∙ ap (λ z. x *ℤ high +ℤ z) (sym (times_bit x b)) ∙ sym (times_sum x high (bit b)) in
    let first = add_on x y (high +ℤ bit b) added overflow (half_up_to high y b near) is so_far.noted in
    let overflow' = not (is_int added) || overflow in
    let is' : overflow' ≡ false → half +ℤ sum ≡ x *ℤ (high +ℤ (high +ℤ bit b)) =
    λ e. +ℤ_comm half sum ∙ ap (λ z. sum +ℤ z) (first.exact e) ∙ ap (λ z. z +ℤ x *ℤ (high +ℤ bit b)) (so_far.exact (or_parts (not (is_int added)) overflow e).1)
    ∙ sym (times_sum x high (high +ℤ bit b)) in
    add_on x y (high +ℤ (high +ℤ bit b)) (half +ℤ sum) overflow' near is' first.noted

-- at first the sign's part: minus x, or 0
pub sum_first : (x y : ℤ) (b : Bool) → IsUpTo (neg_ℤ (bit b)) y → IsSum x y (neg_ℤ (bit b)) (not (is_int (pos 0 -ℤ term b x))) (kept (pos 0 -ℤ term b x))
sum_first x y b near =
    let z = pos 0 -ℤ term b x in
    let is : z ≡ x *ℤ neg_ℤ (bit b) = minus b in
    subst (λ o. IsSum x y (neg_ℤ (bit b)) o (kept z)) (or_false (not (is_int z))) (add_on x y (neg_ℤ (bit b)) z false near (λ e. is) (λ e. cc))
  where
    minus : (b : Bool) → pos 0 -ℤ term b x ≡ x *ℤ neg_ℤ (bit b)
    minus true = omega (arith, ints)
    minus false = omega (arith, ints)

-- all bits are added: an overflow was noted exactly where the product doesn't fit
pub sum_whole : (x y : ℤ) (overflow : Bool) (sum : ℤ) → IsSum x y y overflow sum → overflow ≡ not (is_int (x *ℤ y))
sum_whole x y true sum s = sym (ap not (s.noted refl))
sum_whole x y false sum s = sym (ap (λ z. not (is_int z)) (sym (s.exact refl)) ∙ ap not s.fits)

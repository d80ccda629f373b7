-- What the adder gives, as whole-number arithmetic.
use Rattle.std.proofs.Common.{◌≡◌, ℕ, ◌+◌, ◌-◌, ◌/◌, ◌%◌, ◌^◌, ◌<◌, ◌==◌, Bool, true, false, not, ◌&&◌, arith, refl, ap, ◌∙◌}
use Rattle.std.{proofs.lemmas.Bool.Decides.nat_tests, proofs.lemmas.Int.ints, specs.Prelude.{nat_le, nat_lt, pos, ◌+ℤ◌, ◌-ℤ◌, bit_and, bit_xor}}
use Rattle.std.specs.Int.{from_bool as bit_of}
use Rattle.fm_words.{specs.Word.{signed_of, is_int}, specs.Alu.are_same}

-- bits as truth values
pub not_bit : (p : Bool) → 1 - bit_of p ≡ bit_of (not p)
not_bit true = refl
not_bit false = refl

pub xor_bits : (p q : Bool) → bit_xor (bit_of p) (bit_of q) ≡ bit_of (not (are_same p q))
xor_bits true true = refl
xor_bits true false = refl
xor_bits false true = refl
xor_bits false false = refl

pub and_bits : (p q : Bool) → bit_and (bit_of p) (bit_of q) ≡ bit_of (p && q)
and_bits true true = refl
and_bits true false = refl
and_bits false true = refl
and_bits false false = refl

-- a bit by its number
pub bit_31 : (x : ℕ) → x < 2 ^ 32 → x / 2 ^ 31 % 2 ≡ bit_of (nat_le (2 ^ 31) x)
bit_31 x h = grind (arith, nat_tests)

pub sum_31 : (x : ℕ) → x / 2 ^ 31 % 2 ≡ bit_of (nat_le (2 ^ 31) (x % 2 ^ 32))
sum_31 x = grind (arith, nat_tests)

pub bit_32 : (x : ℕ) → x < 2 ^ 33 → x / 2 ^ 32 % 2 ≡ bit_of (nat_le (2 ^ 32) x)
bit_32 x h = grind (arith, nat_tests)

-- a sum turns the sign of both words where their signed sum doesn't fit
abbrev pub turned : ℕ → ℕ → ℕ → Bool
turned l r x = not (are_same (nat_le (2 ^ 31) l) (nat_le (2 ^ 31) (x % 2 ^ 32))) && not (are_same (nat_le (2 ^ 31) r) (nat_le (2 ^ 31) (x % 2 ^ 32)))

pub turned_addc : (a b : ℕ) (c : Bool) → a < 2 ^ 32 → b < 2 ^ 32 → turned a b (a + b + bit_of c) ≡ not (is_int (signed_of a +ℤ signed_of b +ℤ pos (bit_of c)))
turned_addc a b true p q = grind (arith, nat_tests, ints)
turned_addc a b false p q = grind (arith, nat_tests, ints)

pub turned_add : (a b : ℕ) → a < 2 ^ 32 → b < 2 ^ 32 → turned a b (a + b + 0) ≡ not (is_int (signed_of a +ℤ signed_of b))
turned_add a b p q = grind (arith, nat_tests, ints)

pub turned_inc : (a : ℕ) → a < 2 ^ 32 → turned a 0 (a + 0 + 1) ≡ not (is_int (signed_of a +ℤ pos 1))
turned_inc a p = grind (arith, nat_tests, ints)

pub turned_neg : (a : ℕ) → a < 2 ^ 32 → turned (2 ^ 32 - 1 - a) 0 (2 ^ 32 - 1 - a + 0 + 1) ≡ (a == 2 ^ 31)
turned_neg a p = grind (arith, nat_tests, ints)

pub turned_dec : (a : ℕ) → a < 2 ^ 32 → turned a (2 ^ 32 - 1) (a + (2 ^ 32 - 1) + 0) ≡ not (is_int (signed_of a -ℤ pos 1))
turned_dec a p = grind (arith, nat_tests, ints)

pub turned_subb : (a b : ℕ) (c : Bool) → a < 2 ^ 32 → b < 2 ^ 32 → turned (2 ^ 32 - 1 - a) b (2 ^ 32 - 1 - a + b + bit_of (not c))
    ≡ not (is_int (signed_of b -ℤ signed_of a -ℤ pos (bit_of c)))
turned_subb a b true p q = grind (arith, nat_tests, ints)
turned_subb a b false p q = grind (arith, nat_tests, ints)

pub turned_sub : (a b : ℕ) → a < 2 ^ 32 → b < 2 ^ 32 → turned (2 ^ 32 - 1 - a) b (2 ^ 32 - 1 - a + b + 1) ≡ not (is_int (signed_of b -ℤ signed_of a))
turned_sub a b p q = grind (arith, nat_tests, ints)

turns : (p q r : Bool) → bit_and (bit_xor (bit_of p) (bit_of r)) (bit_xor (bit_of q) (bit_of r)) ≡ bit_of (not (are_same p r) && not (are_same q r))
turns p q r = rw (xor_bits p r, xor_bits q r) (and_bits (not (are_same p r)) (not (are_same q r)))

-- the overflow wire
pub overflow_bit : (l r x : ℕ) → l < 2 ^ 32 → r < 2 ^ 32 → bit_and (bit_xor (l / 2 ^ 31 % 2) (x / 2 ^ 31 % 2))
    (bit_xor (r / 2 ^ 31 % 2) (x / 2 ^ 31 % 2)) ≡ bit_of (turned l r x)
overflow_bit l r x p q = rw (bit_31 l p, sum_31 x, bit_31 r q) (turns (nat_le (2 ^ 31) l) (nat_le (2 ^ 31) r) (nat_le (2 ^ 31) (x % 2 ^ 32)))

-- the carry wire
same_true : (t : Bool) → not (are_same t false) ≡ t
same_true true = refl
same_true false = refl

pub carry_bit : (x : ℕ) (t : Bool) → x < 2 ^ 33 → nat_le (2 ^ 32) x ≡ t → bit_xor (x / 2 ^ 32 % 2) 0 ≡ bit_of t
carry_bit x t h e = rw (bit_32 x h, e) (xor_bits t false ∙ ap bit_of (same_true t))

pub borrow_bit : (x : ℕ) (t : Bool) → x < 2 ^ 33 → nat_le (2 ^ 32) x ≡ not t → bit_xor (x / 2 ^ 32 % 2) 1 ≡ bit_of t
borrow_bit x t h e = rw (bit_32 x h, e) (xor_bits (not t) true ∙ ap bit_of (twice t))
  where
    twice : (t : Bool) → not (are_same (not t) true) ≡ t
    twice true = refl
    twice false = refl

-- tests of the adder's sum
pub carries_inc : (a : ℕ) → nat_le (2 ^ 32) (a + 0 + 1) ≡ nat_le (2 ^ 32) (a + 1)
carries_inc a = grind (arith, nat_tests)

pub carries_add : (a b : ℕ) → nat_le (2 ^ 32) (a + b + 0) ≡ nat_le (2 ^ 32) (a + b)
carries_add a b = grind (arith, nat_tests)

pub borrows_neg : (a : ℕ) → a < 2 ^ 32 → nat_le (2 ^ 32) (2 ^ 32 - 1 - a + 0 + 1) ≡ not (nat_lt 0 a)
borrows_neg a h = grind (arith, nat_tests)

pub borrows_dec : (a : ℕ) → nat_le (2 ^ 32) (a + (2 ^ 32 - 1) + 0) ≡ not (a == 0)
borrows_dec a = grind (arith, nat_tests)

pub borrows_subb : (a b : ℕ) (c : Bool) → a < 2 ^ 32 → nat_le (2 ^ 32) (2 ^ 32 - 1 - a + b + bit_of (not c)) ≡ not (nat_lt b (a + bit_of c))
borrows_subb a b true h = grind (arith, nat_tests)
borrows_subb a b false h = grind (arith, nat_tests)

pub borrows_sub : (a b : ℕ) → a < 2 ^ 32 → nat_le (2 ^ 32) (2 ^ 32 - 1 - a + b + 1) ≡ not (nat_lt b a)
borrows_sub a b h = grind (arith, nat_tests)

-- a difference with a borrow
pub word_subb : (a b : ℕ) (c : Bool) → a < 2 ^ 32 → (2 ^ 32 - 1 - a + b + bit_of (not c)) % 2 ^ 32 ≡ (b + 2 ^ 32 - (a + bit_of c)) % 2 ^ 32
word_subb a b true h = omega arith
word_subb a b false h = omega arith

-- the lowest bit
pub lowest : (a : ℕ) → a % 2 ≡ bit_of (a % 2 == 1)
lowest a = grind (arith, nat_tests)

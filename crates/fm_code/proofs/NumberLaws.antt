-- Words of integers: their sums, differences, signs and order.
use Rattle.std.{proofs.Common.{◌≡◌, ℕ, ◌+◌, ◌-◌, ◌*◌, ◌%◌, ◌^◌, ◌<◌, ◌≤◌, ◌==◌, Bool, true, false, refl, sym, ap, ◌∙◌, arith}, specs.Prelude.{nat_le, nat_lt}}
use Rattle.std.{specs.Prelude.{not, ◌&&◌, ◌||◌, ℤ, pos, negsuc, ◌+ℤ◌, ◌-ℤ◌, int_lt, unsigned_abs, bit_and, bit_or}, specs.Int.from_bool as bit_of}
use Rattle.std.{proofs.lemmas.Bool.Decides.nat_tests, proofs.lemmas.Int.{ints, int_rem_euclid_is}, proofs.Math.IntN.+ℤ_idr}
use Rattle.fm_words.{specs.Word.{signed_of, is_int, is_nat, word_of_int, wrapped, are_same_ints}, proofs.WordLaws.{signed_of-word_of_int, wrapped-int}}
use Rattle.fm_words.{specs.Alu.{does_hold, are_same}, specs.declared.condition.Flags.Flags}
use Rattle.fm_words.specs.declared.condition.Cc.TheVariants as cc
use Rattle.fm_code.specs.Flags.{flags_of_word, flags_of_difference}

-- what 32 bits keep of an exact number, from that number with a multiple of 2^32 added
wrapped_of : (z : ℤ) (j m : ℕ) → z +ℤ pos (j * 2 ^ 32) ≡ pos m → wrapped z ≡ m % 2 ^ 32
wrapped_of z j m e = ap unsigned_abs (int_rem_euclid_is z (pos (2 ^ 32)) (2 ^ 32) j m (omega arith) refl e)

-- the word of a sum and of a difference, with a carry
pub wrapped_sum : (x y : ℤ) (k : ℕ) → is_int x ≡ true → is_int y ≡ true → (word_of_int x + word_of_int y + k) % 2 ^ 32 ≡ wrapped (x +ℤ y +ℤ pos k)
wrapped_sum (pos a) (pos b) k p q = refl
wrapped_sum (pos a) (negsuc b) k p q =
    let h : b < 2 ^ 31 = grind (arith, nat_tests) in
    sym (wrapped_of (pos a +ℤ negsuc b +ℤ pos k) 1 (a + (2 ^ 32 - 1 - b) + k) (grind (arith, ints)))
wrapped_sum (negsuc a) (pos b) k p q =
    let h : a < 2 ^ 31 = grind (arith, nat_tests) in
    sym (wrapped_of (negsuc a +ℤ pos b +ℤ pos k) 1 (2 ^ 32 - 1 - a + b + k) (grind (arith, ints)))
wrapped_sum (negsuc a) (negsuc b) k p q =
    let g : a < 2 ^ 31 = grind (arith, nat_tests) in
    let h : b < 2 ^ 31 = grind (arith, nat_tests) in
    sym (wrapped_of (negsuc a +ℤ negsuc b +ℤ pos k) 2 (2 ^ 32 - 1 - a + (2 ^ 32 - 1 - b) + k) (grind (arith, ints)))

pub wrapped_difference : (y x : ℤ) (k : ℕ) → is_int y ≡ true → is_int x ≡ true → k ≤ 1
    → (word_of_int y + 2 ^ 32 - (word_of_int x + k)) % 2 ^ 32 ≡ wrapped (y -ℤ x -ℤ pos k)
wrapped_difference (pos a) (pos b) k p q r =
    let g : a < 2 ^ 31 = grind (arith, nat_tests) in
    let h : b < 2 ^ 31 = grind (arith, nat_tests) in
    sym (wrapped_of (pos a -ℤ pos b -ℤ pos k) 1 (a + 2 ^ 32 - (b + k)) (grind (arith, ints)))
wrapped_difference (pos a) (negsuc b) k p q r =
    let g : a < 2 ^ 31 = grind (arith, nat_tests) in
    let h : b < 2 ^ 31 = grind (arith, nat_tests) in
    sym (wrapped_of (pos a -ℤ negsuc b -ℤ pos k) 0 (a + 2 ^ 32 - (2 ^ 32 - 1 - b + k)) (grind (arith, ints)))
wrapped_difference (negsuc a) (pos b) k p q r =
    let g : a < 2 ^ 31 = grind (arith, nat_tests) in
    let h : b < 2 ^ 31 = grind (arith, nat_tests) in
    sym (wrapped_of (negsuc a -ℤ pos b -ℤ pos k) 2 (2 ^ 32 - 1 - a + 2 ^ 32 - (b + k)) (grind (arith, ints)))
wrapped_difference (negsuc a) (negsuc b) k p q r =
    let g : a < 2 ^ 31 = grind (arith, nat_tests) in
    let h : b < 2 ^ 31 = grind (arith, nat_tests) in
    sym (wrapped_of (negsuc a -ℤ negsuc b -ℤ pos k) 1 (2 ^ 32 - 1 - a + 2 ^ 32 - (2 ^ 32 - 1 - b + k)) (grind (arith, ints)))

-- the flags of a difference say which integer is less
difference_sign : (x y : ℤ) → is_int x ≡ true → is_int y ≡ true → not
    (are_same (nat_le (2 ^ 31) ((word_of_int y + 2 ^ 32 - word_of_int x) % 2 ^ 32)) (not (is_int (y -ℤ x)))) ≡ int_lt y x
difference_sign (pos a) (pos b) p q = grind (arith, nat_tests, ints)
difference_sign (pos a) (negsuc b) p q = grind (arith, nat_tests, ints)
difference_sign (negsuc a) (pos b) p q = grind (arith, nat_tests, ints)
difference_sign (negsuc a) (negsuc b) p q = grind (arith, nat_tests, ints)

pub lt_int : (y x : ℤ) → is_int y ≡ true → is_int x ≡ true → does_hold cc.Lt (flags_of_difference (word_of_int y) (word_of_int x)) ≡ int_lt y x
lt_int y x q p =
    let n = nat_le (2 ^ 31) ((word_of_int y + 2 ^ 32 - word_of_int x) % 2 ^ 32) in
    (λ i. not (are_same n (not (is_int (signed_of-word_of_int y q i -ℤ signed_of-word_of_int x p i))))) ∙ difference_sign x y p q

-- the flags of a word say the sign of an integer
pub is_negative : (z : ℤ) → is_int z ≡ true → does_hold cc.Ns (flags_of_word (word_of_int z)) ≡ int_lt z (pos 0)
is_negative (pos n) h = grind (arith, nat_tests, ints)
is_negative (negsuc n) h = grind (arith, nat_tests, ints)

pub is_positive : (z : ℤ) → is_int z ≡ true → does_hold cc.Gt (flags_of_word (word_of_int z)) ≡ int_lt (pos 0) z
is_positive (pos n) h = grind (arith, nat_tests, ints)
is_positive (negsuc n) h = grind (arith, nat_tests, ints)

pub is_zero : (z : ℤ) → is_int z ≡ true → does_hold cc.Zs (flags_of_word (word_of_int z)) ≡ are_same_ints z (pos 0)
is_zero (pos n) h = refl
is_zero (negsuc n) h = grind (arith, nat_tests)

-- not greater is less or equal
pub le_is : (f : Flags) → does_hold cc.Le f ≡ not (does_hold cc.Gt f)
le_is f = by_cases f.n f.v f.z
  where
    by_cases : (n v z : Bool) → (not (are_same n v) || z) ≡ not (are_same n v && not z)
    by_cases true true true = refl
    by_cases true true false = refl
    by_cases true false true = refl
    by_cases true false false = refl
    by_cases false true true = refl
    by_cases false true false = refl
    by_cases false false true = refl
    by_cases false false false = refl

-- integers are equal where their words are, and so are truth values
pub same_ints : (y x : ℤ) → is_int y ≡ true → is_int x ≡ true → (word_of_int y == word_of_int x) ≡ are_same_ints y x
same_ints (pos a) (pos b) q p = refl
same_ints (pos a) (negsuc b) q p = grind (arith, nat_tests)
same_ints (negsuc a) (pos b) q p = grind (arith, nat_tests)
same_ints (negsuc a) (negsuc b) q p = grind (arith, nat_tests)

pub same_bools : (y x : Bool) → (bit_of y == bit_of x) ≡ are_same y x
same_bools true true = refl
same_bools true false = refl
same_bools false true = refl
same_bools false false = refl

-- truth values as words: their last bit; OR and AND of them
pub last_bit : (b : Bool) → (bit_of b % 2 == 1) ≡ b
last_bit true = refl
last_bit false = refl

pub or_bools : (x y : Bool) → bit_or (bit_of x) (bit_of y) ≡ bit_of (y || x)
or_bools true true = refl
or_bools true false = refl
or_bools false true = refl
or_bools false false = refl

pub and_bools : (x y : Bool) → bit_and (bit_of x) (bit_of y) ≡ bit_of (y && x)
and_bools true true = refl
and_bools true false = refl
and_bools false true = refl
and_bools false false = refl

-- sums and differences of integers that are in range
pub sum_number : (x y : ℤ) → is_int x ≡ true → is_int y ≡ true → is_int (x +ℤ y) ≡ true → (word_of_int x + word_of_int y) % 2 ^ 32 ≡ word_of_int (x +ℤ y)
sum_number x y p q h =
    let e : (word_of_int x + word_of_int y) % 2 ^ 32 ≡ (word_of_int x + word_of_int y + 0) % 2 ^ 32 = omega arith in
    e ∙ wrapped_sum x y 0 p q ∙ ap wrapped (+ℤ_idr (x +ℤ y)) ∙ wrapped-int (x +ℤ y) h

pub difference_number : (y x : ℤ) → is_int y ≡ true → is_int x ≡ true → is_int (y -ℤ x) ≡ true
    → (word_of_int y + 2 ^ 32 - word_of_int x) % 2 ^ 32 ≡ word_of_int (y -ℤ x)
difference_number y x q p h =
    let e : (word_of_int y + 2 ^ 32 - word_of_int x) % 2 ^ 32 ≡ (word_of_int y + 2 ^ 32 - (word_of_int x + 0)) % 2 ^ 32 = omega arith in
    e ∙ wrapped_difference y x 0 q p (omega arith) ∙ ap wrapped (+ℤ_idr (y -ℤ x)) ∙ wrapped-int (y -ℤ x) h

-- the overflow of a sum and of a difference with a carry
pub sum_outside : (x y : ℤ) (k : ℕ) → is_int x ≡ true → is_int y ≡ true → not (is_int (signed_of (word_of_int x) +ℤ signed_of (word_of_int y) +ℤ pos k))
    ≡ not (is_int (x +ℤ y +ℤ pos k))
sum_outside x y k p q =
    (λ i. not (is_int (signed_of-word_of_int x p i +ℤ signed_of-word_of_int y q i +ℤ pos k)))

pub difference_outside : (y x : ℤ) (k : ℕ) → is_int y ≡ true → is_int x ≡ true → not
    (is_int (signed_of (word_of_int y) -ℤ signed_of (word_of_int x) -ℤ pos k)) ≡ not (is_int (y -ℤ x -ℤ pos k))
difference_outside y x k q p =
    (λ i. not (is_int (signed_of-word_of_int y q i -ℤ signed_of-word_of_int x p i -ℤ pos k)))

-- sums and differences of numbers without a sign
pub nat_sum : (y x k : ℕ) → (x + y + k) % 2 ^ 32 ≡ wrapped (pos y +ℤ pos x +ℤ pos k)
nat_sum y x k = omega arith

pub nat_sum_outside : (y x k : ℕ) → nat_le (2 ^ 32) (x + y + k) ≡ not (is_nat (pos y +ℤ pos x +ℤ pos k))
nat_sum_outside y x k = grind (arith, nat_tests)

pub nat_difference : (y x k : ℕ) → y < 2 ^ 32 → x < 2 ^ 32 → k ≤ 1 → (y + 2 ^ 32 - (x + k)) % 2 ^ 32 ≡ wrapped (pos y -ℤ pos x -ℤ pos k)
nat_difference y x k q p r =
    sym (wrapped_of (pos y -ℤ pos x -ℤ pos k) 1 (y + 2 ^ 32 - (x + k)) (grind (arith, ints)))

pub nat_difference_outside : (y x k : ℕ) → y < 2 ^ 32 → nat_lt y (x + k) ≡ not (is_nat (pos y -ℤ pos x -ℤ pos k))
nat_difference_outside y x k q = grind (arith, nat_tests, ints)

-- the words of truth values, tested
pub true_word : (x : Bool) → does_hold cc.Zc (flags_of_word (bit_of x)) ≡ x
true_word true = refl
true_word false = refl

pub false_word : (x : Bool) → does_hold cc.Zs (flags_of_word (bit_of x)) ≡ not x
false_word true = refl
false_word false = refl

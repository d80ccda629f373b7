-- The numbers of a product that is added up digit by digit: a sign, and natural numbers.
use Rattle.std.proofs.Common.{◌≡◌, ℕ, zero, suc, ◌+◌, ◌-◌, ◌*◌, ◌/◌, ◌%◌, ◌<◌, ◌≤◌, ◌^◌, ◌==◌, ℤ, pos, negsuc, ◌+ℤ◌, ◌*ℤ◌, neg_ℤ, Bool, true, false, not, refl}
use Rattle.std.{proofs.Common.{sym, ap, ◌∙◌, arith}, specs.Prelude.{nat_le, if◌then◌else◌}, proofs.lemmas.Int.ints, proofs.lemmas.Bool.{lt-ltb, ltb-true}}
use Rattle.std.{proofs.lemmas.Bool.{ltb-false, le-leb, lt-leb, leb-true, leb-false, false_from_ne_true, both_ways}, proofs.lemmas.Bool.Decides.nat_tests}
use Rattle.std.{proofs.Math.IntN.{pos-*ℤ-pos, pos-*ℤ-negsuc, negsuc-*ℤ-pos, negsuc-*ℤ-negsuc}, proofs.Math.Nat.mul-le-mul_left}
use Rattle.fm_words.specs.Word.{is_int, word_of_int}
use Rattle.quick_code.specs.Products.{digits, digits_of, rounds_count, product_count}

-- n, or minus n
abbrev pub signed : Bool → ℕ → ℤ
signed false n = pos n
signed true n = neg_ℤ (pos n)

pub signed_sum : (s : Bool) (k n : ℕ) → signed s k +ℤ signed s n ≡ signed s (k + n)
signed_sum false k n = omega (arith, ints)
signed_sum true k n = omega (arith, ints)

pub signed_zero : (s : Bool) → signed s 0 ≡ pos 0
signed_zero true = refl
signed_zero false = refl

-- nearer to 0
pub nearer_fits : (s : Bool) (k n : ℕ) → k ≤ n → is_int (signed s n) ≡ true → is_int (signed s k) ≡ true
nearer_fits false k n l h = let few : n < 2 ^ 31 = ltb-true n (2 ^ 31) h in lt-ltb k (2 ^ 31) (omega (arith, l, few))
nearer_fits true zero n l h = refl
nearer_fits true (suc k) zero l h = absurd (omega (arith, l))
nearer_fits true (suc k) (suc n) l h = let few : n < 2 ^ 31 = ltb-true n (2 ^ 31) h in lt-ltb k (2 ^ 31) (omega (arith, l, few))

pub further_fails : (s : Bool) (k n : ℕ) → k ≤ n → is_int (signed s k) ≡ false → is_int (signed s n) ≡ false
further_fails s k n l h = false_from_ne_true (is_int (signed s n)) (λ fits. both_ways (is_int (signed s k)) h (nearer_fits s k n l fits))

-- the digits of a number that is doubled

digits_next : (n m : ℕ) (t : Bool) → nat_le (2 ^ n) m ≡ t → digits (suc n) m ≡ (if t then suc n else digits n m)
digits_next n m t h = ap (λ (b : Bool). if b then suc n else digits n m) h

digits_small : (n m : ℕ) → m < 2 ^ n → digits (suc n) m ≡ digits n m
digits_small n m h = digits_next n m false (lt-leb (2 ^ n) m h)

digits_full : (n m : ℕ) → 2 ^ n ≤ m → digits (suc n) m ≡ suc n
digits_full n m h = digits_next n m true (le-leb (2 ^ n) m h)

digits_few : (n m : ℕ) → digits n m ≤ n
digits_few zero m = omega arith
digits_few (suc n) m = pick (nat_le (2 ^ n) m) refl (digits_few n m)
  where
    pick : (t : Bool) → nat_le (2 ^ n) m ≡ t → digits n m ≤ n → digits (suc n) m ≤ suc n
    pick true h few = omega (arith, digits_next n m true h)
    pick false h few = omega (arith, digits_next n m false h, few)

digits_half : (n m : ℕ) → 1 ≤ m → digits (suc n) m ≡ suc (digits n (m / 2))
digits_half zero m h = digits_full 0 m (omega (arith, h))
digits_half (suc n) m h = pick (nat_le (2 ^ suc n) m) refl (digits_half n m h)
  where
    power : 2 ^ suc n ≡ 2 ^ n + 2 ^ n
    power = omega arith

    pick : (t : Bool) → nat_le (2 ^ suc n) m ≡ t → digits (suc n) m ≡ suc (digits n (m / 2))
        → digits (suc (suc n)) m ≡ suc (digits (suc n) (m / 2))
    pick true e less =
        let big = leb-true (2 ^ suc n) m e in
        digits_next (suc n) m true e ∙ ap suc (sym (digits_full n (m / 2) (omega (arith, big, power))))
    pick false e less =
        let small = leb-false (2 ^ suc n) m e in
        digits_next (suc n) m false e ∙ less ∙ ap suc (sym (digits_small n (m / 2) (omega (arith, small, power))))

digits_more : (m : ℕ) → 1 ≤ m → m < 2 ^ 32 → digits 32 m ≡ suc (digits 32 (m / 2))
digits_more m h few = digits_half 31 m h ∙ ap suc (sym (digits_small 31 (m / 2) (omega (arith, few))))

-- what n's sign leaves of it
abbrev size : Bool → ℕ → ℕ
size s n = if s then n - 1 else n

size_is : (s : Bool) (n : ℕ) → digits_of (signed s n) ≡ digits 32 (size s n)
size_is false n = refl
size_is true zero = refl
size_is true (suc n) = let e : n ≡ suc n - 1 = omega arith in ap (digits 32) e

-- a number that 32 bits have, and one that they don't
int_most : (s : Bool) (n : ℕ) → is_int (signed s n) ≡ true → size s n < 2 ^ 31
int_most false n h = ltb-true n (2 ^ 31) h
int_most true zero h = omega arith
int_most true (suc n) h = let few : n < 2 ^ 31 = ltb-true n (2 ^ 31) h in omega (arith, few)

int_least : (s : Bool) (n : ℕ) → is_int (signed s n) ≡ false → 2 ^ 31 ≤ size s n
int_least false n h = ltb-false n (2 ^ 31) h
int_least true zero h = cc
int_least true (suc n) h = let many : 2 ^ 31 ≤ n = ltb-false n (2 ^ 31) h in omega (arith, many)

halved : (s : Bool) (n : ℕ) → size s (n + n) / 2 ≡ size s n
halved true n = omega arith
halved false n = omega arith

some : (s : Bool) (n : ℕ) → 1 ≤ n → 1 ≤ size s (n + n)
some true n h = omega (arith, h)
some false n h = omega (arith, h)

size_doubled : (s : Bool) (n : ℕ) → 1 ≤ n → is_int (signed s (n + n)) ≡ true → digits_of (signed s (n + n)) ≡ suc (digits_of (signed s n))
size_doubled s n low h =
    let few = int_most s (n + n) h in
    size_is s (n + n) ∙ digits_more (size s (n + n)) (some s n low) (omega (arith, few)) ∙ ap (λ j. suc (digits 32 j)) (halved s n)
    ∙ ap suc (sym (size_is s n))

-- the digits of a number whose double fits, and of one whose double doesn't
size_small : (s : Bool) (n : ℕ) → is_int (signed s (n + n)) ≡ true → digits_of (signed s n) ≤ 30
size_small s n h =
    let few = int_most s (n + n) h in
    let half = halved s n in
    let e = size s n in
    let less : e < 2 ^ 30 = omega (arith, few, half) in
    let same = digits_small 31 e (omega (arith, less)) ∙ digits_small 30 e less in
    omega (arith, size_is s n, same, digits_few 30 e)

size_full : (s : Bool) (n : ℕ) → is_int (signed s n) ≡ true → is_int (signed s (n + n)) ≡ false → digits_of (signed s n) ≡ 31
size_full s n h g =
    let many = int_least s (n + n) g in
    let half = halved s n in
    let e = size s n in
    size_is s n ∙ digits_small 31 e (int_most s n h) ∙ digits_full 30 e (omega (arith, many, half))

-- the count of rounds, from how many times each number can be doubled
abbrev counted : ℕ → ℕ → ℕ
counted h k = if nat_le h k then 5 * h + 3 else 5 * (k + 1)

counted_at : (h k : ℕ) (t : Bool) → nat_le h k ≡ t → counted h k ≡ (if t then 5 * h + 3 else 5 * (k + 1))
counted_at h k t e = ap (λ (b : Bool). if b then 5 * h + 3 else 5 * (k + 1)) e

counted_next : (h k : ℕ) → counted (suc h) (suc k) ≡ 5 + counted h k
counted_next h k = pick (nat_le h k) refl
  where
    pick : (t : Bool) → nat_le h k ≡ t → counted (suc h) (suc k) ≡ 5 + counted h k
    pick true e =
        let low = leb-true h k e in
        omega (arith, counted_at h k true e, counted_at (suc h) (suc k) true (le-leb (suc h) (suc k) (omega (arith, low))))
    pick false e =
        let low = leb-false h k e in
        omega (arith, counted_at h k false e, counted_at (suc h) (suc k) false (lt-leb (suc h) (suc k) (omega (arith, low))))

counted_free : (h : ℕ) → h ≤ 30 → counted (suc h) 31 ≡ 5 + counted h 31
counted_free h low =
    omega (arith, counted_at h 31 true (le-leb h 31 (omega (arith, low))), counted_at (suc h) 31 true (le-leb (suc h) 31 (omega (arith, low))))

counted_few : (h k : ℕ) → h ≤ 31 → counted h k ≤ 158
counted_few h k few = pick (nat_le h k) refl
  where
    pick : (t : Bool) → nat_le h k ≡ t → counted h k ≤ 158
    pick true e = omega (arith, counted_at h k true e, few)
    pick false e = let less = leb-false h k e in omega (arith, counted_at h k false e, few, less)

rounds_few : (z : ℤ) (m : ℕ) → rounds_count z m ≤ 158
rounds_few z m = counted_few (digits 32 m - 1) (31 - digits_of z) (omega (arith, digits_few 32 m))

pub rounds_last : (z : ℤ) (m : ℕ) → m / 2 ≡ 0 → rounds_count z m ≡ 3
rounds_last z m h = ap (λ j. counted j k) (none m (omega (arith, h))) ∙ counted_at 0 k true (le-leb 0 k (omega arith))
  where
    k : ℕ
    k = 31 - digits_of z

    none : (m : ℕ) → m < 2 → digits 32 m - 1 ≡ 0
    none zero h = refl
    none (suc zero) h = refl
    none (suc (suc m)) h = absurd (omega (arith, h))

pub rounds_more : (s : Bool) (n m : ℕ) → 1 ≤ m / 2 → m < 2 ^ 32 → is_int (signed s (n + n)) ≡ true
    → rounds_count (signed s n) m ≡ 5 + rounds_count (signed s (n + n)) (m / 2)
rounds_more s n m low few h = pick n h
  where
    one : digits 32 m ≡ suc (digits 32 (m / 2))
    one = digits_more m (omega (arith, low)) few

    two : digits 32 (m / 2) ≡ suc (digits 32 (m / 2 / 2))
    two = digits_more (m / 2) low (omega (arith, few))

    j : ℕ
    j = digits 32 (m / 2) - 1

    digit : digits 32 m - 1 ≡ suc j
    digit = omega (arith, one, two)

    pick : (n : ℕ) → is_int (signed s (n + n)) ≡ true → counted (digits 32 m - 1) (31 - digits_of (signed s n))
        ≡ 5 + counted j (31 - digits_of (signed s (n + n)))
    pick zero h =
        let none : digits_of (signed s 0) ≡ 0 = ap digits_of (signed_zero s) in
        let k : 31 - digits_of (signed s 0) ≡ 31 = omega (arith, none) in
        ap (λ i. counted i (31 - digits_of (signed s 0))) digit ∙ ap (counted (suc j)) k
        ∙ counted_free j (omega (arith, digit, one, two, digits_few 32 m)) ∙ ap (λ i. 5 + counted j i) (sym k)
    pick (suc n) h =
        let k = 31 - digits_of (signed s (suc n + suc n)) in
        let doubled = size_doubled s (suc n) (omega arith) h in
        let more : 31 - digits_of (signed s (suc n)) ≡ suc k = omega (arith, doubled, size_small s (suc n) h) in
        ap (λ i. counted i (31 - digits_of (signed s (suc n)))) digit ∙ ap (counted (suc j)) more ∙ counted_next j k

pub rounds_stop : (s : Bool) (n m : ℕ) → 1 ≤ m / 2 → m < 2 ^ 32 → is_int (signed s n) ≡ true → is_int (signed s (n + n)) ≡ false
    → rounds_count (signed s n) m ≡ 5
rounds_stop s n m low few h g =
    let h1 = digits 32 m - 1 in
    let k : 31 - digits_of (signed s n) ≡ 0 = omega (arith, size_full s n h g) in
    let one = digits_more m (omega (arith, low)) few in
    let two = digits_more (m / 2) low (omega (arith, few)) in
    ap (counted h1) k ∙ counted_at h1 0 false (lt-leb h1 0 (omega (arith, one, two)))

-- what is added and doubled: so far k, and n for each of m
pub split : (k n m q : ℕ) (t : Bool) → m ≡ (if t then 1 else 0) + (q + q) → k + n * m ≡ k + (if t then n else 0) + (n + n) * q
split k n m q true h = let e = ap (λ j. n * j) h in omega (arith, e)
split k n m q false h = let e = ap (λ j. n * j) h in omega (arith, e)

pub parity : (m : ℕ) (t : Bool) → (m % 2 == 1) ≡ t → m ≡ (if t then 1 else 0) + (m / 2 + m / 2)
parity m true h = grind (arith, nat_tests)
parity m false h = grind (arith, nat_tests)

pub beyond_twice : (k n m : ℕ) → 1 ≤ m / 2 → n + n ≤ k + n * m
beyond_twice k n m h = let more : n * 2 ≤ n * m = mul-le-mul_left n (omega (arith, h)) in omega (arith, more)

-- a factor with its sign, and the product of two
pub record Signed (z : ℤ) : Type 0 where
  pub sign : Bool
  pub size : ℕ
  pub is : z ≡ signed sign size
  pub minus : neg_ℤ z ≡ signed (not sign) size

pub sign_of : (z : ℤ) → Signed z
sign_of (pos n) = record { sign = false; size = n; is = refl; minus = refl }
sign_of (negsuc n) = record { sign = true; size = suc n; is = refl; minus = refl }

pub times_above : (x : ℤ) (m : ℕ) → x *ℤ pos m ≡ signed (sign_of x).sign ((sign_of x).size * m)
unfolding sign_of
times_above (pos n) m = pos-*ℤ-pos n m
times_above (negsuc n) m = negsuc-*ℤ-pos n m

pub times_below : (x : ℤ) (m : ℕ) → x *ℤ negsuc m ≡ signed (not (sign_of x).sign) ((sign_of x).size * suc m)
unfolding sign_of
times_below (pos n) m = pos-*ℤ-negsuc n m
times_below (negsuc n) m = negsuc-*ℤ-negsuc n m

-- minus an integer: its word, and whether there is an overflow
pub minus_word : (x : ℤ) → is_int x ≡ true → is_int (neg_ℤ x) ≡ true → (2 ^ 32 - word_of_int x) % 2 ^ 32 ≡ word_of_int (neg_ℤ x)
minus_word (pos zero) p h = refl
minus_word (pos (suc n)) p h = grind (arith, nat_tests)
minus_word (negsuc n) p h = grind (arith, nat_tests)

pub minus_overflows : (x : ℤ) → is_int x ≡ true → (word_of_int x == 2 ^ 31) ≡ not (is_int (neg_ℤ x))
minus_overflows (pos zero) p = refl
minus_overflows (pos (suc n)) p = grind (arith, nat_tests)
minus_overflows (negsuc n) p = grind (arith, nat_tests)

-- a product takes at most 165 instructions
pub product_few : (x y : ℤ) → product_count x y ≤ 165
product_few x (pos m) = omega (arith, rounds_few x m)
product_few x (negsuc m) = pick (is_int (neg_ℤ x))
  where
    pick : (t : Bool) → 3 + (4 + (if t then rounds_count (neg_ℤ x) (suc m) else 0)) ≤ 165
    pick true = omega (arith, rounds_few (neg_ℤ x) (suc m))
    pick false = omega arith

-- Items as numbers: equality, order, truth values, sums and indices.
use Rattle.std.proofs.Common.{◌≡◌, ℕ, ◌+◌, ◌-◌, ◌%◌, ◌<◌, ◌^◌, ◌==◌, ℤ, pos, negsuc, ◌+ℤ◌, ◌-ℤ◌, Bool, true, false, not, ◌⊎◌, inl, inr, refl, sym, ap, ◌∙◌}
use Rattle.std.{proofs.Common.{arith, int_lt, int_le, Less, Equal, Greater, cond}, specs.Prelude.{nat_lt, nat_le, if◌then◌else◌, bit_and, bit_or, bit_xor}}
use Rattle.std.{specs.Prelude.{◌&&◌, ◌||◌}, specs.Ordering.is_eq, proofs.lemmas.Bool.{cases_order, eq-eqb, ne_eqb, lt-ltb, le-ltb, le-leb, lt-leb, ltb-false}}
use Rattle.std.{proofs.lemmas.Bool.{ltb-true, eqb-true, or_cases}, proofs.lemmas.Bool.Decides.nat_tests, proofs.Math.IntN.+ℤ_comm}
use Rattle.stack_text.{specs.declared.shape.Kind.Kind, specs.declared.shape.Kind.TheVariants.{Integer, Boolean, Character}}
use Rattle.fm_words.{specs.Word.{is_int, word_of_int, signed_of, are_same_ints}, specs.Alu.are_same, proofs.WordLaws.signed_of-word_of_int}
use Rattle.fm_code.proofs.NumberLaws as numbers
use Rattle.fm_code.proofs.XorLaws.{xor_tests}
use Rattle.gypsy_syntax.{specs.Ranges.is_in_range, specs.Resolved.truth_item, specs.Effects.same_int}

-- Equality and order of integers, as tests.
eq_by_order : (m n : ℕ) → (m == n) ≡ is_eq (cond (nat_lt m n) Less (cond (nat_lt n m) Greater Equal))
eq_by_order m n = pick (cases_order m n)
  where
    pick : ((m ≡ n) ⊎ ((m < n) ⊎ (n < m))) → (m == n) ≡ is_eq (cond (nat_lt m n) Less (cond (nat_lt n m) Greater Equal))
    pick (inl e) = rw (eq-eqb m n e, le-ltb m n (omega (arith, e)), le-ltb n m (omega (arith, e))) refl
    pick (inr (inl l)) = rw (ne_eqb m n (λ e. omega (arith, e, l)), lt-ltb m n l) refl
    pick (inr (inr l)) = rw (ne_eqb m n (λ e. omega (arith, e, l)), le-ltb m n (omega (arith, l)), lt-ltb n m l) refl

eq_other_way : (m n : ℕ) → (m == n) ≡ is_eq (cond (nat_lt n m) Less (cond (nat_lt m n) Greater Equal))
eq_other_way m n = pick (cases_order m n)
  where
    pick : ((m ≡ n) ⊎ ((m < n) ⊎ (n < m))) → (m == n) ≡ is_eq (cond (nat_lt n m) Less (cond (nat_lt m n) Greater Equal))
    pick (inl e) = rw (eq-eqb m n e, le-ltb m n (omega (arith, e)), le-ltb n m (omega (arith, e))) refl
    pick (inr (inl l)) = rw (ne_eqb m n (λ e. omega (arith, e, l)), le-ltb n m (omega (arith, l)), lt-ltb m n l) refl
    pick (inr (inr l)) = rw (ne_eqb m n (λ e. omega (arith, e, l)), lt-ltb n m l) refl

same_ints : (x y : ℤ) → are_same_ints x y ≡ same_int x y
same_ints (pos m) (pos n) = eq_by_order m n
same_ints (pos m) (negsuc n) = refl
same_ints (negsuc m) (pos n) = refl
same_ints (negsuc m) (negsuc n) = eq_other_way m n

not_below : (m n : ℕ) → not (nat_lt n m) ≡ nat_le m n
not_below m n = pick (nat_lt n m) refl
  where
    pick : (b : Bool) → nat_lt n m ≡ b → not b ≡ nat_le m n
    pick true e = let l = ltb-true n m e in sym (lt-leb m n l)
    pick false e = let l = ltb-false n m e in sym (le-leb m n l)

not_less : (x y : ℤ) → not (int_lt y x) ≡ int_le x y
not_less (pos m) (pos n) = not_below m n
not_less (pos m) (negsuc n) = refl
not_less (negsuc m) (pos n) = refl
not_less (negsuc m) (negsuc n) = not_below n m

pub same_range : (z : ℤ) → is_in_range Integer z ≡ is_int z
same_range (pos n) = refl
same_range (negsuc n) = refl

-- an item of any kind is an integer of 32 bits
pub item_is_int : (k : Kind) (z : ℤ) → is_in_range k z ≡ true → is_int z ≡ true
item_is_int Integer z h = sym (same_range z) ∙ h
item_is_int Boolean (pos n) h = pick (or_cases (n == 0) (n == 1) h)
  where
    pick : (((n == 0) ≡ true) ⊎ ((n == 1) ≡ true)) → nat_lt n (2 ^ 31) ≡ true
    pick (inl e) = rw (eqb-true n 0 e) refl
    pick (inr e) = rw (eqb-true n 1 e) refl
item_is_int Boolean (negsuc n) h = cc
item_is_int Character (pos n) h = grind (arith, nat_tests)
item_is_int Character (negsuc n) h = cc

-- a truth value's item is 0 or 1
pub truth_cases : (z : ℤ) → is_in_range Boolean z ≡ true → (z ≡ pos 0) ⊎ (z ≡ pos 1)
truth_cases (negsuc n) h = cc
truth_cases (pos n) h = pick (or_cases (n == 0) (n == 1) h)
  where
    pick : (((n == 0) ≡ true) ⊎ ((n == 1) ≡ true)) → (pos n ≡ pos 0) ⊎ (pos n ≡ pos 1)
    pick (inl e) = inl (ap pos (eqb-true n 0 e))
    pick (inr e) = inr (ap pos (eqb-true n 1 e))

pub truth_number : (t : Bool) → (if t then 1 else 0) ≡ word_of_int (truth_item t)
truth_number true = refl
truth_number false = refl

-- equality, by the exclusive or
pub same_items : (k : Kind) (y x : ℤ) → is_in_range k y ≡ true → is_in_range k x ≡ true
    → (bit_xor (word_of_int y) (word_of_int x) == 0) ≡ same_int y x
same_items k y x q p =
    xor_tests (word_of_int y) (word_of_int x) ∙ numbers.same_ints y x (item_is_int k y q) (item_is_int k x p) ∙ same_ints y x

-- order, by the flags of a difference
turned : (n v : Bool) → are_same n v ≡ not (not (are_same n v))
turned true true = refl
turned true false = refl
turned false true = refl
turned false false = refl

pub le_items : (y x : ℤ) → is_int y ≡ true → is_int x ≡ true
    → are_same (nat_le (2 ^ 31) ((word_of_int y + 2 ^ 32 - word_of_int x) % 2 ^ 32)) (not (is_int (signed_of (word_of_int y) -ℤ signed_of (word_of_int x))))
    ≡ int_le x y
le_items y x q p =
    turned (nat_le (2 ^ 31) ((word_of_int y + 2 ^ 32 - word_of_int x) % 2 ^ 32)) (not (is_int (signed_of (word_of_int y) -ℤ signed_of (word_of_int x))))
    ∙ ap not (numbers.lt_int y x q p) ∙ not_less x y

-- truth values
pub or_items : (x y : ℤ) → is_in_range Boolean x ≡ true → is_in_range Boolean y ≡ true
    → bit_or (word_of_int y) (word_of_int x) ≡ word_of_int (truth_item (same_int x (pos 1) || same_int y (pos 1)))
or_items x y p q = pick (truth_cases x p) (truth_cases y q)
  where
    pick : ((x ≡ pos 0) ⊎ (x ≡ pos 1)) → ((y ≡ pos 0) ⊎ (y ≡ pos 1))
        → bit_or (word_of_int y) (word_of_int x) ≡ word_of_int (truth_item (same_int x (pos 1) || same_int y (pos 1)))
    pick (inl e) (inl g) = rw (e, g) refl
    pick (inl e) (inr g) = rw (e, g) refl
    pick (inr e) (inl g) = rw (e, g) refl
    pick (inr e) (inr g) = rw (e, g) refl

pub and_items : (x y : ℤ) → is_in_range Boolean x ≡ true → is_in_range Boolean y ≡ true
    → bit_and (word_of_int y) (word_of_int x) ≡ word_of_int (truth_item (same_int x (pos 1) && same_int y (pos 1)))
and_items x y p q = pick (truth_cases x p) (truth_cases y q)
  where
    pick : ((x ≡ pos 0) ⊎ (x ≡ pos 1)) → ((y ≡ pos 0) ⊎ (y ≡ pos 1))
        → bit_and (word_of_int y) (word_of_int x) ≡ word_of_int (truth_item (same_int x (pos 1) && same_int y (pos 1)))
    pick (inl e) (inl g) = rw (e, g) refl
    pick (inl e) (inr g) = rw (e, g) refl
    pick (inr e) (inl g) = rw (e, g) refl
    pick (inr e) (inr g) = rw (e, g) refl

pub not_item : (x : ℤ) → is_in_range Boolean x ≡ true → bit_xor 1 (word_of_int x) ≡ word_of_int (truth_item (not (same_int x (pos 1))))
not_item x p = pick (truth_cases x p)
  where
    pick : ((x ≡ pos 0) ⊎ (x ≡ pos 1)) → bit_xor 1 (word_of_int x) ≡ word_of_int (truth_item (not (same_int x (pos 1))))
    pick (inl e) = rw e refl
    pick (inr e) = rw e refl

-- the test of an `if`
pub test_item : (x : ℤ) → is_in_range Boolean x ≡ true → (word_of_int x == 0) ≡ not (same_int x (pos 1))
test_item x p = pick (truth_cases x p)
  where
    pick : ((x ≡ pos 0) ⊎ (x ≡ pos 1)) → (word_of_int x == 0) ≡ not (same_int x (pos 1))
    pick (inl e) = rw e refl
    pick (inr e) = rw e refl

-- sums and differences: the word, and whether there is an overflow
pub sum_item : (x y : ℤ) → is_int x ≡ true → is_int y ≡ true → is_int (x +ℤ y) ≡ true → (word_of_int y + word_of_int x) % 2 ^ 32 ≡ word_of_int (x +ℤ y)
sum_item x y p q h =
    let turn = +ℤ_comm y x in
    numbers.sum_number y x q p (ap is_int turn ∙ h) ∙ ap word_of_int turn

pub sum_over : (x y : ℤ) → is_int x ≡ true → is_int y ≡ true
    → not (is_int (signed_of (word_of_int y) +ℤ signed_of (word_of_int x))) ≡ not (is_int (x +ℤ y))
sum_over x y p q =
    (λ i. not (is_int (signed_of-word_of_int y q i +ℤ signed_of-word_of_int x p i))) ∙ ap (λ z. not (is_int z)) (+ℤ_comm y x)

pub difference_over : (x y : ℤ) → is_int x ≡ true → is_int y ≡ true
    → not (is_int (signed_of (word_of_int x) -ℤ signed_of (word_of_int y))) ≡ not (is_int (x -ℤ y))
difference_over x y p q =
    (λ i. not (is_int (signed_of-word_of_int x p i -ℤ signed_of-word_of_int y q i)))

-- The word operations of the bodies on words of items.
use Rattle.std.proofs.Common.{◌≡◌, ℕ, zero, suc, ◌+◌, ◌<◌, ◌^◌, ℤ, pos, negsuc, ◌+ℤ◌, ◌-ℤ◌, neg_ℤ, Ok, Bool, true, false, not, ◌⊎◌, cond, List, refl, ap, sym}
use Rattle.std.{proofs.Common.{◌∙◌, arith, int_lt, int_le, inl, inr, Less, Equal, Greater}, specs.Prelude.{◌==◌, nat_lt, nat_le}, specs.Ordering.is_eq}
use Rattle.std.proofs.lemmas.Bool.{cases_order, eq-eqb, ne_eqb, lt-ltb, le-ltb, le-leb, lt-leb, ltb-false, ltb-true, eqb-true, eqb-false, or_cases}
use Rattle.std.{proofs.lemmas.Int.ints, proofs.Math.IntN.+ℤ_idr}
use Rattle.stack_text.{specs.declared.shape.Kind.Kind, specs.declared.shape.Kind.TheVariants.{Integer, Boolean, Character}, specs.Results.◌>>=◌}
use Rattle.piton_words.{specs.declared.word.Word.Word, specs.declared.word.Word.TheVariants.{Int, Nat, Bool as Truth}}
use Rattle.piton_words.{specs.declared.outcome.Outcome.TheVariants.One, specs.OperationRows.{are_same, bool_word, int_word, int_carried}}
use Rattle.piton_words.specs.Views.{where_true}
use Rattle.piton_words.specs.declared.op.WordOp.TheVariants as op
use Rattle.piton_words.specs.OperationRows as words
use Rattle.fm_words.{specs.Word.{are_same_ints, is_int}, specs.Alu.are_same as are_same_bools}
use Rattle.piton_syntax.specs.declared.test_kind.TestFamily.TheVariants as family
use Rattle.piton_syntax.specs.declared.test_kind.TestKind.TheVariants as test
use Rattle.piton_semantics.specs.Views.{then_on, test_of, is_negative}
use Rattle.gypsy_syntax.{specs.Ranges.is_in_range, specs.Effects.same_int}
use Rattle.gypsy_predef.specs.Runs.{word_of_item}

-- Equality.

eq_by_order : (m n : ℕ) → (m == n) ≡ is_eq (cond (nat_lt m n) Less (cond (nat_lt n m) Greater Equal))
eq_by_order m n = pick (cases_order m n)
  where
    pick : ((m ≡ n) ⊎ ((m < n) ⊎ (n < m))) → (m == n) ≡ is_eq (cond (nat_lt m n) Less (cond (nat_lt n m) Greater Equal))
    pick (inl e) = rw (eq-eqb m n e, le-ltb m n (omega (arith, e)), le-ltb n m (omega (arith, e))) refl
    pick (inr (inl l)) = rw (ne_eqb m n (λ e. omega (arith, e, l)), lt-ltb m n l) refl
    pick (inr (inr l)) = rw (ne_eqb m n (λ e. omega (arith, e, l)), le-ltb m n (omega (arith, l)), lt-ltb n m l) refl

eq_other_way : (m n : ℕ) → (m == n) ≡ is_eq (cond (nat_lt n m) Less (cond (nat_lt m n) Greater Equal))
eq_other_way m n = pick (cases_order m n)
  where
    pick : ((m ≡ n) ⊎ ((m < n) ⊎ (n < m))) → (m == n) ≡ is_eq (cond (nat_lt n m) Less (cond (nat_lt m n) Greater Equal))
    pick (inl e) = rw (eq-eqb m n e, le-ltb m n (omega (arith, e)), le-ltb n m (omega (arith, e))) refl
    pick (inr (inl l)) = rw (ne_eqb m n (λ e. omega (arith, e, l)), le-ltb n m (omega (arith, l)), lt-ltb m n l) refl
    pick (inr (inr l)) = rw (ne_eqb m n (λ e. omega (arith, e, l)), lt-ltb n m l) refl

pub same_ints : (x y : ℤ) → are_same_ints x y ≡ same_int x y
same_ints (pos m) (pos n) = eq_by_order m n
same_ints (pos m) (negsuc n) = refl
same_ints (negsuc m) (pos n) = refl
same_ints (negsuc m) (negsuc n) = eq_other_way m n

-- a truth value's item is 0 or 1
truth_cases : (z : ℤ) → is_in_range Boolean z ≡ true → (z ≡ pos 0) ⊎ (z ≡ pos 1)
truth_cases (negsuc n) h = cc
truth_cases (pos n) h = pick (or_cases (n == 0) (n == 1) h)
  where
    pick : (((n == 0) ≡ true) ⊎ ((n == 1) ≡ true)) → (pos n ≡ pos 0) ⊎ (pos n ≡ pos 1)
    pick (inl e) = inl (ap pos (eqb-true n 0 e))
    pick (inr e) = inr (ap pos (eqb-true n 1 e))

same_truths : (x y : ℤ) → ((x ≡ pos 0) ⊎ (x ≡ pos 1)) → ((y ≡ pos 0) ⊎ (y ≡ pos 1)) → are_same_bools (same_int x (pos 1)) (same_int y (pos 1)) ≡ same_int x y
same_truths x y (inl e) (inl g) = rw (e, g) refl
same_truths x y (inl e) (inr g) = rw (e, g) refl
same_truths x y (inr e) (inl g) = rw (e, g) refl
same_truths x y (inr e) (inr g) = rw (e, g) refl

same_words : (k : Kind) (x y : ℤ) → is_in_range k x ≡ true → is_in_range k y ≡ true → are_same (word_of_item k x) (word_of_item k y) ≡ Ok (same_int x y)
same_words Integer x y p q = ap Ok (same_ints x y)
same_words Character x y p q = ap Ok (same_ints x y)
same_words Boolean x y p q = ap Ok (same_truths x y (truth_cases x p) (truth_cases y q))

pub eq_row : (k : Kind) (x y : ℤ) (v : Word) (areas : List ℕ) → is_in_range k x ≡ true → is_in_range k y ≡ true →
    words.row_of op.Eq v (word_of_item k x) (word_of_item k y) areas ≡ Ok (One (Truth (same_int x y)))
eq_row k x y v areas p q = ap (λ r. r >>= bool_word) (same_words k x y p q)

-- Order.

not_below : (m n : ℕ) → not (nat_lt n m) ≡ nat_le m n
not_below m n = pick (nat_lt n m) refl
  where
    pick : (b : Bool) → nat_lt n m ≡ b → not b ≡ nat_le m n
    pick true e = let l = ltb-true n m e in sym (lt-leb m n l)
    pick false e = let l = ltb-false n m e in sym (le-leb m n l)

pub not_less : (x y : ℤ) → not (int_lt y x) ≡ int_le x y
not_less (pos m) (pos n) = not_below m n
not_less (pos m) (negsuc n) = refl
not_less (negsuc m) (pos n) = refl
not_less (negsuc m) (negsuc n) = not_below n m

-- Range.

pub same_range : (z : ℤ) → is_in_range Integer z ≡ is_int z
same_range (pos n) = refl
same_range (negsuc n) = refl

pub difference_is : (x : ℤ) → pos 0 -ℤ x ≡ neg_ℤ x
difference_is x = omega (arith, ints)

-- the least number has no negative
least_minus : (n : ℕ) → n < 2 ^ 31 → nat_lt (suc n) (2 ^ 31) ≡ not (n == 2147483647)
least_minus n h = pick (n == 2147483647) refl
  where
    pick : (b : Bool) → (n == 2147483647) ≡ b → nat_lt (suc n) (2 ^ 31) ≡ not b
    pick true e = let same = eqb-true n 2147483647 e in le-ltb (suc n) (2 ^ 31) (omega (arith, same))
    pick false e = let other : n ≡ 2147483647 → ⊥ = eqb-false n 2147483647 e in lt-ltb (suc n) (2 ^ 31) (omega (arith, h, other))

pub minus_range : (x : ℤ) → is_in_range Integer x ≡ true → is_in_range Integer (neg_ℤ x) ≡ not (are_same_ints x (negsuc 2147483647))
minus_range (pos zero) h = refl
minus_range (pos (suc n)) h = let l : suc n < 2 ^ 31 = ltb-true (suc n) (2 ^ 31) h in lt-ltb n (2 ^ 31) (omega (arith, l))
minus_range (negsuc n) h = least_minus n (ltb-true n (2 ^ 31) h)

pub minus_row : (x : ℤ) (v : Word) (areas : List ℕ) → is_int (neg_ℤ x) ≡ true → words.row_of op.NegInt v v (Int x) areas ≡ Ok (One (Int (neg_ℤ x)))
minus_row x v areas h = ap int_word (difference_is x) ∙ ap (λ b. where_true b (Ok (One (Int (neg_ℤ x))))) h

-- a sum or a difference: whether it is out of range, and then its 32 bits
pub add_row : (x y : ℤ) (areas : List ℕ) → words.row_of op.AddIntWithCarry (Truth false) (Int x) (Int y) areas ≡ int_carried (x +ℤ y)
add_row x y areas = ap int_carried (+ℤ_idr (x +ℤ y))

pub subtract_row : (x y : ℤ) (areas : List ℕ) → words.row_of op.SubIntWithCarry (Truth false) (Int x) (Int y) areas ≡ int_carried (x -ℤ y)
subtract_row x y areas = ap int_carried (+ℤ_idr (x -ℤ y))

-- Tests.

pub truth_test : (b t : Bool) → b ≡ t → test_of family.Bool test.T (Truth b) ≡ Ok t
unfolding then_on
truth_test b t e = ap Ok e

pub false_test : (b t : Bool) → not b ≡ t → test_of family.Bool test.F (Truth b) ≡ Ok t
unfolding then_on
false_test b t e = ap Ok e

pub negative_test : (z : ℤ) → test_of family.Int test.Neg (Int z) ≡ Ok (is_negative z)
unfolding then_on
negative_test z = refl

-- Numbers of elements.

pub to_nat_row : (n : ℕ) (v : Word) (areas : List ℕ) → n < 2 ^ 32 → words.row_of op.IntToNat v v (Int (pos n)) areas ≡ Ok (One (Nat n))
to_nat_row n v areas h = ap (λ b. where_true b (Ok (One (Nat n)))) (lt-ltb n (2 ^ 32) h)

pub add_nat_row : (m n : ℕ) (v : Word) (areas : List ℕ) → m + n < 2 ^ 32 → words.row_of op.AddNat v (Nat m) (Nat n) areas ≡ Ok (One (Nat (m + n)))
add_nat_row m n v areas h = ap (λ b. where_true b (Ok (One (Nat (m + n))))) (lt-ltb (m + n) (2 ^ 32) h)

-- What the words of each instruction do, one field for each row.
use Rattle.std.{proofs.Common.{◌≡◌, ℕ, ◌+◌, ◌*◌, List, [], ◌∷◌, ◌++◌, length, refl, ap, ◌∙◌, arith, length-append}, specs.Prelude.{replicate, reverse, Bool}}
use Rattle.std.specs.Prelude.{true, not, ◌&&◌, ◌||◌, ◌==◌, nat_le, nat_lt, ℤ, pos, ◌+ℤ◌, ◌-ℤ◌, ◌*ℤ◌, bit_and, bit_or, bit_xor, ◌-◌, ◌/◌, ◌%◌, ◌^◌, ◌<◌}
use Rattle.std.{proofs.lemmas.List.{length-replicate, length-reverse}, proofs.Math.IntN.+ℤ_comm, specs.Int.from_bool as bit_of}
use Rattle.std.proofs.lemmas.Bool.Decides.{nat_tests}
use Rattle.fm_words.{proofs.FlagsLaws.bit_small, specs.declared.operation.Op.TheVariants.{Inc, Addc, Add, Neg, Dec, Subb, Sub, Lsr, Xor, Or, And, Not}}
use Rattle.fm_words.{specs.declared.condition.Cc.TheVariants.{Cs, Vs, Lt}, specs.Word.{signed_of, is_int, is_nat, word_of_int, wrapped}}
use Rattle.fm_machine.specs.State.{Fm}
use Rattle.fm_code.{specs.InstructionWords.{reg, push, pop as pop_of, mov}, specs.Templates.{prelude_code, temporaries_code, carry_code, mult2_carry_code}}
use Rattle.fm_code.{specs.Execution.{Parts, CodeAt, view}, specs.CodeRows.{MoveRows, JumpRows, WordRows, TestRows, HasRoom, framed}, proofs.RunLaws.RunsToView}
use Rattle.fm_code.{proofs.RunLaws.{executes, with_count, with_temp}, proofs.NumberLaws.{same_ints, same_bools, lt_int, sum_number, difference_number}}
use Rattle.fm_code.proofs.NumberLaws.{last_bit, or_bools, and_bools, sum_outside, difference_outside, wrapped_sum, wrapped_difference, nat_sum, nat_sum_outside}
use Rattle.fm_code.proofs.NumberLaws.{nat_difference, nat_difference_outside, is_zero, is_negative, is_positive, le_is, true_word, false_word}
use Rattle.fm_code.specs.Flags.{flags_of_word}
use Rattle.fm_code.proofs.MoveLaws as moves
use Rattle.fm_code.proofs.JumpLaws as jumps
use Rattle.fm_code.proofs.ArithmeticLaws as words

pub move_rows : (P : Parts) (f pc : ℕ) (ctrl temp areas : List ℕ) → MoveRows P (view f pc ctrl temp areas)
move_rows P f pc ctrl temp areas =
    record {
      push_constant = λ w room. executes (λ s h code. moves.push_constant w h code room) refl;
      push_local = λ k w there top room. executes (λ s h code. moves.push_local k w h code there top room) refl;
      pop_local = λ k v below top. executes (λ s h code. moves.pop_local k v h code below top) refl;
      set_local = λ k v below top. executes (λ s h code. moves.set_local k v h code below top) refl;
      push_global = λ a k w e there room. executes (λ s h code. moves.push_global a k w h code e there room) refl;
      pop_global = λ a k v e below. executes (λ s h code. moves.pop_global a k v h code e below) refl;
      set_global = λ a k v e below. executes (λ s h code. moves.set_global a k v h code e below) refl;
      push_temp_stk_index = λ k below room. executes (λ s h code. moves.push_temp_stk_index k h code below room) refl;
      push_temp_stk_free_size = λ room. executes (λ s h code. moves.push_temp_stk_free_size h code room) refl;
      push_ctrl_stk_free_size = λ room. executes (λ s h code. moves.push_ctrl_stk_free_size h code room) refl;
      fetch_temp_stk = λ t w below there. executes (λ s h code. moves.fetch_temp_stk t w h code below there) refl;
      deposit_temp_stk = λ t v below. executes (λ s h code. moves.deposit_temp_stk t v h code below) refl;
      fetch = λ a k w e there. executes (λ s h code. moves.fetch a k w h code e there) refl;
      deposit = λ a k v e below. executes (λ s h code. moves.deposit a k v h code e below) refl;
      pop = λ v. executes (λ s h code. moves.pop v h code) refl;
      pop_star = λ xs. executes (λ s h code. moves.pop_star xs h code) refl;
      popn = λ xs. executes (λ s h code. moves.popn xs h code) refl;
      no_op = executes (λ s h code. moves.no_op h code) refl;
    }

-- the words of a prelude, and of a frame
pub length-prelude : (k : ℕ) (ts : List ℕ) → length (prelude_code k ts) ≡ 2 + 2 * length ts + k
length-prelude k ts =
    let a = length-append (temporaries_code ts) (replicate k (mov (push 1) (pop_of 2)) ++ mov (reg 0) (reg 1) ∷ []) in
    let b = length-append (replicate k (mov (push 1) (pop_of 2))) (mov (reg 0) (reg 1) ∷ []) in
    let c = length-replicate k (mov (push 1) (pop_of 2)) in
    let d = jumps.length-temporaries ts in
    omega arith

pub length-framed : (xs ts : List ℕ) (f after : ℕ) (ctrl : List ℕ) → length (framed xs ts f after ctrl) ≡ length xs + length ts + 2 + length ctrl
length-framed xs ts f after ctrl =
    let a = length-append (reverse xs) (ts ++ (f ∷ after ∷ ctrl)) in
    let b = length-append ts (f ∷ after ∷ ctrl) in
    let c = length-reverse xs in
    omega arith

pub jump_rows : (P : Parts) (f pc : ℕ) (ctrl temp areas : List ℕ) → JumpRows P (view f pc ctrl temp areas)
jump_rows P f pc ctrl temp areas =
    record {
      jump = λ to. executes (λ s h code. jumps.jump to h code) refl;
      jump_if_temp_stk_full = λ to. executes (λ s h code. jumps.jump_if_temp_stk_full to h code) refl;
      jump_if_temp_stk_empty = λ to. executes (λ s h code. jumps.jump_if_temp_stk_empty to h code) refl;
      jump_case = λ t to targets there. executes (λ s h code. jumps.jump_case t to targets h code there) refl;
      pushj = λ after to room. executes (λ s h code. jumps.pushj after to h code room) refl;
      popj = λ to. executes (λ s h code. jumps.popj to h code) refl;
      test_and_jump = λ k x to. executes (λ s h code. jumps.test_and_jump k x to h code) refl;
      prelude = λ after g xs ts room top.
          let long = length-prelude (length xs) ts in
          let size = length-framed xs ts f after ctrl in
          executes (λ s h code. with_count (jumps.prelude g xs ts h code (omega arith) (omega arith)) refl (omega arith)) (omega arith);
      call = λ after entry g xs ts begins room top.
          let long = length-prelude (length xs) ts in
          let size = length-framed xs ts f after ctrl in
          executes (λ s h code. with_count (jumps.call after entry g xs ts h code begins (omega arith) (omega arith)) refl (omega arith)) (omega arith);
      pop_call = λ after entry g xs ts begins room top.
          let long = length-prelude (length xs) ts in
          let size = length-framed xs ts f after ctrl in
          executes (λ s h code. with_count (jumps.pop_call after entry g xs ts h code begins (omega arith) (omega arith)) refl (omega arith)) (omega arith);
      ret = λ older back locals top. executes (λ s h code. jumps.ret older back locals h code top) refl;
    }

-- sums and differences with a carry, of integers and of numbers without a sign
module _ {P : Parts} {n : ℕ} {s : Fm} {f pc : ℕ} {ctrl temp areas : List ℕ} where
  added_ints : (u : Bool) (y x : ℤ) → is_int y ≡ true → is_int x ≡ true → RunsToView P n s f pc ctrl (word_of_int x ∷ word_of_int y ∷ bit_of u ∷ temp)
      areas → CodeAt P pc (carry_code Addc Vs) → RunsToView P (n + 7) s f (pc + 7) ctrl
      (wrapped (y +ℤ x +ℤ pos (bit_of u)) ∷ bit_of (not (is_int (y +ℤ x +ℤ pos (bit_of u)))) ∷ temp) areas
  added_ints u y x q p h code =
      let k = bit_of u in
      let turn = +ℤ_comm x y in
      let over : not (is_int (signed_of (word_of_int x) +ℤ signed_of (word_of_int y) +ℤ pos (bit_of (k % 2 == 1)))) ≡ not (is_int (y +ℤ x +ℤ pos k)) =
      ap (λ b. not (is_int (signed_of (word_of_int x) +ℤ signed_of (word_of_int y) +ℤ pos (bit_of b)))) (last_bit u) ∙ sum_outside x y k p q
      ∙ ap (λ z. not (is_int (z +ℤ pos k))) turn in
      let sum : (word_of_int x + word_of_int y + bit_of (k % 2 == 1)) % 2 ^ 32 ≡ wrapped (y +ℤ x +ℤ pos k) =
      ap (λ b. (word_of_int x + word_of_int y + bit_of b) % 2 ^ 32) (last_bit u) ∙ wrapped_sum x y k p q ∙ ap (λ z. wrapped (z +ℤ pos k)) turn in
      with_temp (words.carried Addc Vs (not (is_int (y +ℤ x +ℤ pos k))) k (word_of_int y) (word_of_int x) h code (λ fl. over))
      (ap (λ v. v ∷ bit_of (not (is_int (y +ℤ x +ℤ pos k))) ∷ temp) sum)

  subtracted_ints : (u : Bool) (y x : ℤ) → is_int y ≡ true → is_int x ≡ true → RunsToView P n s f pc ctrl
      (word_of_int x ∷ word_of_int y ∷ bit_of u ∷ temp) areas → CodeAt P pc (carry_code Subb Vs)
      → RunsToView P (n + 7) s f (pc + 7) ctrl (wrapped (y -ℤ x -ℤ pos (bit_of u)) ∷ bit_of (not (is_int (y -ℤ x -ℤ pos (bit_of u)))) ∷ temp) areas
  subtracted_ints u y x q p h code =
      let k = bit_of u in
      let over : not (is_int (signed_of (word_of_int y) -ℤ signed_of (word_of_int x) -ℤ pos (bit_of (k % 2 == 1)))) ≡ not (is_int (y -ℤ x -ℤ pos k)) =
      ap (λ b. not (is_int (signed_of (word_of_int y) -ℤ signed_of (word_of_int x) -ℤ pos (bit_of b)))) (last_bit u) ∙ difference_outside y x k q p in
      let sum : (word_of_int y + 2 ^ 32 - (word_of_int x + bit_of (k % 2 == 1))) % 2 ^ 32 ≡ wrapped (y -ℤ x -ℤ pos k) =
      ap (λ b. (word_of_int y + 2 ^ 32 - (word_of_int x + bit_of b)) % 2 ^ 32) (last_bit u) ∙ wrapped_difference y x k q p (bit_small u) in
      with_temp (words.carried Subb Vs (not (is_int (y -ℤ x -ℤ pos k))) k (word_of_int y) (word_of_int x) h code (λ fl. over))
      (ap (λ v. v ∷ bit_of (not (is_int (y -ℤ x -ℤ pos k))) ∷ temp) sum)

  added_nats : (u : Bool) (y x : ℕ) → RunsToView P n s f pc ctrl (x ∷ y ∷ bit_of u ∷ temp) areas → CodeAt P pc (carry_code Addc Cs)
      → RunsToView P (n + 7) s f (pc + 7) ctrl
      (wrapped (pos y +ℤ pos x +ℤ pos (bit_of u)) ∷ bit_of (not (is_nat (pos y +ℤ pos x +ℤ pos (bit_of u)))) ∷ temp) areas
  added_nats u y x h code =
      let k = bit_of u in
      let t = not (is_nat (pos y +ℤ pos x +ℤ pos k)) in
      let over : nat_le (2 ^ 32) (x + y + bit_of (k % 2 == 1)) ≡ t = ap (λ b. nat_le (2 ^ 32) (x + y + bit_of b)) (last_bit u) ∙ nat_sum_outside y x k in
      let sum : (x + y + bit_of (k % 2 == 1)) % 2 ^ 32 ≡ wrapped (pos y +ℤ pos x +ℤ pos k) =
      ap (λ b. (x + y + bit_of b) % 2 ^ 32) (last_bit u) ∙ nat_sum y x k in
      with_temp (words.carried Addc Cs t k y x h code (λ fl. over)) (ap (λ v. v ∷ bit_of t ∷ temp) sum)

  subtracted_nats : (u : Bool) (y x : ℕ) → y < 2 ^ 32 → x < 2 ^ 32 → RunsToView P n s f pc ctrl (x ∷ y ∷ bit_of u ∷ temp) areas
      → CodeAt P pc (carry_code Subb Cs) → RunsToView P (n + 7) s f (pc + 7) ctrl
      (wrapped (pos y -ℤ pos x -ℤ pos (bit_of u)) ∷ bit_of (not (is_nat (pos y -ℤ pos x -ℤ pos (bit_of u)))) ∷ temp) areas
  subtracted_nats u y x q p h code =
      let k = bit_of u in
      let t = not (is_nat (pos y -ℤ pos x -ℤ pos k)) in
      let over : nat_lt y (x + bit_of (k % 2 == 1)) ≡ t = ap (λ b. nat_lt y (x + bit_of b)) (last_bit u) ∙ nat_difference_outside y x k q in
      let sum : (y + 2 ^ 32 - (x + bit_of (k % 2 == 1))) % 2 ^ 32 ≡ wrapped (pos y -ℤ pos x -ℤ pos k) =
      ap (λ b. (y + 2 ^ 32 - (x + bit_of b)) % 2 ^ 32) (last_bit u) ∙ nat_difference y x k q p (bit_small u) in
      with_temp (words.carried Subb Cs t k y x h code (λ fl. over)) (ap (λ v. v ∷ bit_of t ∷ temp) sum)

  doubled : (x : ℕ) → HasRoom P (x ∷ temp) → RunsToView P n s f pc ctrl (x ∷ temp) areas → CodeAt P pc mult2_carry_code
      → RunsToView P (n + 5) s f (pc + 5) ctrl (wrapped (pos 2 *ℤ pos x) ∷ bit_of (not (is_nat (pos 2 *ℤ pos x))) ∷ temp) areas
  doubled x room h code =
      let over : nat_le (2 ^ 32) (x + x) ≡ not (is_nat (pos 2 *ℤ pos x)) = grind (arith, nat_tests) in
      let sum : (x + x) % 2 ^ 32 ≡ wrapped (pos 2 *ℤ pos x) = omega arith in
      with_temp (words.mult2_carry x h code (omega arith)) (λ i. sum i ∷ bit_of (over i) ∷ temp)

pub word_rows : (P : Parts) (f pc : ℕ) (ctrl temp areas : List ℕ) → WordRows P (view f pc ctrl temp areas)
word_rows P f pc ctrl temp areas =
    record {
      eq = λ y x. executes (λ s h code. words.eq y x h code) refl;
      eq_int = λ y x q p.
          executes (λ s h code. with_temp (words.eq (word_of_int y) (word_of_int x) h code) (ap (λ b. bit_of b ∷ temp) (same_ints y x q p))) refl;
      eq_bool = λ y x.
          executes (λ s h code. with_temp (words.eq (bit_of y) (bit_of x) h code) (ap (λ b. bit_of b ∷ temp) (same_bools y x))) refl;
      add_int = λ y x q p r.
          let e = sum_number x y p q (ap is_int (+ℤ_comm x y) ∙ r) ∙ ap word_of_int (+ℤ_comm x y) in
          executes (λ s h code. words.two Add (word_of_int y) (word_of_int x) (word_of_int (y +ℤ x)) h code (λ c. e)) refl;
      sub_int = λ y x q p r.
          executes (λ s h code. words.two Sub (word_of_int y) (word_of_int x) (word_of_int (y -ℤ x)) h code (λ c. difference_number y x q p r)) refl;
      add_nat = λ y x q.
          let e : (x + y) % 2 ^ 32 ≡ y + x = omega arith in
          executes (λ s h code. words.two Add y x (y + x) h code (λ c. e)) refl;
      sub_nat = λ y x p q.
          let e : (y + 2 ^ 32 - x) % 2 ^ 32 ≡ y - x = omega arith in
          executes (λ s h code. words.two Sub y x (y - x) h code (λ c. e)) refl;
      lt_int = λ y x q p.
          executes (λ s h code. with_temp (words.lt Lt (word_of_int y) (word_of_int x) h code) (ap (λ b. bit_of b ∷ temp) (lt_int y x q p))) refl;
      lt_nat = λ y x. executes (λ s h code. words.lt Cs y x h code) refl;
      add1_int = λ x p r.
          executes (λ s h code. words.one Inc (word_of_int x) (word_of_int (x +ℤ pos 1)) h code (λ c. sum_number x (pos 1) p refl r)) refl;
      add1_nat = λ x q.
          let e : (x + 1) % 2 ^ 32 ≡ x + 1 = omega arith in
          executes (λ s h code. words.one Inc x (x + 1) h code (λ c. e)) refl;
      sub1_int = λ x p r.
          executes (λ s h code. words.one Dec (word_of_int x) (word_of_int (x -ℤ pos 1)) h code (λ c. difference_number x (pos 1) p refl r)) refl;
      sub1_nat = λ x p q.
          let e : (x + 2 ^ 32 - 1) % 2 ^ 32 ≡ x - 1 = omega arith in
          executes (λ s h code. words.one Dec x (x - 1) h code (λ c. e)) refl;
      neg_int = λ x p r.
          let e : (2 ^ 32 - word_of_int x) % 2 ^ 32 ≡ (0 + 2 ^ 32 - word_of_int x) % 2 ^ 32 = omega arith in
          executes (λ s h code. words.one Neg (word_of_int x) (word_of_int (pos 0 -ℤ x)) h code (λ c. e ∙ difference_number (pos 0) x refl p r)) refl;
      mult2_nat = λ x q.
          let e : (x + x) % 2 ^ 32 ≡ 2 * x = omega arith in
          executes (λ s h code. words.one Add x (2 * x) h code (λ c. e)) refl;
      add_int_with_carry = λ u y x q p. executes (λ s h code. added_ints u y x q p h code) refl;
      sub_int_with_carry = λ u y x q p. executes (λ s h code. subtracted_ints u y x q p h code) refl;
      add_nat_with_carry = λ u y x. executes (λ s h code. added_nats u y x h code) refl;
      sub_nat_with_carry = λ u y x q p. executes (λ s h code. subtracted_nats u y x q p h code) refl;
      mult2_nat_with_carry_out = λ x room. executes (λ s h code. doubled x room h code) refl;
      div2_nat = λ x room. executes (λ s h code. words.div2 x h code (omega arith)) refl;
      or_bitv = λ y x. executes (λ s h code. words.two Or y x (bit_or x y) h code (λ c. refl)) refl;
      and_bitv = λ y x. executes (λ s h code. words.two And y x (bit_and x y) h code (λ c. refl)) refl;
      xor_bitv = λ y x. executes (λ s h code. words.two Xor y x (bit_xor x y) h code (λ c. refl)) refl;
      or_bool = λ y x.
          executes (λ s h code. words.two Or (bit_of y) (bit_of x) (bit_of (y || x)) h code (λ c. or_bools x y)) refl;
      and_bool = λ y x.
          executes (λ s h code. words.two And (bit_of y) (bit_of x) (bit_of (y && x)) h code (λ c. and_bools x y)) refl;
      not_bitv = λ x. executes (λ s h code. words.one Not x (2 ^ 32 - 1 - x) h code (λ c. refl)) refl;
      rsh_bitv = λ x. executes (λ s h code. words.one Lsr x (x / 2) h code (λ c. refl)) refl;
      lsh_bitv = λ x.
          let e : (x + x) % 2 ^ 32 ≡ 2 * x % 2 ^ 32 = omega arith in
          executes (λ s h code. words.one Add x (2 * x % 2 ^ 32) h code (λ c. e)) refl;
      not_bool = λ x. executes (λ s h code. words.not_bool x h code) refl;
    }

pub test_rows : TestRows
test_rows =
    record {
      is_zero = λ x. refl;
      not_zero = λ x. refl;
      is_zero_int = is_zero;
      not_zero_int = λ x p. ap not (is_zero x p);
      is_neg = is_negative;
      not_neg = λ x p. ap not (is_negative x p);
      is_pos = is_positive;
      not_pos = λ x p. le_is (flags_of_word (word_of_int x)) ∙ ap not (is_positive x p);
      is_true = true_word;
      is_false = λ x. false_word x;
    }

-- What the words of operations on words do.
use Rattle.std.{proofs.Common.{◌≡◌, ℕ, ◌+◌, ◌/◌, ◌%◌, ◌^◌, ◌<◌, ◌==◌, Bool, true, false, List, ◌∷◌, length, refl, ap, ◌∙◌, arith}, specs.Prelude.if◌then◌else◌}
use Rattle.std.{specs.Prelude.{not, nat_le, bit_and, bit_xor}, specs.Int.from_bool as bit_of, proofs.lemmas.Nat.and_mask}
use Rattle.fm_words.{specs.declared.operation.Op.Op, specs.declared.operation.Op.TheVariants.{Move, Add, Sub, Lsr, Xor, And}, specs.declared.condition.Cc.Cc}
use Rattle.fm_words.{specs.declared.condition.Cc.TheVariants.{Cs, Zs}, specs.declared.condition.Flags.Flags, specs.Alu.{alu_of, does_hold}, specs.Code.no_flags}
use Rattle.fm_machine.{specs.State.Fm, specs.Masks.all_flags}
use Rattle.fm_code.{specs.InstructionWords.{flag_z, flag_c, flags_cv}, specs.Flags.flags_of_difference, specs.Templates.{two_code, one_code, not_bool_code}}
use Rattle.fm_code.{specs.Templates.{eq_code, lt_code, carry_code, mult2_carry_code, div2_code}, specs.Execution.{Parts, CodeAt}, proofs.XorLaws.xor_tests}
use Rattle.fm_code.{proofs.OperandLaws.{from_immediate, from_register, from_top, from_pop}, proofs.TargetLaws.{into_r3, into_r4, into_top, one_when, push_temp}}
use Rattle.fm_code.proofs.RunLaws.{RunsToView, runs_to_view, with_temp}

-- a truth value as a word
chosen : (t : Bool) → (if t then 1 else 0) ≡ bit_of t
chosen true = refl
chosen false = refl

module _ {P : Parts} {n : ℕ} {s : Fm} {f pc : ℕ} {ctrl temp areas : List ℕ} where
  -- an operation on the two words on top, whose result doesn't depend on the carry flag
  pub two : (op : Op) (y x w : ℕ) → RunsToView P n s f pc ctrl (x ∷ y ∷ temp) areas → CodeAt P pc (two_code op)
      → ((c : Bool) → (alu_of op c x y).word ≡ w) → RunsToView P (n + 1) s f (pc + 1) ctrl (w ∷ temp) areas
  two op y x w h code is =
      let words = rw (← h.r15_is) at code in
      let c1 = into_top op no_flags h.run (from_pop h.run) words.0 in
      with_temp (runs_to_view c1 refl h.r0_is (ap (λ a. a + 1) h.r15_is)) (ap (λ v. v ∷ temp) (is h.fl.c))

  -- an operation on the word on top
  pub one : (op : Op) (x w : ℕ) → RunsToView P n s f pc ctrl (x ∷ temp) areas → CodeAt P pc (one_code op) → ((c : Bool) → (alu_of op c x x).word ≡ w)
      → RunsToView P (n + 1) s f (pc + 1) ctrl (w ∷ temp) areas
  one op x w h code is =
      let words = rw (← h.r15_is) at code in
      let c1 = into_top op no_flags h.run (from_top h.run) words.0 in
      with_temp (runs_to_view c1 refl h.r0_is (ap (λ a. a + 1) h.r15_is)) (ap (λ v. v ∷ temp) (is h.fl.c))

  pub not_bool : (b : Bool) → RunsToView P n s f pc ctrl (bit_of b ∷ temp) areas → CodeAt P pc not_bool_code
      → RunsToView P (n + 1) s f (pc + 1) ctrl (bit_of (not b) ∷ temp) areas
  not_bool b h code =
      let words = rw (← h.r15_is) at code in
      let c1 = into_top Xor no_flags h.run (from_immediate 1 h.run (omega arith)) words.0 in
      with_temp (runs_to_view c1 refl h.r0_is (ap (λ a. a + 1) h.r15_is)) (ap (λ v. v ∷ temp) (turned b))
    where
      turned : (t : Bool) → bit_xor 1 (bit_of t) ≡ bit_of (not t)
      turned true = refl
      turned false = refl

  -- whether the two words on top are equal
  pub eq : (y x : ℕ) → RunsToView P n s f pc ctrl (x ∷ y ∷ temp) areas → CodeAt P pc eq_code
      → RunsToView P (n + 4) s f (pc + 4) ctrl (bit_of (y == x) ∷ temp) areas
  eq y x h code =
      let words = rw (← h.r15_is) at code in
      let c1 = into_r3 Move no_flags h.run (from_pop h.run) words.0 in
      let c2 = into_r3 Xor flag_z c1 (from_top c1) words.1.0 in
      let c3 = into_top Move no_flags c2 (from_immediate 0 c2 (omega arith)) words.1.1.0 in
      let c4 = one_when Zs c3 words.1.1.1.0 in
      let is : (if bit_xor y x == 0 then 1 else 0) ≡ bit_of (y == x) = chosen (bit_xor y x == 0) ∙ ap bit_of (xor_tests y x) in
      let e15 = h.r15_is in
      with_temp (runs_to_view c4 (omega arith) h.r0_is (omega arith)) (ap (λ v. v ∷ temp) is)

  -- whether the condition holds of the difference of the two words on top
  pub lt : (k : Cc) (y x : ℕ) → RunsToView P n s f pc ctrl (x ∷ y ∷ temp) areas → CodeAt P pc (lt_code k)
      → RunsToView P (n + 5) s f (pc + 5) ctrl (bit_of (does_hold k (flags_of_difference y x)) ∷ temp) areas
  lt k y x h code =
      let words = rw (← h.r15_is) at code in
      let c1 = into_r3 Move no_flags h.run (from_pop h.run) words.0 in
      let c2 = into_r4 Move no_flags c1 (from_top c1) words.1.0 in
      let c3 = into_r4 Sub all_flags c2 (from_register 3 c2 (omega arith)) words.1.1.0 in
      let c4 = into_top Move no_flags c3 (from_immediate 0 c3 (omega arith)) words.1.1.1.0 in
      let c5 = one_when k c4 words.1.1.1.1.0 in
      let e15 = h.r15_is in
      with_temp (runs_to_view c5 (omega arith) h.r0_is (omega arith)) (ap (λ v. v ∷ temp) (chosen (does_hold k (flags_of_difference y x))))

  -- a sum or a difference of the two words on top and the carry below them: the carry or overflow t, and the result
  pub carried : (op : Op) (k : Cc) (t : Bool) (z y x : ℕ) → RunsToView P n s f pc ctrl (x ∷ y ∷ z ∷ temp) areas → CodeAt P pc (carry_code op k)
      → ((fl : Flags) → let out = alu_of op (z % 2 == 1) x y in does_hold k record fl { c = out.c; v = out.v } ≡ t)
      → RunsToView P (n + 7) s f (pc + 7) ctrl ((alu_of op (z % 2 == 1) x y).word ∷ bit_of t ∷ temp) areas
  carried op k t z y x h code tells =
      let laid = h.run.laid in
      let words = rw (← h.r15_is) at code in
      let out = alu_of op (z % 2 == 1) x y in
      let c1 = into_r3 Move no_flags h.run (from_pop h.run) words.0 in
      let c2 = into_r4 Move no_flags c1 (from_pop c1) words.1.0 in
      let c3 = into_top Lsr flag_c c2 (from_top c2) words.1.1.0 in
      let c4 = into_top Move no_flags c3 (from_immediate 0 c3 (omega arith)) words.1.1.1.0 in
      let c5 = into_r4 op flags_cv c4 (from_register 3 c4 (omega arith)) words.1.1.1.1.0 in
      let c6 = one_when k c5 words.1.1.1.1.1.0 in
      let c7 = push_temp c6 (from_register 4 c6 (omega arith)) words.1.1.1.1.1.1.0 (omega arith) in
      let is : (if does_hold k record h.fl { c = out.c; v = out.v } then 1 else 0) ≡ bit_of t = chosen _ ∙ ap bit_of (tells h.fl) in
      let e15 = h.r15_is in
      with_temp (runs_to_view c7 (omega arith) h.r0_is (omega arith)) (ap (λ v. out.word ∷ v ∷ temp) is)

  -- twice the word on top, with its carry
  pub mult2_carry : (x : ℕ) → RunsToView P n s f pc ctrl (x ∷ temp) areas → CodeAt P pc mult2_carry_code → P.temp_at + 1 + length temp < P.end
      → RunsToView P (n + 5) s f (pc + 5) ctrl ((x + x) % 2 ^ 32 ∷ bit_of (nat_le (2 ^ 32) (x + x)) ∷ temp) areas
  mult2_carry x h code room =
      let laid = h.run.laid in
      let words = rw (← h.r15_is) at code in
      let c1 = into_r3 Move no_flags h.run (from_top h.run) words.0 in
      let c2 = into_r3 Add flag_c c1 (from_register 3 c1 (omega arith)) words.1.0 in
      let c3 = into_top Move no_flags c2 (from_immediate 0 c2 (omega arith)) words.1.1.0 in
      let c4 = one_when Cs c3 words.1.1.1.0 in
      let c5 = push_temp c4 (from_register 3 c4 (omega arith)) words.1.1.1.1.0 (omega arith) in
      let is = chosen (nat_le (2 ^ 32) (x + x)) in
      let e15 = h.r15_is in
      with_temp (runs_to_view c5 (omega arith) h.r0_is (omega arith)) (ap (λ v. (x + x) % 2 ^ 32 ∷ v ∷ temp) is)

  -- half the word on top, with what is left
  pub div2 : (x : ℕ) → RunsToView P n s f pc ctrl (x ∷ temp) areas → CodeAt P pc div2_code → P.temp_at + 1 + length temp < P.end
      → RunsToView P (n + 5) s f (pc + 5) ctrl (x % 2 ∷ x / 2 ∷ temp) areas
  div2 x h code room =
      let laid = h.run.laid in
      let words = rw (← h.r15_is) at code in
      let c1 = into_r3 Move no_flags h.run (from_top h.run) words.0 in
      let c2 = into_r4 Move no_flags c1 (from_immediate 1 c1 (omega arith)) words.1.0 in
      let c3 = into_r4 And no_flags c2 (from_register 3 c2 (omega arith)) words.1.1.0 in
      let c4 = into_top Lsr no_flags c3 (from_register 3 c3 (omega arith)) words.1.1.1.0 in
      let c5 = push_temp c4 (from_register 4 c4 (omega arith)) words.1.1.1.1.0 (omega arith) in
      let is : bit_and x 1 ≡ x % 2 = and_mask x 1 in
      let e15 = h.r15_is in
      with_temp (runs_to_view c5 (omega arith) h.r0_is (omega arith)) (ap (λ v. v ∷ x / 2 ∷ temp) is)

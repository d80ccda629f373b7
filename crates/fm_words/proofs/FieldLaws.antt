-- An instruction's word gives its fields back.
use Rattle.std.{proofs.Common.{◌≡◌, ℕ, zero, suc, ◌+◌, ◌-◌, ◌*◌, ◌/◌, ◌%◌, ◌^◌, ◌<◌, eqb, true, arith, refl, ap, ◌∙◌, add-zero}, proofs.lemmas.Bool.eqb-true}
use Rattle.std.{proofs.lemmas.Bool.agree_below_at, proofs.lemmas.Bool.Decides.nat_tests, proofs.lemmas.Int.ints, specs.Prelude.{nat_lt, ℤ, pos, negsuc}}
use Rattle.fm_words.{specs.Code.{op_of, cc_of, mode_of, flags_of, imm_of, operand_of, decode_of}, specs.Encoding.{op_number, cc_number, mode_number}}
use Rattle.fm_words.{specs.Encoding.{imm_number, operand_number, encode_of, IsOperand, IsInstr, significant}, proofs.FlagsLaws.flags_of_back}
use Rattle.fm_words.{proofs.FlagsLaws.{flags_number_back, flags_number_below}, specs.declared.operation.Op.Op, specs.declared.operation.Op.TheVariants.Move}
use Rattle.fm_words.specs.declared.operation.Op.TheVariants.{Inc, Addc, Add, Neg, Dec, Subb, Sub, Ror, Asr, Lsr, Xor, Or, And, Not, M15}
use Rattle.fm_words.{specs.declared.condition.Cc.Cc, specs.declared.instruction.Mode.Mode, specs.declared.instruction.Mode.TheVariants.{Register, Indirect}}
use Rattle.fm_words.{specs.declared.instruction.Mode.TheVariants.{PreDecrement, PostIncrement}, specs.declared.instruction.OperandA.OperandA}
use Rattle.fm_words.{specs.declared.instruction.OperandA.TheVariants.{Immediate, Place}, specs.declared.instruction.Instr.Instr}
use Rattle.fm_words.specs.declared.condition.Cc.TheVariants as cc

record IsOf {A : Type 0} (of : ℕ → A) (number : A → ℕ) (bound : ℕ) (x : A) : Type 0 where
  back : of (number x) ≡ x
  below : number x < bound

op_back : (x : Op) → IsOf op_of op_number 16 x
op_back Move = record { back = refl; below = omega arith }
op_back Inc = record { back = refl; below = omega arith }
op_back Addc = record { back = refl; below = omega arith }
op_back Add = record { back = refl; below = omega arith }
op_back Neg = record { back = refl; below = omega arith }
op_back Dec = record { back = refl; below = omega arith }
op_back Subb = record { back = refl; below = omega arith }
op_back Sub = record { back = refl; below = omega arith }
op_back Ror = record { back = refl; below = omega arith }
op_back Asr = record { back = refl; below = omega arith }
op_back Lsr = record { back = refl; below = omega arith }
op_back Xor = record { back = refl; below = omega arith }
op_back Or = record { back = refl; below = omega arith }
op_back And = record { back = refl; below = omega arith }
op_back Not = record { back = refl; below = omega arith }
op_back M15 = record { back = refl; below = omega arith }

cc_back : (x : Cc) → IsOf cc_of cc_number 16 x
cc_back cc.Cc = record { back = refl; below = omega arith }
cc_back cc.Cs = record { back = refl; below = omega arith }
cc_back cc.Vc = record { back = refl; below = omega arith }
cc_back cc.Vs = record { back = refl; below = omega arith }
cc_back cc.Nc = record { back = refl; below = omega arith }
cc_back cc.Ns = record { back = refl; below = omega arith }
cc_back cc.Zc = record { back = refl; below = omega arith }
cc_back cc.Zs = record { back = refl; below = omega arith }
cc_back cc.Hi = record { back = refl; below = omega arith }
cc_back cc.Ls = record { back = refl; below = omega arith }
cc_back cc.Ge = record { back = refl; below = omega arith }
cc_back cc.Lt = record { back = refl; below = omega arith }
cc_back cc.Gt = record { back = refl; below = omega arith }
cc_back cc.Le = record { back = refl; below = omega arith }
cc_back cc.Al = record { back = refl; below = omega arith }
cc_back cc.Nv = record { back = refl; below = omega arith }

mode_back : (x : Mode) → IsOf mode_of mode_number 4 x
mode_back Register = record { back = refl; below = omega arith }
mode_back Indirect = record { back = refl; below = omega arith }
mode_back PreDecrement = record { back = refl; below = omega arith }
mode_back PostIncrement = record { back = refl; below = omega arith }

record Fields (w o c f m r a : ℕ) : Type 0 where
  o_is : w / 2 ^ 24 % 16 ≡ o
  c_is : w / 2 ^ 20 % 16 ≡ c
  f_is : w / 2 ^ 16 % 16 ≡ f
  m_is : w / 2 ^ 14 % 4 ≡ m
  r_is : w / 2 ^ 10 % 16 ≡ r
  a_is : w % 1024 ≡ a

fields : (w o c f m r a : ℕ) → w ≡ 2 ^ 24 * o + 2 ^ 20 * c + 2 ^ 16 * f + 2 ^ 14 * m + 2 ^ 10 * r + a → o < 16 → c < 16 → f < 16 → m < 4 → r < 16
    → a < 1024 → Fields w o c f m r a
fields w o c f m r a e ho hc hf hm hr ha =
    record { o_is = omega arith; c_is = omega arith; f_is = omega arith; m_is = omega arith; r_is = omega arith; a_is = omega arith }

operand_below : (a : OperandA) → IsOperand a → operand_number a < 1024
operand_below (Immediate n) h = imm_below n h
  where
    imm_below : (n : ℤ) → IsOperand (Immediate n) → 2 ^ 9 + imm_number n < 1024
    imm_below (pos n) h = omega (arith, ints)
    imm_below (negsuc n) h = omega (arith, ints)
operand_below (Place mode reg) h = let b = (mode_back mode).below in omega (arith, b)

operand_back : (w : ℕ) (a : OperandA) → IsOperand a → w % 1024 ≡ operand_number a → operand_of w ≡ a
operand_back w (Immediate (pos n)) h e =
    let b : n < 256 = omega (arith, ints) in
    let e1 : w / 512 % 2 ≡ 1 = omega arith in
    let e2 : w % 512 ≡ n = omega arith in
    let t : nat_lt n 256 ≡ true = grind (arith, nat_tests) in
    rw (e1, e2, t) refl
operand_back w (Immediate (negsuc n)) h e =
    let b : n < 256 = omega (arith, ints) in
    let e1 : w / 512 % 2 ≡ 1 = omega arith in
    let e2 : w % 512 ≡ 511 - n = omega arith in
    let back : imm_of (511 - n) ≡ negsuc n = imm_negative n b in
    rw (e1, e2) (ap Immediate back)
  where
    imm_negative : (n : ℕ) → n < 256 → imm_of (511 - n) ≡ negsuc n
    imm_negative n b = grind (arith, nat_tests, ints)
operand_back w (Place mode reg) h e =
    let b = (mode_back mode).below in
    let e1 : w / 512 % 2 ≡ 0 = omega arith in
    let e2 : w / 16 % 4 ≡ mode_number mode = omega arith in
    let e3 : w % 16 ≡ reg = omega arith in
    rw (e1, e2, e3) (ap (λ m. Place m reg) (mode_back mode).back)

pub decode_encode : (i : Instr) → IsInstr i → decode_of (encode_of i) ≡ i
decode_encode i h =
    let o = op_back i.op in
    let k = cc_back i.cc in
    let f_below = flags_number_below i.set in
    let m = mode_back i.mode_b in
    let b = operand_below i.a h.1 in
    let s = fields (encode_of i) _ _ _ _ _ _ refl o.below k.below f_below m.below h.0 b in
    let e_o : op_of (encode_of i / 2 ^ 24 % 16) ≡ i.op = ap op_of s.o_is ∙ o.back in
    let e_c : cc_of (encode_of i / 2 ^ 20 % 16) ≡ i.cc = ap cc_of s.c_is ∙ k.back in
    let e_f : flags_of (encode_of i / 2 ^ 16 % 16) ≡ i.set = ap flags_of s.f_is ∙ flags_of_back i.set in
    let e_m : mode_of (encode_of i / 2 ^ 14 % 4) ≡ i.mode_b = ap mode_of s.m_is ∙ m.back in
    let e_r : encode_of i / 2 ^ 10 % 16 ≡ i.reg_b = s.r_is in
    let e_a : operand_of (encode_of i) ≡ i.a = operand_back (encode_of i) i.a h.1 s.a_is in
    λ t. record { op = e_o t; cc = e_c t; set = e_f t; mode_b = e_m t; reg_b = e_r t; a = e_a t }

-- a number of an operation, condition or mode comes back
pub op_number_back : (n : ℕ) → n < 16 → op_number (op_of n) ≡ n
op_number_back n h = eqb-true _ _ (agree_below_at (λ k. eqb (op_number (op_of k)) k) (λ k. true) 16 n refl h)

pub cc_number_back : (n : ℕ) → n < 16 → cc_number (cc_of n) ≡ n
cc_number_back n h = eqb-true _ _ (agree_below_at (λ k. eqb (cc_number (cc_of k)) k) (λ k. true) 16 n refl h)

pub mode_number_back : (n : ℕ) → n < 4 → mode_number (mode_of n) ≡ n
mode_number_back n h = eqb-true _ _ (agree_below_at (λ k. eqb (mode_number (mode_of k)) k) (λ k. true) 4 n refl h)

imm_there : (n : ℕ) → n < 512 → imm_number (imm_of n) ≡ n
imm_there n h = grind (arith, nat_tests, ints)

operand_one : (w : ℕ) → w / 2 ^ 9 % 2 ≡ 1 → operand_number (operand_of w) ≡ w % 1024
operand_one w h =
    let e = imm_there (w % 512) (omega arith) in
    rw h (ap (λ n. 512 + n) e ∙ low)
  where
    low : 512 + w % 512 ≡ w % 1024
    low = omega arith

operand_zero : (w : ℕ) → w / 2 ^ 9 % 2 ≡ 0 → operand_number (operand_of w) + w / 2 ^ 6 % 8 * 2 ^ 6 ≡ w % 1024
operand_zero w h =
    let e = mode_number_back (w / 16 % 4) (omega arith) in
    rw h (ap (λ n. 16 * n + w % 16 + w / 64 % 8 * 64) e ∙ low)
  where
    low : 16 * (w / 16 % 4) + w % 16 + w / 64 % 8 * 64 ≡ w % 1024
    low = omega arith

sum_is : (w o c f m a low : ℕ) → o ≡ w / 2 ^ 24 % 16 → c ≡ w / 2 ^ 20 % 16 → f ≡ w / 2 ^ 16 % 16 → m ≡ w / 2 ^ 14 % 4 → a + low ≡ w % 1024
    → 2 ^ 24 * o + 2 ^ 20 * c + 2 ^ 16 * f + 2 ^ 14 * m + 2 ^ 10 * (w / 2 ^ 10 % 16) + a ≡ w % 2 ^ 28 - low
sum_is w o c f m a low p q r s t = omega arith

-- the six fields of a word make its significant bits
pub encode_decode : (w : ℕ) → encode_of (decode_of w) ≡ significant w
encode_decode w = by_bit (w / 512 % 2) refl (omega arith)
  where
    sum : (low : ℕ) → operand_number (operand_of w) + low ≡ w % 1024 → encode_of (decode_of w) ≡ w % 2 ^ 28 - low
    sum low e =
        sum_is w _ _ _ _ _ low (op_number_back (w / 2 ^ 24 % 16) (omega arith)) (cc_number_back (w / 2 ^ 20 % 16) (omega arith))
        (flags_number_back (w / 2 ^ 16 % 16) (omega arith)) (mode_number_back (w / 2 ^ 14 % 4) (omega arith)) e

    by_bit : (t : ℕ) → w / 512 % 2 ≡ t → t < 2 → encode_of (decode_of w) ≡ significant w
    by_bit zero e h = sum (w / 64 % 8 * 64) (operand_zero w e) ∙ rw e refl
    by_bit (suc zero) e h =
        let z : w % 2 ^ 28 - 0 ≡ w % 2 ^ 28 = omega arith in
        sum 0 (add-zero (operand_number (operand_of w)) ∙ operand_one w e) ∙ z ∙ rw e refl
    by_bit (suc (suc t)) e h = absurd (omega arith)

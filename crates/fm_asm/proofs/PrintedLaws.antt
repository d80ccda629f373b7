-- Printed instructions and words, as statements.
use Rattle.std.proofs.Common.{◌≡◌, ℕ, suc, ◌^◌, ◌<◌, ◌≤◌, true, List, [], ◌∷◌, ◌++◌, length, Some, refl, sym, ap, subst, ◌∙◌, arith, codes, append_assoc}
use Rattle.std.{proofs.Common.{nat_le, nat_lt, leb-true}, specs.Prelude.{ℤ, pos, negsuc}, specs.Fmt.{decimal, signed_decimal}, specs.List.list_all}
use Rattle.std.{specs.Char.is_ascii_digit, proofs.lemmas.Bool.{and_parts, and_from}, proofs.lemmas.Bool.Decides.nat_tests, proofs.lemmas.Int.ints}
use Rattle.std.{proofs.lemmas.List.length-append, proofs.lemmas.Fmt.length-decimal-le}
use Rattle.stack_text.{specs.Numerals.{is_digits, numeral_value, fits_128_bits}, proofs.NumeralTextLaws.{value-signed_decimal, numeral-signed_decimal}}
use Rattle.stack_text.proofs.NumeralTextLaws.{digits-pos}
use Rattle.fm_words.{specs.declared.operation.Op.Op, specs.declared.condition.Cc.Cc, specs.declared.condition.Flags.Flags, specs.declared.instruction.Mode.Mode}
use Rattle.fm_words.specs.declared.instruction.Mode.TheVariants.{Register, Indirect, PreDecrement, PostIncrement}
use Rattle.fm_words.{specs.declared.instruction.OperandA.OperandA, specs.declared.instruction.OperandA.TheVariants.{Immediate, Place}, specs.Code.decode_of}
use Rattle.fm_words.specs.Encoding.{encode_of, IsOperand}
use Rattle.fm_show.specs.Disassembly.{operation_name, condition_text, flags_text, place_text, operand_text, instruction_text, disassembly_text}
use Rattle.fm_show.proofs.LosslessLaws.{limits}
use Rattle.fm_asm.{specs.Instructions.in_9_bits, proofs.CutLaws.lacks, proofs.InstructionLaws.{operation_named, condition_bracketed, flags_braced, head_text}}
use Rattle.fm_asm.{proofs.InstructionLaws.{operands_text, regrouped, place_lacks, numeral_lacks}, proofs.StatementLaws.head_begins}
use Rattle.fm_asm.{proofs.TextLaws.{is_text_byte, all-append, digits_are_text, IsTidy}, specs.Assembly.{SpellsOperand, immediate, place, SpellsInstruction}}

-- ---- the operand, as it is written

in_range : (z : ℤ) → IsOperand (Immediate z) → in_9_bits z ≡ Some (Immediate z)
in_range (pos n) h =
    let small : nat_le n 255 ≡ true = grind (arith, nat_tests, ints) in
    rw small refl
in_range (negsuc n) h =
    let small : nat_le n 255 ≡ true = grind (arith, nat_tests, ints) in
    rw small refl

fits : (z : ℤ) → IsOperand (Immediate z) → fits_128_bits z ≡ true
fits (pos n) h = grind (arith, nat_tests, ints)
fits (negsuc n) h = grind (arith, nat_tests, ints)

pub operand_written : (a : OperandA) → IsOperand a → SpellsOperand (operand_text a) (Some a)
operand_written (Immediate z) h =
    let value : in_9_bits (numeral_value (signed_decimal z)) ≡ Some (Immediate z) = ap in_9_bits (value-signed_decimal z (fits z h)) ∙ in_range z h in
    subst (SpellsOperand (codes "#" ++ signed_decimal z)) value (immediate (signed_decimal z) (numeral-signed_decimal z (fits z h)))
operand_written (Place m r) h = place m r h

pub instruction_written : (w : ℕ) → encode_of (decode_of w) ≡ w → SpellsInstruction (disassembly_text w) (Some w)
unfolding instruction_text
instruction_written w exact = record {
  op = (decode_of w).op;
  condition = (decode_of w).cc;
  set = (decode_of w).set;
  mode = (decode_of w).mode_b;
  reg = (decode_of w).reg_b;
  operand = operand_text (decode_of w).a;
  a = Some (decode_of w).a;
  register = (limits w).0;
  operand_is = operand_written (decode_of w).a (limits w).1;
  text_is = refl;
  word_is = ap (λ (x : ℕ). Some x) (sym exact);
}

-- ---- its bytes

pub decimal_bytes : (n : ℕ) → n < 2 ^ 32 → is_digits (decimal n) ≡ true
decimal_bytes n small = digits-pos n (grind (arith, nat_tests))

pub decimal_text : (n : ℕ) → n < 2 ^ 32 → list_all is_text_byte (decimal n) ≡ true
decimal_text n small = digits_are_text (decimal n) (and_parts (nat_lt 0 (length (decimal n))) (list_all is_ascii_digit (decimal n)) (decimal_bytes n small)).1

place_bytes : (m : Mode) (r : ℕ) → r < 16 → list_all is_text_byte (place_text m r) ≡ true
place_bytes Register r h = all-append is_text_byte (codes "r") (decimal r) refl (decimal_text r (omega arith))
place_bytes Indirect r h =
    all-append is_text_byte (codes "(r" ++ decimal r) (codes ")") (all-append is_text_byte (codes "(r") (decimal r) refl (decimal_text r (omega arith))) refl
place_bytes PreDecrement r h =
    all-append is_text_byte (codes "-(r" ++ decimal r) (codes ")") (all-append is_text_byte (codes "-(r") (decimal r) refl (decimal_text r (omega arith))) refl
place_bytes PostIncrement r h =
    all-append is_text_byte (codes "(r" ++ decimal r) (codes ")+") (all-append is_text_byte (codes "(r") (decimal r) refl (decimal_text r (omega arith))) refl

register_short : (r : ℕ) → r < 16 → length (decimal r) ≤ 2
register_short r h = length-decimal-le 2 r (omega arith) (omega arith) (omega arith)

place_short : (m : Mode) (r : ℕ) → r < 16 → length (place_text m r) ≤ 6
place_short Register r h = omega (arith, register_short r h)
place_short Indirect r h = omega (arith, register_short r h, length-append (codes "(r" ++ decimal r) (codes ")"))
place_short PreDecrement r h = omega (arith, register_short r h, length-append (codes "-(r" ++ decimal r) (codes ")"))
place_short PostIncrement r h = omega (arith, register_short r h, length-append (codes "(r" ++ decimal r) (codes ")+"))

immediate_bytes : (z : ℤ) → IsOperand (Immediate z) → list_all is_text_byte (signed_decimal z) ≡ true
immediate_bytes (pos n) h = decimal_text n (let small : n ≤ 255 = grind (arith, ints) in omega arith)
immediate_bytes (negsuc n) h = and_from true _ refl (decimal_text (suc n) (let small : n ≤ 255 = grind (arith, ints) in omega arith))

immediate_short : (z : ℤ) → IsOperand (Immediate z) → length (signed_decimal z) ≤ 4
immediate_short (pos n) h = let small : n ≤ 255 = grind (arith, ints) in let few : length (decimal n) ≤ 3 =
    length-decimal-le 3 n (omega arith) (omega arith) (omega arith) in omega arith
immediate_short (negsuc n) h = let small : n ≤ 255 = grind (arith, ints) in let few : length (decimal (suc n)) ≤ 3 =
    length-decimal-le 3 (suc n) (omega arith) (omega arith) (omega arith) in omega arith

operand_bytes : (a : OperandA) → IsOperand a → list_all is_text_byte (operand_text a) ≡ true
operand_bytes (Immediate z) h = and_from true _ refl (immediate_bytes z h)
operand_bytes (Place m r) h = place_bytes m r h

operand_short : (a : OperandA) → IsOperand a → length (operand_text a) ≤ 6
operand_short (Immediate z) h = omega (arith, immediate_short z h)
operand_short (Place m r) h = place_short m r h

-- an operand is not empty
record IsSome (text : List ℕ) : Type 0 where
  first : ℕ
  rest : List ℕ
  is : text ≡ first ∷ rest

operand_some : (a : OperandA) → IsSome (operand_text a)
operand_some (Immediate z) = record { first = 35; rest = signed_decimal z; is = refl }
operand_some (Place Register r) = record { first = 114; rest = decimal r; is = refl }
operand_some (Place Indirect r) = record { first = 40; rest = _; is = refl }
operand_some (Place PreDecrement r) = record { first = 45; rest = _; is = refl }
operand_some (Place PostIncrement r) = record { first = 40; rest = _; is = refl }

operand_spaceless : (a : OperandA) → IsOperand a → lacks 32 (operand_text a) ≡ true
operand_spaceless (Immediate z) h = and_from true _ refl (numeral_lacks 32 (signed_decimal z) refl refl (numeral-signed_decimal z (fits z h)))
operand_spaceless (Place m r) h = place_lacks 32 m r refl refl h

head_bytes : (op : Op) (k : Cc) (f : Flags) → list_all is_text_byte (head_text op k f) ≡ true
unfolding head_text
head_bytes op k f = all-append is_text_byte (operation_name op ++ condition_text k) _
    (all-append is_text_byte (operation_name op) (condition_text k) (operation_named op).bytes (condition_bracketed k).bytes) (flags_braced f).bytes

head_short : (op : Op) (k : Cc) (f : Flags) → length (head_text op k f) ≤ 14
unfolding head_text
head_short op k f =
    let a = leb-true (length (operation_name op)) 4 (operation_named op).short in
    let b = leb-true (length (condition_text k)) 4 (condition_bracketed k).short in
    let c = leb-true (length (flags_text f)) 6 (flags_braced f).short in
    omega (arith, length-append (operation_name op ++ condition_text k) (flags_text f), length-append (operation_name op) (condition_text k))

pub instruction_short : (w : ℕ) → length (disassembly_text w) ≤ 28
unfolding instruction_text operands_text
instruction_short w =
    let head = head_text (decode_of w).op (decode_of w).cc (decode_of w).set in
    let b = place_text (decode_of w).mode_b (decode_of w).reg_b in
    let a = operand_text (decode_of w).a in
    let split : disassembly_text w ≡ head ++ 32 ∷ (b ++ 44 ∷ a) =
    regrouped (decode_of w).op (decode_of w).cc (decode_of w).set (decode_of w).mode_b (decode_of w).reg_b a in
    let long : length (disassembly_text w) ≡ length (head ++ 32 ∷ (b ++ 44 ∷ a)) = ap length split in
    omega (
      arith,
      head_short (decode_of w).op (decode_of w).cc (decode_of w).set,
      place_short (decode_of w).mode_b (decode_of w).reg_b (limits w).0,
      operand_short (decode_of w).a (limits w).1,
      length-append head (32 ∷ (b ++ 44 ∷ a)),
      length-append b (44 ∷ a),
    )

pub instruction_tidy : (w : ℕ) → IsTidy (disassembly_text w)
unfolding instruction_text operands_text
instruction_tidy w =
    let split : disassembly_text w ≡ head_text (decode_of w).op (decode_of w).cc (decode_of w).set ++ 32 ∷ operands_text (decode_of w).mode_b
    (decode_of w).reg_b (operand_text (decode_of w).a) =
    regrouped (decode_of w).op (decode_of w).cc (decode_of w).set (decode_of w).mode_b (decode_of w).reg_b _ in
    let start = head_begins (decode_of w).op (decode_of w).cc (decode_of w).set _ in
    let last = operand_some (decode_of w).a in
    let ops : list_all is_text_byte (place_text (decode_of w).mode_b (decode_of w).reg_b ++ 44 ∷ operand_text (decode_of w).a) ≡ true =
    all-append is_text_byte (place_text (decode_of w).mode_b (decode_of w).reg_b) _
    (place_bytes (decode_of w).mode_b (decode_of w).reg_b (limits w).0) (and_from true _ refl (operand_bytes (decode_of w).a (limits w).1)) in
    let all : list_all is_text_byte (head_text (decode_of w).op (decode_of w).cc (decode_of w).set ++ 32
    ∷ operands_text (decode_of w).mode_b (decode_of w).reg_b (operand_text (decode_of w).a)) ≡ true =
    all-append is_text_byte (head_text (decode_of w).op (decode_of w).cc (decode_of w).set) _
    (head_bytes (decode_of w).op (decode_of w).cc (decode_of w).set) (and_from true _ refl ops) in
    let front = head_text (decode_of w).op (decode_of w).cc (decode_of w).set ++ 32 ∷ (place_text (decode_of w).mode_b (decode_of w).reg_b ++ 44 ∷ []) in
    let ending : disassembly_text w ≡ (head_text (decode_of w).op (decode_of w).cc (decode_of w).set ++ 32
    ∷ (place_text (decode_of w).mode_b (decode_of w).reg_b ++ 44 ∷ [])) ++ operand_text (decode_of w).a = split ∙ front_moved _ _ _ in
    record {
      bytes = cc (split, all);
      short = omega (arith, instruction_short);
      front = head_text (decode_of w).op (decode_of w).cc (decode_of w).set ++ 32 ∷ (place_text (decode_of w).mode_b (decode_of w).reg_b ++ 44 ∷ []);
      first = start.first;
      rest = start.rest;
      back = last.first;
      more = last.rest;
      begins = split ∙ start.begins;
      no_space = start.spaceless;
      ends = cc (ending, last.is);
      spaceless = cc (last.is, operand_spaceless (decode_of w).a (limits w).1);
    }
  where
    front_moved : (h p o : List ℕ) → h ++ 32 ∷ (p ++ 44 ∷ o) ≡ (h ++ 32 ∷ (p ++ 44 ∷ [])) ++ o
    front_moved h p o = simp append_assoc

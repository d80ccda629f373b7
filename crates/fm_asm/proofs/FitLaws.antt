-- The numbers of a text have 32 bits.
use Rattle.std.proofs.Common.{◌≡◌, ℕ, ℤ, pos, negsuc, ◌+◌, ◌-◌, ◌*◌, ◌/◌, ◌%◌, ◌^◌, ◌<◌, ◌≤◌, ◌==◌, Bool, true, false, cond, List, [], ◌∷◌, ◌++◌, length}
use Rattle.std.proofs.Common.{Option, Some, None, option_map, refl, sym, ap, subst, ◌∙◌, arith, nat_lt, nat_le, leb-true, ltb-true}
use Rattle.std.{specs.Prelude.option_to_list, specs.Int.{w32, from_be_bytes}, specs.List.list_all, proofs.lemmas.Bool.and_from}
use Rattle.std.{proofs.lemmas.Bool.Decides.nat_tests, proofs.lemmas.Int.ints}
use Rattle.hex.{specs.Hex.IsBytes, proofs.HexLemmas.{decode_of-ok, decode_sized-ok, decode_sized-twice}}
use Rattle.stack_text.specs.Numerals.{numeral_value}
use Rattle.fm_words.{specs.declared.instruction.OperandA.OperandA, specs.declared.instruction.OperandA.TheVariants.{Immediate, Place}}
use Rattle.fm_words.{specs.declared.instruction.Instr.Instr, specs.Encoding.{encode_of, IsOperand, IsInstr, significant}, proofs.FieldLaws.decode_encode}
use Rattle.fm_words.{proofs.FieldLaws.encode_decode, specs.Word.unsigned_32}
use Rattle.fm_asm.{specs.Values.{Value, number, label}, specs.Instructions.in_9_bits, specs.Statements.{Statement, base, size, final, start, word, instruction}}
use Rattle.fm_asm.{specs.Lines.{Said, Line}, specs.Sources.word_count, specs.Labels.{is_labelled, offset_of, number_of}, specs.Assembly.IsHexadecimal}
use Rattle.fm_asm.specs.Assembly.{SpellsValue, decimal as in_decimal, hexadecimal, named as in_name, SpellsOperand, immediate, place as in_place}
use Rattle.fm_asm.specs.Assembly.{SpellsInstruction, SpellsStatement, says_base, says_size, says_final, says_start, says_word, says_instruction, SpellsSaid}
use Rattle.fm_asm.specs.Assembly.{nothing, statement_alone, label_alone, label_and_statement, AreLines, no_line, one_line, statements_of}
use Rattle.fm_asm.{proofs.TextLaws.all-append, proofs.SourceLaws.statements-kept, proofs.JudgingLaws.word_total, proofs.SoundLaws.HasOffsets}
use Rattle.fm_asm.proofs.SpelledLaws.{by_some, tested, mapped}

-- ---- written numbers have 32 bits

unfoldable pub small : ℕ → Bool
small n = nat_lt n (2 ^ 32)

unfoldable pub number_fits : Option ℕ → Bool
number_fits None = true
number_fits (Some n) = small n

unfoldable pub value_fits : Value → Bool
value_fits (number n) = number_fits n
value_fits (label name) = true

unfoldable pub statement_fits : Statement → Bool
statement_fits (base n) = true
statement_fits (size n) = true
statement_fits (final v) = value_fits v
statement_fits (start v) = value_fits v
statement_fits (word v) = value_fits v
statement_fits (instruction w) = number_fits w

pub below-small : (n : ℕ) → n < 2 ^ 32 → small n ≡ true
unfolding small
below-small n h = grind (arith, nat_tests)

pub small-below : (n : ℕ) → small n ≡ true → n < 2 ^ 32
unfolding small
small-below n h = ltb-true n (2 ^ 32) h

integer_fits : (z : ℤ) → number_fits (unsigned_32 z) ≡ true
unfolding number_fits small
integer_fits (negsuc n) = refl
integer_fits (pos n) = by_test (nat_lt n (2 ^ 32)) refl
  where
    by_test : (t : Bool) → nat_lt n (2 ^ 32) ≡ t → number_fits (cond t (Some n) None) ≡ true
    by_test true e = e
    by_test false e = refl

four_bytes : (bytes : List ℕ) → IsBytes bytes → from_be_bytes w32 bytes < 2 ^ 32
four_bytes bytes h = omega (arith, h 0, h 1, h 2, h 3)

hex_fits : (digits : List ℕ) (n : ℕ) → IsHexadecimal digits n → n < 2 ^ 32
hex_fits digits n h =
    let twice = decode_sized-ok digits 4 h.bytes h.digits_are in
    let ok = decode_of-ok digits h.bytes (sym (decode_sized-twice digits 4 twice) ∙ h.digits_are) in
    let bound : from_be_bytes w32 h.bytes < 2 ^ 32 = four_bytes h.bytes ok.3 in
    subst (λ (m : ℕ). m < 2 ^ 32) (sym h.number_is) bound

written_fits : (text : List ℕ) (v : Value) → SpellsValue text v → value_fits v ≡ true
unfolding value_fits number_fits
written_fits _ _ (in_decimal digits h) = integer_fits (numeral_value digits)
written_fits _ _ (hexadecimal digits n h) = below-small n (hex_fits digits n h)
written_fits _ _ (in_name name h) = refl

immediate_small : (z : ℤ) (a : OperandA) → in_9_bits z ≡ Some a → IsOperand a
immediate_small (pos n) a h =
    let t = tested (nat_le n 255) (Some (Immediate (pos n))) a h in
    let low = leb-true n 255 t.0 in
    subst IsOperand (by_some (Immediate (pos n)) a t.1) (within n low)
  where
    within : (n : ℕ) → n ≤ 255 → IsOperand (Immediate (pos n))
    within n low = (omega (arith, ints), omega (arith, ints))
immediate_small (negsuc n) a h =
    let t = tested (nat_le n 255) (Some (Immediate (negsuc n))) a h in
    let low = leb-true n 255 t.0 in
    subst IsOperand (by_some (Immediate (negsuc n)) a t.1) (within n low)
  where
    within : (n : ℕ) → n ≤ 255 → IsOperand (Immediate (negsuc n))
    within n low = (omega (arith, ints), omega (arith, ints))

operand_small : (text : List ℕ) (o : Option OperandA) (a : OperandA) → SpellsOperand text o → o ≡ Some a → IsOperand a
operand_small _ _ a (immediate digits h) is = immediate_small (numeral_value digits) a is
operand_small _ _ a (in_place mode reg h) is = subst IsOperand (by_some (Place mode reg) a is) h

significant_below : (w : ℕ) → significant w < 2 ^ 28
significant_below w = by_test (w / 2 ^ 9 % 2 == 1)
  where
    by_test : (t : Bool) → cond t (w % 2 ^ 28) (w % 2 ^ 28 - w / 2 ^ 6 % 8 * 2 ^ 6) < 2 ^ 28
    by_test true = omega arith
    by_test false = omega arith

encoded_below : (i : Instr) → IsInstr i → encode_of i < 2 ^ 28
encoded_below i h = subst (λ w. w < 2 ^ 28) (sym (encode_decode (encode_of i)) ∙ ap (λ (j : Instr). encode_of j) (decode_encode i h)) (significant_below _)

instruction_fits : (text : List ℕ) (w : Option ℕ) → SpellsInstruction text w → number_fits w ≡ true
unfolding number_fits
instruction_fits text w i = by_operand i.a refl
  where
    wider : (n : ℕ) → n < 2 ^ 28 → n < 2 ^ 32
    wider n h = omega arith

    by_operand : (o : Option OperandA) → i.a ≡ o → number_fits w ≡ true
    by_operand None is = cc
    by_operand (Some a) is =
        let it : Instr = record { op = i.op; cc = i.condition; set = i.set; mode_b = i.mode; reg_b = i.reg; a = a } in
        let bound = encoded_below it (i.register, operand_small i.operand i.a a i.operand_is is) in
        ap number_fits (i.word_is ∙ ap (option_map
        (λ a. encode_of (record { op = i.op; cc = i.condition; set = i.set; mode_b = i.mode; reg_b = i.reg; a = a }))) is) ∙ below-small _ (wider _ bound)

written_statement_fits : (text : List ℕ) (s : Statement) → SpellsStatement text s → statement_fits s ≡ true
unfolding statement_fits
written_statement_fits _ _ (says_base digits h) = refl
written_statement_fits _ _ (says_size digits h) = refl
written_statement_fits _ _ (says_final text v h) = written_fits text v h
written_statement_fits _ _ (says_start text v h) = written_fits text v h
written_statement_fits _ _ (says_word text v h) = written_fits text v h
written_statement_fits _ _ (says_instruction text w i) = instruction_fits text w i

said_fits : (text : List ℕ) (said : Said) → SpellsSaid text said → list_all statement_fits (option_to_list said.statement) ≡ true
said_fits _ _ nothing = refl
said_fits _ _ (statement_alone text s h) = and_from (statement_fits s) true (written_statement_fits text s h) refl
said_fits _ _ (label_alone name h) = refl
said_fits _ _ (label_and_statement name gap text s named spaces h) = and_from (statement_fits s) true (written_statement_fits text s h) refl

pub lines_fit : (place offset : ℕ) (texts : List (List ℕ)) (lines : List Line) → AreLines place offset texts lines
    → list_all statement_fits (statements_of lines) ≡ true
lines_fit _ _ _ _ (no_line place offset) = refl
lines_fit _ _ _ _ (one_line place offset bytes said rest lines is_line are) = cc (
  statements-kept place offset said lines,
  all-append statement_fits (option_to_list said.statement) (statements_of lines) (said_fits _ said is_line.written) (lines_fit (place + length bytes + 1)
      (offset + word_count said.statement) rest lines are),
)

-- ---- a label is no further than the words

offset_within : (offset : ℕ) (lines : List Line) (name : List ℕ) (o : ℕ) → HasOffsets offset lines → offset_of lines name ≡ Some o
    → o ≤ offset + word_total (statements_of lines)
unfolding HasOffsets offset_of word_total
offset_within offset [] name o h is = absurd cc
offset_within offset (line ∷ lines) name o h is =
    by_label (is_labelled name line.said.label) line.said.statement h.1 is (λ p hs ks. offset_within p lines name o hs ks)
  where
    by_label : (t : Bool) (s : Option Statement) → HasOffsets (offset + word_count s) lines → cond t (Some line.offset) (offset_of lines name) ≡ Some o
        → ((p : ℕ) → HasOffsets p lines → offset_of lines name ≡ Some o → o ≤ p + word_total (statements_of lines))
        → o ≤ offset + word_total (option_to_list s ++ statements_of lines)
    by_label true None hs k later = let same = by_some line.offset o k in let at = h.0 in omega arith
    by_label true (Some s) hs k later = let same = by_some line.offset o k in let at = h.0 in omega arith
    by_label false None hs k later = let l = later (offset + 0) hs k in omega arith
    by_label false (Some s) hs k later = let l = later (offset + word_count (Some s)) hs k in omega arith

-- the value that is written has 32 bits, where the words are few
pub valued_fits : (b n : ℕ) (lines : List Line) (v : Value) (w : ℕ) → HasOffsets 0 lines → word_total (statements_of lines) ≤ n → b + n ≤ 2 ^ 32 - 1
    → value_fits v ≡ true
    → number_of b (offset_of lines) v ≡ Some w → w < 2 ^ 32
unfolding number_of value_fits number_fits
valued_fits b n lines (number None) w offsets few limit fits is = absurd cc
valued_fits b n lines (number (Some x)) w offsets few limit fits is = subst (λ (m : ℕ). m < 2 ^ 32) (by_some x w is) (small-below x fits)
valued_fits b n lines (label name) w offsets few limit fits is =
    let m = mapped (λ (o : ℕ). b + o) (offset_of lines name) w is in
    let within : m.value ≤ 0 + word_total (statements_of lines) = offset_within 0 lines name m.value offsets m.is in
    let same = m.image in
    omega arith

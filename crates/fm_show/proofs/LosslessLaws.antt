-- An instruction can be read back from its text.
use Rattle.std.proofs.Common.{◌≡◌, ℕ, ◌+◌, ◌/◌, ◌%◌, ◌^◌, ◌<◌, ◌≤◌, ◌==◌, Bool, true, false, not, ◌&&◌, ◌||◌, List, [], ◌∷◌, ◌++◌, refl, sym, ap, ◌∙◌, arith}
use Rattle.std.{proofs.Common.{append_assoc, append-nil, get_or, codes, unwrap_or}, specs.Prelude.{find, ℤ, pos, negsuc, ◌↔◌}, specs.List.list_any}
use Rattle.std.{specs.Str.bytes_eq, specs.Fmt.{decimal, signed_decimal}, proofs.lemmas.Bool.Decides.nat_tests, proofs.lemmas.Int.ints}
use Rattle.std.{proofs.lemmas.Fmt.{decimal_by_steps, decimal_injective, signed_decimal_injective}, proofs.lemmas.Bool.and_parts}
use lib.Signed.{mag}
use Rattle.fm_words.{specs.declared.operation.Op.Op, specs.declared.operation.Op.TheVariants.{Move, Inc, Addc, Add, Neg, Dec, Subb, Sub, Ror, Asr, Lsr, Xor}}
use Rattle.fm_words.{specs.declared.operation.Op.TheVariants.{Or, And, Not, M15}, specs.declared.condition.Cc.Cc, specs.declared.condition.Flags.Flags}
use Rattle.fm_words.{specs.declared.instruction.Mode.Mode, specs.declared.instruction.Mode.TheVariants.{Register, Indirect, PreDecrement, PostIncrement}}
use Rattle.fm_words.{specs.declared.instruction.OperandA.OperandA, specs.declared.instruction.OperandA.TheVariants.{Immediate, Place}}
use Rattle.fm_words.{specs.declared.instruction.Instr.Instr, specs.Code.{ops, ccs, modes, imm_of, operand_of, decode_of}, specs.Encoding.{encode_of, IsOperand}}
use Rattle.fm_words.{specs.Encoding.{IsInstr, significant}, proofs.FieldLaws.{decode_encode, encode_decode}}
use Rattle.fm_words.specs.declared.condition.Cc.TheVariants as cc
use Rattle.fm_show.specs.Disassembly.{operation_name, condition_text, flags_text, register_name, place_text, operand_text, instruction_text, disassembly_text}

-- each byte passes
all : (ℕ → Bool) → List ℕ → Bool
all p [] = true
all p (x ∷ xs) = p x && all p xs

-- the first byte, if there is one, doesn't pass
stops : (ℕ → Bool) → List ℕ → Bool
stops p [] = true
stops p (x ∷ xs) = not (p x)

all-append : (p : ℕ → Bool) (a b : List ℕ) → all p a ≡ true → all p b ≡ true → all p (a ++ b) ≡ true
unfolding all
all-append p [] b h k = k
all-append p (x ∷ a) b h k =
    rw (and_parts (p x) (all p a) h).0 (all-append p a b (and_parts (p x) (all p a) h).1 k)

stops-append : (p : ℕ → Bool) (a b : List ℕ) → stops p a ≡ true → stops p b ≡ true → stops p (a ++ b) ≡ true
unfolding stops
stops-append p [] b h k = k
stops-append p (x ∷ a) b h k = h

-- two texts in two parts each
record SameParts (a b s t : List ℕ) : Type 0 where
  front : a ≡ b
  rest : s ≡ t

no_and_yes : {A : Type 0} (b : Bool) → b ≡ true → not b ≡ true → A
no_and_yes true h k = cc
no_and_yes false h k = cc

-- where the fronts pass and the rests begin with a byte that doesn't, equal texts have equal parts
same_parts : (p : ℕ → Bool) (a b s t : List ℕ) → all p a ≡ true → all p b ≡ true → stops p s ≡ true → stops p t ≡ true → a ++ s ≡ b ++ t → SameParts a b s t
unfolding all stops
same_parts p [] [] s t ha hb hs ht e = record { front = refl; rest = e }
same_parts p [] (y ∷ b) s t ha hb hs ht e =
    no_and_yes (p y) (and_parts (p y) (all p b) hb).0 (rw e at hs)
same_parts p (x ∷ a) [] s t ha hb hs ht e =
    no_and_yes (p x) (and_parts (p x) (all p a) ha).0 (rw (sym e) at ht)
same_parts p (x ∷ a) (y ∷ b) s t ha hb hs ht e =
    let head : x ≡ y = cc in
    let tail : a ++ s ≡ b ++ t = cc in
    let more = same_parts p a b s t (and_parts (p x) (all p a) ha).1 (and_parts (p y) (all p b) hb).1 hs ht tail in
    let front = more.front in
    record { front = cc; rest = more.rest }

-- the parts of an instruction: a name ends before `[`, `{` or a space, a condition before `{` or a
-- space, flags before a space, and a place before a comma
in_name : ℕ → Bool
in_name c = not (c == 91 || c == 123 || c == 32)

in_condition : ℕ → Bool
in_condition c = not (c == 123 || c == 32)

in_flags : ℕ → Bool
in_flags c = not (c == 32)

in_place : ℕ → Bool
in_place c = not (c == 44)

-- what reads each part back
operation_read : List ℕ → Op
operation_read text = unwrap_or (find (λ op. bytes_eq (operation_name op) text) ops) M15

condition_read : List ℕ → Cc
condition_read text = unwrap_or (find (λ k. bytes_eq (condition_text k) text) ccs) cc.Nv

flags_read : List ℕ → Flags
flags_read text =
    record { c = list_any (λ b. b == 99) text; v = list_any (λ b. b == 118) text; n = list_any (λ b. b == 110) text; z = list_any (λ b. b == 122) text }

record IsSpelled (op : Op) : Type 0 where
  back : operation_read (operation_name op) ≡ op
  whole : all in_name (operation_name op) ≡ true

operation_named : (op : Op) → IsSpelled op
unfolding operation_read all in_name
operation_named Move = record { back = refl; whole = refl }
operation_named Inc = record { back = refl; whole = refl }
operation_named Addc = record { back = refl; whole = refl }
operation_named Add = record { back = refl; whole = refl }
operation_named Neg = record { back = refl; whole = refl }
operation_named Dec = record { back = refl; whole = refl }
operation_named Subb = record { back = refl; whole = refl }
operation_named Sub = record { back = refl; whole = refl }
operation_named Ror = record { back = refl; whole = refl }
operation_named Asr = record { back = refl; whole = refl }
operation_named Lsr = record { back = refl; whole = refl }
operation_named Xor = record { back = refl; whole = refl }
operation_named Or = record { back = refl; whole = refl }
operation_named And = record { back = refl; whole = refl }
operation_named Not = record { back = refl; whole = refl }
operation_named M15 = record { back = refl; whole = refl }

record IsBracketed (k : Cc) : Type 0 where
  back : condition_read (condition_text k) ≡ k
  whole : all in_condition (condition_text k) ≡ true
  after_name : stops in_name (condition_text k) ≡ true

condition_bracketed : (k : Cc) → IsBracketed k
unfolding condition_read all stops in_condition in_name
condition_bracketed cc.Cc = record { back = refl; whole = refl; after_name = refl }
condition_bracketed cc.Cs = record { back = refl; whole = refl; after_name = refl }
condition_bracketed cc.Vc = record { back = refl; whole = refl; after_name = refl }
condition_bracketed cc.Vs = record { back = refl; whole = refl; after_name = refl }
condition_bracketed cc.Nc = record { back = refl; whole = refl; after_name = refl }
condition_bracketed cc.Ns = record { back = refl; whole = refl; after_name = refl }
condition_bracketed cc.Zc = record { back = refl; whole = refl; after_name = refl }
condition_bracketed cc.Zs = record { back = refl; whole = refl; after_name = refl }
condition_bracketed cc.Hi = record { back = refl; whole = refl; after_name = refl }
condition_bracketed cc.Ls = record { back = refl; whole = refl; after_name = refl }
condition_bracketed cc.Ge = record { back = refl; whole = refl; after_name = refl }
condition_bracketed cc.Lt = record { back = refl; whole = refl; after_name = refl }
condition_bracketed cc.Gt = record { back = refl; whole = refl; after_name = refl }
condition_bracketed cc.Le = record { back = refl; whole = refl; after_name = refl }
condition_bracketed cc.Al = record { back = refl; whole = refl; after_name = refl }
condition_bracketed cc.Nv = record { back = refl; whole = refl; after_name = refl }

record IsBraced (f : Flags) : Type 0 where
  back : flags_read (flags_text f) ≡ f
  whole : all in_flags (flags_text f) ≡ true
  after_name : stops in_name (flags_text f) ≡ true
  after_condition : stops in_condition (flags_text f) ≡ true

bits_braced : (c v n z : Bool) → IsBraced record { c = c; v = v; n = n; z = z }
unfolding flags_read all stops in_flags in_condition in_name
bits_braced false false false false = record { back = refl; whole = refl; after_name = refl; after_condition = refl }
bits_braced false false false true = record { back = refl; whole = refl; after_name = refl; after_condition = refl }
bits_braced false false true false = record { back = refl; whole = refl; after_name = refl; after_condition = refl }
bits_braced false false true true = record { back = refl; whole = refl; after_name = refl; after_condition = refl }
bits_braced false true false false = record { back = refl; whole = refl; after_name = refl; after_condition = refl }
bits_braced false true false true = record { back = refl; whole = refl; after_name = refl; after_condition = refl }
bits_braced false true true false = record { back = refl; whole = refl; after_name = refl; after_condition = refl }
bits_braced false true true true = record { back = refl; whole = refl; after_name = refl; after_condition = refl }
bits_braced true false false false = record { back = refl; whole = refl; after_name = refl; after_condition = refl }
bits_braced true false false true = record { back = refl; whole = refl; after_name = refl; after_condition = refl }
bits_braced true false true false = record { back = refl; whole = refl; after_name = refl; after_condition = refl }
bits_braced true false true true = record { back = refl; whole = refl; after_name = refl; after_condition = refl }
bits_braced true true false false = record { back = refl; whole = refl; after_name = refl; after_condition = refl }
bits_braced true true false true = record { back = refl; whole = refl; after_name = refl; after_condition = refl }
bits_braced true true true false = record { back = refl; whole = refl; after_name = refl; after_condition = refl }
bits_braced true true true true = record { back = refl; whole = refl; after_name = refl; after_condition = refl }

flags_braced : (f : Flags) → IsBraced f
flags_braced f = bits_braced f.c f.v f.n f.z

-- a place is what opens it, the register's name and what closes it
opening : Mode → List ℕ
opening Register = []
opening Indirect = codes "("
opening PreDecrement = codes "-("
opening PostIncrement = codes "("

closing : Mode → List ℕ
closing Register = []
closing Indirect = codes ")"
closing PreDecrement = codes ")"
closing PostIncrement = codes ")+"

before_register : ℕ → Bool
before_register c = not (c == 114)

in_register : ℕ → Bool
in_register c = not (c == 41)

mode_read : List ℕ → Mode
mode_read text = unwrap_or (find (λ m. bytes_eq (opening m ++ closing m) text) modes) Register

record IsAround (m : Mode) : Type 0 where
  back : mode_read (opening m ++ closing m) ≡ m
  opens : all before_register (opening m) ≡ true
  closes : stops in_register (closing m) ≡ true
  opens_place : all in_place (opening m) ≡ true
  closes_place : all in_place (closing m) ≡ true

mode_around : (m : Mode) → IsAround m
unfolding mode_read opening closing all stops before_register in_register in_place
mode_around Register = record { back = refl; opens = refl; closes = refl; opens_place = refl; closes_place = refl }
mode_around Indirect = record { back = refl; opens = refl; closes = refl; opens_place = refl; closes_place = refl }
mode_around PreDecrement = record { back = refl; opens = refl; closes = refl; opens_place = refl; closes_place = refl }
mode_around PostIncrement = record { back = refl; opens = refl; closes = refl; opens_place = refl; closes_place = refl }

place_around : (m : Mode) (r : ℕ) → place_text m r ≡ opening m ++ (register_name r ++ closing m)
unfolding opening closing
place_around Register r = sym (append-nil (register_name r))
place_around Indirect r = refl
place_around PreDecrement r = refl
place_around PostIncrement r = refl

-- the digits of a number pass where each digit does
all-decimal : (p : ℕ → Bool) → ((d : ℕ) → d < 10 → p (48 + d) ≡ true) → (n : ℕ) → n < 2 ^ 64 → all p (decimal n) ≡ true
unfolding all
all-decimal p h n small = decimal_by_steps (λ _ text. all p text ≡ true) one more n small
  where
    one : (n : ℕ) → n < 10 → all p ((48 + n) ∷ []) ≡ true
    one n k = rw (h n k) refl

    more : (n : ℕ) (ds : List ℕ) → 10 ≤ n → all p ds ≡ true → all p (ds ++ ((48 + n % 10) ∷ [])) ≡ true
    more n ds k so_far = all-append p ds _ so_far (one (n % 10) (omega arith))

digit_in_register : (d : ℕ) → d < 10 → in_register (48 + d) ≡ true
unfolding in_register
digit_in_register d h = grind (arith, nat_tests)

digit_in_place : (d : ℕ) → d < 10 → in_place (48 + d) ≡ true
unfolding in_place
digit_in_place d h = grind (arith, nat_tests)

register_whole : (r : ℕ) → r < 16 → all in_register (register_name r) ≡ true
unfolding all in_register
register_whole r h = all-decimal in_register digit_in_register r (omega arith)

register_in_place : (r : ℕ) → r < 16 → all in_place (register_name r) ≡ true
unfolding all in_place
register_in_place r h = all-decimal in_place digit_in_place r (omega arith)

place_whole : (m : Mode) (r : ℕ) → r < 16 → all in_place (place_text m r) ≡ true
place_whole m r h =
    let around = mode_around m in
    let inner = all-append in_place (register_name r) (closing m) (register_in_place r h) around.closes_place in
    rw (place_around m r) (all-append in_place (opening m) (register_name r ++ closing m) around.opens_place inner)

record SamePlace (m n : Mode) (r s : ℕ) : Type 0 where
  mode : m ≡ n
  register : r ≡ s

same_place : (m n : Mode) (r s : ℕ) → r < 16 → s < 16 → place_text m r ≡ place_text n s → SamePlace m n r s
unfolding stops before_register
same_place m n r s hr hs e =
    let am = mode_around m in
    let an = mode_around n in
    let whole : opening m ++ (register_name r ++ closing m) ≡ opening n ++ (register_name s ++ closing n) =
    sym (place_around m r) ∙ e ∙ place_around n s in
    let outer = same_parts before_register (opening m) (opening n) _ _ am.opens an.opens refl refl whole in
    let inner = same_parts in_register (register_name r) (register_name s) (closing m) (closing n) (register_whole r hr) (register_whole s hs) am.closes
    an.closes outer.rest in
    let names : decimal r ≡ decimal s = tail_of inner.front in
    let around : opening m ++ closing m ≡ opening n ++ closing n = ap (λ t. t ++ closing m) outer.front ∙ ap (λ t. opening n ++ t) inner.rest in
    record {
      mode = sym am.back ∙ ap mode_read around ∙ an.back;
      register = decimal_injective r s (omega arith) (omega arith) names;
    }
  where
    tail_of : register_name r ≡ register_name s → decimal r ≡ decimal s
    tail_of h = cc

other_first : (a : ℕ) (s t : List ℕ) → a == 35 ≡ false → a ∷ s ≡ 35 ∷ t → ⊥
other_first a s t other e =
    let first : a ≡ 35 = ap (λ (u : List ℕ). get_or u 0 0) e in
    grind (arith, nat_tests)

-- an immediate begins with `#`, and a place doesn't
not_immediate : (m : Mode) (r : ℕ) (text : List ℕ) → place_text m r ≡ 35 ∷ text → ⊥
not_immediate Register r text h = other_first 114 _ _ refl h
not_immediate Indirect r text h = other_first 40 _ _ refl h
not_immediate PreDecrement r text h = other_first 45 _ _ refl h
not_immediate PostIncrement r text h = other_first 40 _ _ refl h

same_operand : (a b : OperandA) → IsOperand a → IsOperand b → operand_text a ≡ operand_text b → a ≡ b
same_operand (Immediate n) (Immediate k) ha hb e =
    ap Immediate (signed_decimal_injective n k (small n ha) (small k hb) tail)
  where
    tail : signed_decimal n ≡ signed_decimal k
    tail = cc

    small : (i : ℤ) → IsOperand (Immediate i) → mag i < 2 ^ 63
    small (pos i) h = omega (arith, ints)
    small (negsuc i) h = omega (arith, ints)
same_operand (Immediate n) (Place m r) ha hb e = absurd (not_immediate m r _ (sym e))
same_operand (Place m r) (Immediate n) ha hb e = absurd (not_immediate m r _ e)
same_operand (Place m r) (Place n s) ha hb e =
    let same = same_place m n r s ha hb e in
    let mode = same.mode in
    let register = same.register in
    cc

-- the operands of an instruction, and what is before them
operands_text : Instr → List ℕ
operands_text i = 32 ∷ (place_text i.mode_b i.reg_b ++ (44 ∷ operand_text i.a))

instruction_parts : (i : Instr) → instruction_text i ≡ operation_name i.op ++ (condition_text i.cc ++ (flags_text i.set ++ operands_text i))
unfolding instruction_text operands_text
instruction_parts i = simp append_assoc

same_operands : (i j : Instr) → IsInstr i → IsInstr j → operands_text i ≡ operands_text j → (SamePlace i.mode_b j.mode_b i.reg_b j.reg_b) × (i.a ≡ j.a)
unfolding operands_text stops in_place
same_operands i j hi hj e =
    let tail : place_text i.mode_b i.reg_b ++ (44 ∷ operand_text i.a) ≡ place_text j.mode_b j.reg_b ++ (44 ∷ operand_text j.a) = cc in
    let parts = same_parts in_place (place_text i.mode_b i.reg_b) (place_text j.mode_b j.reg_b) (44 ∷ operand_text i.a) (44 ∷ operand_text j.a)
    (place_whole i.mode_b i.reg_b hi.0) (place_whole j.mode_b j.reg_b hj.0) refl refl tail in
    let rest = parts.rest in
    let operand : operand_text i.a ≡ operand_text j.a = cc in
    (same_place i.mode_b j.mode_b i.reg_b j.reg_b hi.0 hj.0 parts.front, same_operand i.a j.a hi.1 hj.1 operand)

same_instruction : (i j : Instr) → IsInstr i → IsInstr j → instruction_text i ≡ instruction_text j → i ≡ j
unfolding stops in_name in_condition in_flags operands_text
same_instruction i j hi hj e =
    let ni = operation_named i.op in
    let nj = operation_named j.op in
    let ki = condition_bracketed i.cc in
    let kj = condition_bracketed j.cc in
    let fi = flags_braced i.set in
    let fj = flags_braced j.set in
    let whole = sym (instruction_parts i) ∙ e ∙ instruction_parts j in
    let first = same_parts in_name _ _ _ _ ni.whole nj.whole (after_name i ki fi) (after_name j kj fj) whole in
    let second = same_parts in_condition _ _ _ _ ki.whole kj.whole (after_condition i fi) (after_condition j fj) first.rest in
    let third = same_parts in_flags _ _ _ _ fi.whole fj.whole (after_flags i) (after_flags j) second.rest in
    let last = same_operands i j hi hj third.rest in
    let operation : i.op ≡ j.op = sym ni.back ∙ ap operation_read first.front ∙ nj.back in
    let condition : i.cc ≡ j.cc = sym ki.back ∙ ap condition_read second.front ∙ kj.back in
    let flags : i.set ≡ j.set = sym fi.back ∙ ap flags_read third.front ∙ fj.back in
    λ t. record { op = operation t; cc = condition t; set = flags t; mode_b = last.0.mode t; reg_b = last.0.register t; a = last.1 t }
  where
    after_flags : (i : Instr) → stops in_flags (operands_text i) ≡ true
    after_flags i = refl

    after_condition : (i : Instr) → IsBraced i.set → stops in_condition (flags_text i.set ++ operands_text i) ≡ true
    after_condition i f = stops-append in_condition (flags_text i.set) (operands_text i) f.after_condition refl

    after_name : (i : Instr) → IsBracketed i.cc → IsBraced i.set → stops in_name (condition_text i.cc ++ (flags_text i.set ++ operands_text i)) ≡ true
    after_name i k f =
        stops-append in_name (condition_text i.cc) (flags_text i.set ++ operands_text i) k.after_name
        (stops-append in_name (flags_text i.set) (operands_text i) f.after_name refl)

-- what a word is decoded to keeps to the limits of instructions
immediate_limits : (n : ℕ) → n < 512 → IsOperand (Immediate (imm_of n))
immediate_limits n h = grind (arith, nat_tests, ints)

operand_limits : (w : ℕ) → IsOperand (operand_of w)
operand_limits w = by_bit (w / 2 ^ 9 % 2 == 1) refl
  where
    by_bit : (b : Bool) → w / 2 ^ 9 % 2 == 1 ≡ b → IsOperand (operand_of w)
    by_bit true e = rw e (immediate_limits (w % 512) (omega arith))
    by_bit false e = rw e below
      where
        below : w % 16 < 16
        below = omega arith

pub limits : (w : ℕ) → IsInstr (decode_of w)
limits w = (omega arith, operand_limits w)

-- two words are one instruction exactly where their significant bits are equal
same_bits : (v w : ℕ) → significant v ≡ significant w → decode_of v ≡ decode_of w
same_bits v w e =
    let codes : encode_of (decode_of v) ≡ encode_of (decode_of w) = encode_decode v ∙ e ∙ sym (encode_decode w) in
    sym (decode_encode (decode_of v) (limits v)) ∙ ap decode_of codes ∙ decode_encode (decode_of w) (limits w)

pub lossless : (v w : ℕ) → (disassembly_text v ≡ disassembly_text w) ↔ (significant v ≡ significant w)
lossless v w = (there, back)
  where
    there : disassembly_text v ≡ disassembly_text w → significant v ≡ significant w
    there e =
        sym (encode_decode v) ∙ ap encode_of (same_instruction (decode_of v) (decode_of w) (limits v) (limits w) e) ∙ encode_decode w

    back : significant v ≡ significant w → disassembly_text v ≡ disassembly_text w
    back e = ap instruction_text (same_bits v w e)

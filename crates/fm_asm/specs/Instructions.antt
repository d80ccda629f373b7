-- Instructions, read from the text that the disassembler writes.
use Rattle.std.specs.Prelude.{ℕ, ◌-◌, ℤ, pos, negsuc, List, [], ◌∷◌, Option, Some, None, Bool, true, false, ◌==◌, ◌&&◌, ◌||◌, nat_le}
use Rattle.std.specs.{Prelude.{if◌then◌else◌, codes, find, option_map}, Str.{bytes_eq}}
use Rattle.stack_text.specs.{Numerals.{is_numeral, numeral_value}, Options.{◌>>=◌}}
use Rattle.fm_words.specs.{declared.operation.Op.{Op}, declared.condition.Cc.{Cc}, declared.condition.Flags.{Flags}}
use Rattle.fm_words.specs.{declared.instruction.Mode.{Mode}, declared.instruction.Mode.TheVariants.{Register, Indirect, PreDecrement}}
use Rattle.fm_words.specs.{declared.instruction.Mode.TheVariants.{PostIncrement}, declared.instruction.OperandA.{OperandA}}
use Rattle.fm_words.specs.{declared.instruction.OperandA.TheVariants.{Immediate, Place}, declared.instruction.Instr.{Instr}, Code.{ops}}
use Rattle.fm_words.specs.{Code.{no_flags}, Encoding.{encode_of}}
use Rattle.fm_words.specs.declared.condition.Cc.TheVariants as cc
use Rattle.fm_show.specs.Disassembly.{operation_name, condition_name}
use Rattle.fm_asm.specs.Cuts.{cut, split_once, after_prefix}

-- ---- what stands before the space, as `ADD[zs]{cz}`

-- the operation of a name
unfoldable pub operation_in : List ℕ → Option Op
operation_in name = find (λ op. bytes_eq (operation_name op) name) ops

-- the store conditions that are written: all but `al`, which holds always
abbrev pub written_conditions : List Cc
written_conditions =
    cc.Cc ∷ cc.Cs ∷ cc.Vc ∷ cc.Vs ∷ cc.Nc ∷ cc.Ns ∷ cc.Zc ∷ cc.Zs ∷ cc.Hi ∷ cc.Ls ∷ cc.Ge ∷ cc.Lt ∷ cc.Gt ∷ cc.Le ∷ cc.Nv ∷ []

-- the store condition of a name
unfoldable pub condition_named : List ℕ → Option Cc
condition_named name = find (λ k. bytes_eq (condition_name k) name) written_conditions

-- the text before a closing byte, if that byte ends it
abbrev pub closed : ℕ → List ℕ → Option (List ℕ)
closed byte text = split_once byte text >>= λ parts. if bytes_eq parts.1 [] then Some parts.0 else None

-- the store condition after a `[`, up to the `]` (93); always, where there is no `[`
unfoldable pub condition_in : Option (List ℕ) → Option Cc
condition_in None = Some cc.Al
condition_in (Some text) = closed 93 text >>= λ name. condition_named name

-- a letter that may be there, and the text after it
abbrev pub Letter : Type 0
Letter = Bool × List ℕ

abbrev pub letter_or : List ℕ → Option (List ℕ) → Letter
letter_or text None = (false, text)
letter_or text (Some rest) = (true, rest)

unfoldable pub letter_in : List ℕ → List ℕ → Letter
letter_in letter text = letter_or text (after_prefix letter text)

-- one letter or more of flags, in their order, and a `}` that ends the text
unfoldable pub flag_letters_in : List ℕ → Option Flags
flag_letters_in text =
    let c = letter_in (codes "c") text in
    let v = letter_in (codes "v") c.1 in
    let n = letter_in (codes "n") v.1 in
    let z = letter_in (codes "z") n.1 in
    if bytes_eq z.1 (codes "}") && (c.0 || v.0 || n.0 || z.0)
    then Some (record { c = c.0; v = v.0; n = n.0; z = z.0 }) else None

-- the flags after a `{`; none, where there is no `{`
unfoldable pub flags_in : Option (List ℕ) → Option Flags
flags_in None = Some no_flags
flags_in (Some text) = flag_letters_in text

-- an operation, a store condition and flags to set
abbrev pub Head : Type 0
Head = Op × Cc × Flags

-- the operation, and the store condition after the first `[` (91)
unfoldable pub named_in : List ℕ → Option (Op × Cc)
named_in text = do
  op ← operation_in (cut 91 text).0
  condition ← condition_in (cut 91 text).1
  Some (op, condition)

-- the whole: what stands before the first `{` (123), and the flags after it
unfoldable pub head_in : List ℕ → Option Head
head_in text = do
  named ← named_in (cut 123 text).0
  flags ← flags_in (cut 123 text).1
  Some (named.0, named.1, flags)

-- ---- operands

-- the register of a number from 0 to 15 without a zero in front, by the codes of its digits: 48 is `0`, so d - 38 is ten more than
-- the digit d
unfoldable pub register_in : List ℕ → Option ℕ
register_in (d ∷ []) = if nat_le 48 d && nat_le d 57 then Some (d - 48) else None
register_in (t ∷ d ∷ []) = if t == 49 && (nat_le 48 d && nat_le d 53) then Some (d - 38) else None
register_in digits = None

-- the mode of a place that began with a `(`, by what stands after its `)`
unfoldable pub closing_mode : List ℕ → Option Mode
closing_mode text = if bytes_eq text [] then Some Indirect else (if bytes_eq text (codes "+") then Some PostIncrement else None)

-- a place: a mode and a register
abbrev pub PlaceOf : Type 0
PlaceOf = Mode × ℕ

-- the place after `(r`, whose `)` (41) is followed by a `+` or by nothing
unfoldable pub indirect_in : List ℕ → Option PlaceOf
indirect_in text = do
  parts ← split_once 41 text
  register ← register_in parts.0
  mode ← closing_mode parts.1
  Some (mode, register)

-- the place after `-(r`, which a `)` ends
unfoldable pub decrement_in : List ℕ → Option PlaceOf
decrement_in text = do
  digits ← closed 41 text
  register ← register_in digits
  Some (PreDecrement, register)

-- the place after `r`
unfoldable pub direct_in : List ℕ → Option PlaceOf
direct_in text = do
  register ← register_in text
  Some (Register, register)

-- the place of a text, by what stands after `r`, `(r` or `-(r`, if it begins so
abbrev pub place_by : Option (List ℕ) → Option (List ℕ) → Option (List ℕ) → Option PlaceOf
place_by (Some text) indirect decrement = direct_in text
place_by None (Some text) decrement = indirect_in text
place_by None None (Some text) = decrement_in text
place_by None None None = None

-- `r3`, `(r3)`, `-(r3)` or `(r3)+`
unfoldable pub place_in : List ℕ → Option PlaceOf
place_in text = place_by (after_prefix (codes "r") text) (after_prefix (codes "(r") text) (after_prefix (codes "-(r") text)

-- an immediate, if it is from -256 to 255; `negsuc n` is -(n + 1)
abbrev pub in_9_bits : ℤ → Option OperandA
in_9_bits (pos n) = if nat_le n 255 then Some (Immediate (pos n)) else None
in_9_bits (negsuc n) = if nat_le n 255 then Some (Immediate (negsuc n)) else None

-- the immediate of a numeral, which is `None` where it is out of range
unfoldable pub immediate_in : List ℕ → Option (Option OperandA)
immediate_in digits = if is_numeral digits then Some (in_9_bits (numeral_value digits)) else None

abbrev pub as_operand : PlaceOf → Option OperandA
as_operand place = Some (Place place.0 place.1)

-- the operand of a text, by what stands after `#`, if it begins so
abbrev pub operand_by : Option (List ℕ) → List ℕ → Option (Option OperandA)
operand_by (Some digits) text = immediate_in digits
operand_by None text = option_map as_operand (place_in text)

-- `#` and an immediate, or a place
unfoldable pub operand_in : List ℕ → Option (Option OperandA)
operand_in text = operand_by (after_prefix (codes "#") text) text

-- ---- instructions

abbrev pub instruction_of : Head → PlaceOf → OperandA → Instr
instruction_of head b a = record { op = head.0; cc = head.1; set = head.2; mode_b = b.0; reg_b = b.1; a = a }

-- the word of the instruction with this before its space, and after it operand B, a `,` (44) and operand A; the word is `None`
-- where the immediate is out of range
unfoldable pub instruction_in : List ℕ → List ℕ → Option (Option ℕ)
instruction_in before operands = do
  parts ← split_once 44 operands
  head ← head_in before
  b ← place_in parts.0
  a ← operand_in parts.1
  Some (option_map (λ a. encode_of (instruction_of head b a)) a)

-- Instructions as text.
use Rattle.std.specs.{Prelude.{ℕ, List, [], ◌++◌, Bool, if◌then◌else◌, codes}, Fmt.{decimal, signed_decimal}}
use Rattle.fm_words.specs.{declared.operation.Op.{Op}, declared.operation.Op.TheVariants.{Move, Inc, Addc, Add, Neg, Dec, Subb, Sub, Ror}}
use Rattle.fm_words.specs.{declared.operation.Op.TheVariants.{Asr, Lsr, Xor, Or, And, Not, M15}, declared.condition.Cc.{Cc}}
use Rattle.fm_words.specs.{declared.condition.Flags.{Flags}, declared.instruction.Mode.{Mode}}
use Rattle.fm_words.specs.declared.instruction.Mode.TheVariants.{Register, Indirect, PreDecrement, PostIncrement}
use Rattle.fm_words.specs.{declared.instruction.OperandA.{OperandA}, declared.instruction.OperandA.TheVariants.{Immediate, Place}}
use Rattle.fm_words.specs.{declared.instruction.Instr.{Instr}, Code.{decode_of}}
use Rattle.fm_words.specs.declared.condition.Cc.TheVariants as cc

-- the name of an operation
abbrev pub operation_name : Op → List ℕ
operation_name Move = codes "MOVE"
operation_name Inc = codes "INC"
operation_name Addc = codes "ADDC"
operation_name Add = codes "ADD"
operation_name Neg = codes "NEG"
operation_name Dec = codes "DEC"
operation_name Subb = codes "SUBB"
operation_name Sub = codes "SUB"
operation_name Ror = codes "ROR"
operation_name Asr = codes "ASR"
operation_name Lsr = codes "LSR"
operation_name Xor = codes "XOR"
operation_name Or = codes "OR"
operation_name And = codes "AND"
operation_name Not = codes "NOT"
operation_name M15 = codes "M15"

-- the name of a store condition
abbrev pub condition_name : Cc → List ℕ
condition_name cc.Cc = codes "cc"
condition_name cc.Cs = codes "cs"
condition_name cc.Vc = codes "vc"
condition_name cc.Vs = codes "vs"
condition_name cc.Nc = codes "nc"
condition_name cc.Ns = codes "ns"
condition_name cc.Zc = codes "zc"
condition_name cc.Zs = codes "zs"
condition_name cc.Hi = codes "hi"
condition_name cc.Ls = codes "ls"
condition_name cc.Ge = codes "ge"
condition_name cc.Lt = codes "lt"
condition_name cc.Gt = codes "gt"
condition_name cc.Le = codes "le"
condition_name cc.Al = codes "al"
condition_name cc.Nv = codes "nv"

-- the condition in brackets, and nothing where it is always
abbrev pub condition_text : Cc → List ℕ
condition_text cc.Al = []
condition_text condition = codes "[" ++ condition_name condition ++ codes "]"

-- a text where it applies
abbrev pub shown_if : Bool → List ℕ → List ℕ
shown_if applies text = if applies then text else []

-- the letters of the flags that are set
abbrev pub set_letters : Flags → List ℕ
set_letters f =
    shown_if f.c (codes "c") ++ shown_if f.v (codes "v") ++ shown_if f.n (codes "n") ++ shown_if f.z (codes "z")

-- a text in braces, and nothing where it is empty
abbrev pub in_braces : List ℕ → List ℕ
in_braces [] = []
in_braces text = codes "{" ++ text ++ codes "}"

-- the flags that an instruction sets
abbrev pub flags_text : Flags → List ℕ
flags_text f = in_braces (set_letters f)

-- `r3`
abbrev pub register_name : ℕ → List ℕ
register_name r = codes "r" ++ decimal r

-- `r3`, `(r3)`, `-(r3)` or `(r3)+`
abbrev pub place_text : Mode → ℕ → List ℕ
place_text Register r = register_name r
place_text Indirect r = codes "(" ++ register_name r ++ codes ")"
place_text PreDecrement r = codes "-(" ++ register_name r ++ codes ")"
place_text PostIncrement r = codes "(" ++ register_name r ++ codes ")+"

-- `#5` or `#-5`, or a place
abbrev pub operand_text : OperandA → List ℕ
operand_text (Immediate n) = codes "#" ++ signed_decimal n
operand_text (Place mode r) = place_text mode r

-- the operation, the condition, the flags, a space, operand B, a comma and operand A
unfoldable pub instruction_text : Instr → List ℕ
instruction_text i =
    operation_name i.op ++ condition_text i.cc ++ flags_text i.set
    ++ codes " " ++ place_text i.mode_b i.reg_b ++ codes "," ++ operand_text i.a

-- the text of the instruction that a word is
abbrev pub disassembly_text : ℕ → List ℕ
disassembly_text word = instruction_text (decode_of word)

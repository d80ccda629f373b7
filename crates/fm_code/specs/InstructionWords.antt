-- The notation of instruction words: an operation, then its target, then its source.
use Rattle.std.specs.Prelude.{ℕ, pos, true, false}
use Rattle.fm_words.specs.{declared.operation.Op.{Op}, declared.operation.Op.TheVariants.{Move, Add, Dec, Sub}, declared.condition.Cc.{Cc}}
use Rattle.fm_words.specs.{declared.condition.Cc.TheVariants.{Al}, declared.condition.Flags.{Flags}}
use Rattle.fm_words.specs.declared.instruction.Mode.TheVariants.{Register, Indirect, PreDecrement, PostIncrement}
use Rattle.fm_words.specs.{declared.instruction.OperandA.{OperandA}, declared.instruction.OperandA.TheVariants.{Immediate, Place}}
use Rattle.fm_words.specs.{declared.instruction.Instr.{Instr}, Code.{no_flags}, Encoding.{encode_of}}

-- `r3`
abbrev pub reg : ℕ → OperandA
reg r = Place Register r

-- `(r3)`
abbrev pub at : ℕ → OperandA
at r = Place Indirect r

-- `-(r3)`
abbrev pub push : ℕ → OperandA
push r = Place PreDecrement r

-- `(r3)+`
abbrev pub pop : ℕ → OperandA
pop r = Place PostIncrement r

-- `#1`
abbrev pub immediate : ℕ → OperandA
immediate n = Immediate (pos n)

-- `=X`: the word X after the instruction, which is then skipped
abbrev pub literal : OperandA
literal = pop 15

-- `@X`: the word X after the instruction, which a jump leaves anyway
abbrev pub literal_at : OperandA
literal_at = at 15

-- `{z}`, `{c}`, `{cv}` and `{cvnz}`: the flags that an instruction sets
abbrev pub flag_z : Flags
flag_z = record { c = false; v = false; n = false; z = true }

abbrev pub flag_c : Flags
flag_c = record { c = true; v = false; n = false; z = false }

abbrev pub flags_cv : Flags
flags_cv = record { c = true; v = true; n = false; z = false }

-- an instruction with its target b and its source a; an immediate is no target
abbrev pub instruction : Op → Cc → Flags → OperandA → OperandA → Instr
instruction op cc set (Place mode r) a = record { op = op; cc = cc; set = set; mode_b = mode; reg_b = r; a = a }
instruction op cc set (Immediate n) a = record { op = op; cc = cc; set = set; mode_b = Register; reg_b = 0; a = a }

-- `OP b,a`, which always stores and sets no flag
abbrev pub always : Op → OperandA → OperandA → ℕ
always op b a = encode_of (instruction op Al no_flags b a)

-- `OP{set} b,a`, which always stores
abbrev pub setting : Flags → Op → OperandA → OperandA → ℕ
setting set op b a = encode_of (instruction op Al set b a)

-- `OP[cc] b,a`, which sets no flag
abbrev pub when : Cc → Op → OperandA → OperandA → ℕ
when cc op b a = encode_of (instruction op cc no_flags b a)

-- `MOVE b,a`
abbrev pub mov : OperandA → OperandA → ℕ
mov b a = always Move b a

-- `ADD b,a`
abbrev pub add : OperandA → OperandA → ℕ
add b a = always Add b a

-- `SUB b,a`
abbrev pub sub : OperandA → OperandA → ℕ
sub b a = always Sub b a

-- `DEC r15,r15`, which jumps to itself: the word after the code
abbrev pub halt_word : ℕ
halt_word = always Dec (reg 15) (reg 15)

-- Instructions as a text has them: with names in place of positions. A place in a jump is the number of a label.
use Rattle.std.specs.{Prelude.{ℕ, pos, List, [], ◌∷◌, map, get_or, Some, None}, Fmt.{decimal}}
use Rattle.stack_text.specs.{declared.name.Named.{Named}, Grammar.Printed.{unplaced}}
use Rattle.piton_words.specs.{declared.word.Word.{Word}, declared.op.WordOp.{WordOp}}
use Rattle.piton_words.specs.declared.word.Word.TheVariants as word
use Rattle.piton_words.specs.declared.op.WordOp.TheVariants as word_op
use Rattle.piton_syntax.specs.{declared.op.PitonOp.{PitonOp}, declared.test_kind.TestFamily.{TestFamily}}
use Rattle.piton_syntax.specs.{declared.argument.ArgText.{ArgText}, declared.word_text.WordText.{WordText}}
use Rattle.piton_syntax.specs.{declared.word_text.WordItem.{WordItem}, Systems.{InstrOf, new_word, new_instruction}}
use Rattle.piton_syntax.specs.declared.op.PitonOp.TheVariants as op
use Rattle.piton_syntax.specs.declared.test_kind.TestFamily.TheVariants as family
use Rattle.piton_syntax.specs.declared.argument.ArgText.TheVariants as text
use Rattle.piton_syntax.specs.declared.word_text.WordItem.TheVariants as item
use Rattle.gypsy_predef.specs.Texts.{number}
use Rattle.piton_check.specs.Instruction as i
use Rattle.piton_check.specs.Instruction.{Instruction}

-- an instruction with its label, if it has one
pub data Line : Type 0 where
  Plain : (i : Instruction) → Line
  Marked : (label : ℕ) (i : Instruction) → Line

-- the names that instructions are written with
pub record Names : Type 0 where
  pub areas : List (List ℕ)
  pub programs : List (List ℕ)
  pub locals : List (List ℕ)

abbrev pub name_in : List (List ℕ) → ℕ → Named
name_in names n = unplaced (get_or names n [])

-- the name of a label: `L` and its number
unfoldable pub label_text : ℕ → List ℕ
label_text l = 76 ∷ decimal l

abbrev pub label_name : ℕ → Named
label_name l = unplaced (label_text l)

abbrev pub item_text : Names → Word → WordItem
item_text n (word.Int z) = item.Int (number z)
item_text n (word.Nat k) = item.Nat (number (pos k))
item_text n (word.Bitv k) = item.Bitv (number (pos k))
item_text n (word.Bool b) = item.Bool b
item_text n (word.Addr area offset) = item.Addr (name_in n.areas area) (number (pos offset))
item_text n (word.Pc program place) = item.Pc (name_in n.programs program) (number (pos place))
item_text n (word.Subr program) = item.Subr (name_in n.programs program)

abbrev pub written_word : Names → Word → WordText
written_word n w = new_word 0 (item_text n w)

abbrev pub word_op_of : WordOp → PitonOp
word_op_of word_op.Eq = op.Eq
word_op_of word_op.AddInt = op.AddInt
word_op_of word_op.AddNat = op.AddNat
word_op_of word_op.SubInt = op.SubInt
word_op_of word_op.SubNat = op.SubNat
word_op_of word_op.AddAddr = op.AddAddr
word_op_of word_op.SubAddr = op.SubAddr
word_op_of word_op.LtInt = op.LtInt
word_op_of word_op.LtNat = op.LtNat
word_op_of word_op.LtAddr = op.LtAddr
word_op_of word_op.Add1Int = op.Add1Int
word_op_of word_op.Add1Nat = op.Add1Nat
word_op_of word_op.Sub1Int = op.Sub1Int
word_op_of word_op.Sub1Nat = op.Sub1Nat
word_op_of word_op.NegInt = op.NegInt
word_op_of word_op.IntToNat = op.IntToNat
word_op_of word_op.Mult2Nat = op.Mult2Nat
word_op_of word_op.AddIntWithCarry = op.AddIntWithCarry
word_op_of word_op.AddNatWithCarry = op.AddNatWithCarry
word_op_of word_op.SubIntWithCarry = op.SubIntWithCarry
word_op_of word_op.SubNatWithCarry = op.SubNatWithCarry
word_op_of word_op.Mult2NatWithCarryOut = op.Mult2NatWithCarryOut
word_op_of word_op.Div2Nat = op.Div2Nat
word_op_of word_op.OrBitv = op.OrBitv
word_op_of word_op.AndBitv = op.AndBitv
word_op_of word_op.XorBitv = op.XorBitv
word_op_of word_op.OrBool = op.OrBool
word_op_of word_op.AndBool = op.AndBool
word_op_of word_op.NotBitv = op.NotBitv
word_op_of word_op.RshBitv = op.RshBitv
word_op_of word_op.LshBitv = op.LshBitv
word_op_of word_op.NotBool = op.NotBool

abbrev pub test_op_of : TestFamily → PitonOp
test_op_of family.Nat = op.TestNatAndJump
test_op_of family.Int = op.TestIntAndJump
test_op_of family.Bool = op.TestBoolAndJump
test_op_of family.Bitv = op.TestBitvAndJump

abbrev pub op_of : Instruction → PitonOp
op_of (i.PushConstant w) = op.PushConstant
op_of (i.PushLocal offset) = op.PushLocal
op_of (i.PopLocal offset) = op.PopLocal
op_of (i.SetLocal offset) = op.SetLocal
op_of (i.PushGlobal area) = op.PushGlobal
op_of (i.PopGlobal area) = op.PopGlobal
op_of (i.SetGlobal area) = op.SetGlobal
op_of (i.PushTempStkIndex n) = op.PushTempStkIndex
op_of i.PushTempStkFreeSize = op.PushTempStkFreeSize
op_of i.PushCtrlStkFreeSize = op.PushCtrlStkFreeSize
op_of i.FetchTempStk = op.FetchTempStk
op_of i.DepositTempStk = op.DepositTempStk
op_of i.Fetch = op.Fetch
op_of i.Deposit = op.Deposit
op_of i.Pop = op.Pop
op_of (i.PopStar n) = op.PopStar
op_of i.Popn = op.Popn
op_of i.NoOp = op.NoOp
op_of (i.Jump to) = op.Jump
op_of (i.JumpIfTempStkFull to) = op.JumpIfTempStkFull
op_of (i.JumpIfTempStkEmpty to) = op.JumpIfTempStkEmpty
op_of (i.JumpCase tos) = op.JumpCase
op_of (i.Pushj to) = op.Pushj
op_of i.Popj = op.Popj
op_of (i.Call program) = op.Call
op_of i.PopCall = op.PopCall
op_of i.Ret = op.Ret
op_of (i.TestAndJump f kind to) = test_op_of f
op_of (i.Apply o) = word_op_of o

abbrev pub label_arg : ℕ → ArgText
label_arg l = text.Name (label_name l)

abbrev pub args_of : Names → Instruction → List ArgText
args_of n (i.PushConstant w) = text.Word (written_word n w) ∷ []
args_of n (i.PushLocal offset) = text.Name (name_in n.locals offset) ∷ []
args_of n (i.PopLocal offset) = text.Name (name_in n.locals offset) ∷ []
args_of n (i.SetLocal offset) = text.Name (name_in n.locals offset) ∷ []
args_of n (i.PushGlobal area) = text.Name (name_in n.areas area) ∷ []
args_of n (i.PopGlobal area) = text.Name (name_in n.areas area) ∷ []
args_of n (i.SetGlobal area) = text.Name (name_in n.areas area) ∷ []
args_of n (i.PushTempStkIndex k) = text.Number (number (pos k)) ∷ []
args_of n (i.PopStar k) = text.Number (number (pos k)) ∷ []
args_of n (i.Jump to) = label_arg to ∷ []
args_of n (i.JumpIfTempStkFull to) = label_arg to ∷ []
args_of n (i.JumpIfTempStkEmpty to) = label_arg to ∷ []
args_of n (i.JumpCase tos) = map label_arg tos
args_of n (i.Pushj to) = label_arg to ∷ []
args_of n (i.TestAndJump f kind to) = text.Test kind ∷ label_arg to ∷ []
args_of n (i.Call program) = text.Name (name_in n.programs program) ∷ []
args_of n ins = []

abbrev pub written : Names → Line → InstrOf
written n (Plain ins) = new_instruction 0 (op_of ins) None (args_of n ins)
written n (Marked l ins) = new_instruction 0 (op_of ins) (Some (label_name l)) (args_of n ins)

-- an instruction with places in place of labels
abbrev pub with_places : (ℕ → ℕ) → Instruction → Instruction
with_places f (i.Jump to) = i.Jump (f to)
with_places f (i.JumpIfTempStkFull to) = i.JumpIfTempStkFull (f to)
with_places f (i.JumpIfTempStkEmpty to) = i.JumpIfTempStkEmpty (f to)
with_places f (i.JumpCase tos) = i.JumpCase (map f tos)
with_places f (i.Pushj to) = i.Pushj (f to)
with_places f (i.TestAndJump g kind to) = i.TestAndJump g kind (f to)
with_places f ins = ins

abbrev pub line_with_places : (ℕ → ℕ) → Line → Instruction
line_with_places f (Plain ins) = with_places f ins
line_with_places f (Marked l ins) = with_places f ins

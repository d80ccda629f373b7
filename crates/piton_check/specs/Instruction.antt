-- Systems as the definitions of later layers see them: each instruction with what it needs, and positions in place of names.
use Rattle.std.specs.Prelude.{ℕ, List, [], ◌∷◌, map, Option, Some, None}
use Rattle.piton_words.specs.{declared.word.Word.{Word}, declared.op.WordOp.{WordOp}}
use Rattle.piton_syntax.specs.{declared.op.PitonOp.{PitonOp}, declared.test_kind.TestFamily.{TestFamily}}
use Rattle.piton_syntax.specs.declared.test_kind.TestKind.{TestKind}
use Rattle.piton_syntax.specs.declared.op.PitonOp.TheVariants as op
use Rattle.piton_syntax.specs.declared.test_kind.TestFamily.TheVariants as family
use Rattle.piton_check.specs.{declared.resolved.ResolvedArg.{ResolvedArg}, WordOperations.{word_operation}, Resolved.{ResolvedInstrOf}}
use Rattle.piton_check.specs.Resolved.{ResolvedProgramOf, ResolvedOf}
use Rattle.piton_check.specs.declared.resolved.ResolvedArg.TheVariants as arg

-- A place is the position of an instruction in its program, an offset that of a word in the frame.
pub data Instruction : Type 0 where
  PushConstant : (word : Word) → Instruction
  PushLocal : (offset : ℕ) → Instruction
  PopLocal : (offset : ℕ) → Instruction
  SetLocal : (offset : ℕ) → Instruction
  PushGlobal : (area : ℕ) → Instruction
  PopGlobal : (area : ℕ) → Instruction
  SetGlobal : (area : ℕ) → Instruction
  PushTempStkIndex : (n : ℕ) → Instruction
  PushTempStkFreeSize : Instruction
  PushCtrlStkFreeSize : Instruction
  FetchTempStk : Instruction
  DepositTempStk : Instruction
  Fetch : Instruction
  Deposit : Instruction
  Pop : Instruction
  PopStar : (n : ℕ) → Instruction
  Popn : Instruction
  NoOp : Instruction
  Jump : (place : ℕ) → Instruction
  JumpIfTempStkFull : (place : ℕ) → Instruction
  JumpIfTempStkEmpty : (place : ℕ) → Instruction
  JumpCase : (places : List ℕ) → Instruction
  Pushj : (place : ℕ) → Instruction
  Popj : Instruction
  TestAndJump : (family : TestFamily) (kind : TestKind) (place : ℕ) → Instruction
  Call : (program : ℕ) → Instruction
  PopCall : Instruction
  Ret : Instruction
  Apply : (op : WordOp) → Instruction

-- a program: how many formals it has, the words of its temporaries at the start, and its instructions
pub record ProgramView : Type 0 where
  pub formals : ℕ
  pub temporaries : List Word
  pub instructions : List Instruction

-- a system; the stack is the temporary stack at the start
pub record SystemView : Type 0 where
  pub main : ℕ
  pub ctrl : ℕ
  pub temp : ℕ
  pub base : ℕ
  pub areas : List (List Word)
  pub stack : List Word  -- from the bottom up
  pub programs : List ProgramView

-- an instruction of one argument, where that is of its kind; no checked system has another
abbrev pub with_word : (Word → Instruction) → List ResolvedArg → Instruction
with_word make (arg.Word w ∷ []) = make w
with_word make args = NoOp

abbrev pub with_number : (ℕ → Instruction) → List ResolvedArg → Instruction
with_number make (arg.Number n ∷ []) = make n
with_number make args = NoOp

abbrev pub with_local : (ℕ → Instruction) → List ResolvedArg → Instruction
with_local make (arg.Local offset ∷ []) = make offset
with_local make args = NoOp

abbrev pub with_place : (ℕ → Instruction) → List ResolvedArg → Instruction
with_place make (arg.Place place ∷ []) = make place
with_place make args = NoOp

abbrev pub with_area : (ℕ → Instruction) → List ResolvedArg → Instruction
with_area make (arg.Area area ∷ []) = make area
with_area make args = NoOp

abbrev pub with_program : (ℕ → Instruction) → List ResolvedArg → Instruction
with_program make (arg.Program program ∷ []) = make program
with_program make args = NoOp

abbrev pub with_test : TestFamily → List ResolvedArg → Instruction
with_test f (arg.Test kind ∷ arg.Place place ∷ []) = TestAndJump f kind place
with_test f args = NoOp

-- the place of a label, and 0 for any other argument
abbrev pub place_of : ResolvedArg → ℕ
place_of (arg.Place place) = place
place_of a = 0

-- an instruction other than an operation on words
abbrev pub other_instruction_of : PitonOp → List ResolvedArg → Instruction
other_instruction_of op.PushConstant args = with_word PushConstant args
other_instruction_of op.PushLocal args = with_local PushLocal args
other_instruction_of op.PopLocal args = with_local PopLocal args
other_instruction_of op.SetLocal args = with_local SetLocal args
other_instruction_of op.PushGlobal args = with_area PushGlobal args
other_instruction_of op.PopGlobal args = with_area PopGlobal args
other_instruction_of op.SetGlobal args = with_area SetGlobal args
other_instruction_of op.PushTempStkIndex args = with_number PushTempStkIndex args
other_instruction_of op.PushTempStkFreeSize args = PushTempStkFreeSize
other_instruction_of op.PushCtrlStkFreeSize args = PushCtrlStkFreeSize
other_instruction_of op.FetchTempStk args = FetchTempStk
other_instruction_of op.DepositTempStk args = DepositTempStk
other_instruction_of op.Fetch args = Fetch
other_instruction_of op.Deposit args = Deposit
other_instruction_of op.Pop args = Pop
other_instruction_of op.PopStar args = with_number PopStar args
other_instruction_of op.Popn args = Popn
other_instruction_of op.NoOp args = NoOp
other_instruction_of op.Jump args = with_place Jump args
other_instruction_of op.JumpIfTempStkFull args = with_place JumpIfTempStkFull args
other_instruction_of op.JumpIfTempStkEmpty args = with_place JumpIfTempStkEmpty args
other_instruction_of op.JumpCase args = JumpCase (map place_of args)
other_instruction_of op.Pushj args = with_place Pushj args
other_instruction_of op.Popj args = Popj
other_instruction_of op.TestNatAndJump args = with_test family.Nat args
other_instruction_of op.TestIntAndJump args = with_test family.Int args
other_instruction_of op.TestBoolAndJump args = with_test family.Bool args
other_instruction_of op.TestBitvAndJump args = with_test family.Bitv args
other_instruction_of op.Call args = with_program Call args
other_instruction_of op.PopCall args = PopCall
other_instruction_of op.Ret args = Ret
other_instruction_of o args = NoOp

abbrev pub instruction_by : Option WordOp → PitonOp → List ResolvedArg → Instruction
instruction_by (Some operation) o args = Apply operation
instruction_by None o args = other_instruction_of o args

-- the instruction of an operation and its arguments
abbrev pub instruction_of : PitonOp → List ResolvedArg → Instruction
instruction_of o args = instruction_by (word_operation o) o args

-- what is seen of the resolved form
abbrev pub instruction_view : ResolvedInstrOf → Instruction
instruction_view i = instruction_of i.op i.args

abbrev pub program_view : ResolvedProgramOf → ProgramView
program_view p = record { formals = p.formals; temporaries = p.temporaries; instructions = map instruction_view p.instrs }

abbrev pub system_view : ResolvedOf → SystemView
system_view s = record {
  main = s.main;
  ctrl = s.ctrl;
  temp = s.temp;
  base = s.base;
  areas = s.areas;
  stack = s.stack;
  programs = map program_view s.programs;
}

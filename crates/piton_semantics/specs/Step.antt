-- A step, its cost, and runs.
use Rattle.std.specs.Prelude.{ℕ, zero, suc, ◌+◌, List, [], ◌∷◌, Option, Some, None, Ok, Err}
use Rattle.piton_words.specs.{declared.word.Word.{Word}, declared.word.Word.TheVariants.{Subr}, declared.op.WordOp.{WordOp}}
use Rattle.piton_words.specs.declared.op.WordOp.TheVariants as op
use Rattle.piton_semantics.specs.{declared.error_kind.ErrorKind.TheVariants.{Range}, State.{Frame, PitonState, instruction_at}}
use Rattle.piton_semantics.specs.{State.{variables_of}, Views.{◌>>=◌, found}, InstructionRows.{Row, row_of}}
use Rattle.piton_check.specs.Instruction as i
use Rattle.piton_check.specs.Instruction.{Instruction, SystemView}

-- one step; a halted state has no frame, and answers itself
abbrev pub step_from : SystemView → PitonState → List Frame → Row
step_from s p [] = Ok p
step_from s p (f ∷ fs) = found (instruction_at s p.program p.place) Range >>= row_of s p

abbrev pub piton_step : SystemView → PitonState → Row
piton_step s p = step_from s p p.frames

-- the state after k steps
unfoldable pub piton_run : SystemView → ℕ → PitonState → Row
piton_run s zero p = Ok p
piton_run s (suc k) p = piton_step s p >>= piton_run s k

-- how many instructions of the processor an operation on words takes
abbrev pub operation_cost : WordOp → ℕ
operation_cost op.Eq = 4
operation_cost op.LtInt = 5
operation_cost op.LtNat = 5
operation_cost op.LtAddr = 5
operation_cost op.AddIntWithCarry = 7
operation_cost op.AddNatWithCarry = 7
operation_cost op.SubIntWithCarry = 7
operation_cost op.SubNatWithCarry = 7
operation_cost op.Mult2NatWithCarryOut = 5
operation_cost op.Div2Nat = 5
operation_cost op = 1

-- the locals of the program that the top word names
abbrev pub variables_on_top : SystemView → List Word → ℕ
variables_on_top s (Subr program ∷ below) = variables_of s program
variables_on_top s stack = 0

-- how many instructions of the processor an instruction takes
abbrev pub cost_of : SystemView → PitonState → Instruction → ℕ
cost_of s p (i.PushConstant word) = 1
cost_of s p (i.PushLocal offset) = 3
cost_of s p (i.PopLocal offset) = 3
cost_of s p (i.SetLocal offset) = 3
cost_of s p (i.PushGlobal area) = 2
cost_of s p (i.PopGlobal area) = 2
cost_of s p (i.SetGlobal area) = 2
cost_of s p (i.PushTempStkIndex n) = 3
cost_of s p i.PushTempStkFreeSize = 3
cost_of s p i.PushCtrlStkFreeSize = 3
cost_of s p i.FetchTempStk = 3
cost_of s p i.DepositTempStk = 3
cost_of s p i.Fetch = 2
cost_of s p i.Deposit = 2
cost_of s p i.Pop = 1
cost_of s p (i.PopStar n) = 1
cost_of s p i.Popn = 2
cost_of s p i.NoOp = 1
cost_of s p (i.Jump place) = 1
cost_of s p (i.JumpIfTempStkFull place) = 3
cost_of s p (i.JumpIfTempStkEmpty place) = 3
cost_of s p (i.JumpCase places) = 3
cost_of s p (i.Pushj place) = 2
cost_of s p i.Popj = 1
cost_of s p (i.TestAndJump family kind place) = 2
cost_of s p (i.Call program) = 4 + variables_of s program
cost_of s p i.PopCall = 5 + variables_on_top s p.stack
cost_of s p i.Ret = 4
cost_of s p (i.Apply op) = operation_cost op

abbrev pub cost_at : SystemView → PitonState → Option Instruction → ℕ
cost_at s p None = 0
cost_at s p (Some instruction) = cost_of s p instruction

-- the cost of a step; a halted state has none
abbrev pub cost_from : SystemView → PitonState → List Frame → ℕ
cost_from s p [] = 0
cost_from s p (f ∷ fs) = cost_at s p (instruction_at s p.program p.place)

abbrev pub step_cost : SystemView → PitonState → ℕ
step_cost s p = cost_from s p p.frames

-- the cost of the first k steps; what follows an error costs nothing
unfoldable pub cost_after : SystemView → (PitonState → ℕ) → Row → ℕ
cost_after s rest (Ok p) = rest p
cost_after s rest (Err e) = 0

unfoldable pub run_cost : SystemView → ℕ → PitonState → ℕ
run_cost s zero p = 0
run_cost s (suc k) p = step_cost s p + cost_after s (run_cost s k) (piton_step s p)

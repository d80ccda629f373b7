-- The instruction that a decoded one is.
use Rattle.std.specs.Prelude.{map}
use Rattle.piton_semantics.specs.declared.piton_instr.PitonInstr.{PitonInstr}
use Rattle.piton_semantics.specs.declared.piton_instr.PitonInstr.TheVariants as instr
use Rattle.piton_check.specs.Instruction as i
use Rattle.piton_check.specs.Instruction.{Instruction, place_of}

abbrev pub decoded_view : PitonInstr → Instruction
decoded_view (instr.PushConstant word) = i.PushConstant word
decoded_view (instr.PushLocal offset) = i.PushLocal offset
decoded_view (instr.PopLocal offset) = i.PopLocal offset
decoded_view (instr.SetLocal offset) = i.SetLocal offset
decoded_view (instr.PushGlobal area) = i.PushGlobal area
decoded_view (instr.PopGlobal area) = i.PopGlobal area
decoded_view (instr.SetGlobal area) = i.SetGlobal area
decoded_view (instr.PushTempStkIndex n) = i.PushTempStkIndex n
decoded_view instr.PushTempStkFreeSize = i.PushTempStkFreeSize
decoded_view instr.PushCtrlStkFreeSize = i.PushCtrlStkFreeSize
decoded_view instr.FetchTempStk = i.FetchTempStk
decoded_view instr.DepositTempStk = i.DepositTempStk
decoded_view instr.Fetch = i.Fetch
decoded_view instr.Deposit = i.Deposit
decoded_view instr.Pop = i.Pop
decoded_view (instr.PopStar n) = i.PopStar n
decoded_view instr.Popn = i.Popn
decoded_view instr.NoOp = i.NoOp
decoded_view (instr.Jump place) = i.Jump place
decoded_view (instr.JumpIfTempStkFull place) = i.JumpIfTempStkFull place
decoded_view (instr.JumpIfTempStkEmpty place) = i.JumpIfTempStkEmpty place
decoded_view (instr.JumpCase labels) = i.JumpCase (map place_of labels.now)
decoded_view (instr.Pushj place) = i.Pushj place
decoded_view instr.Popj = i.Popj
decoded_view (instr.TestAndJump family kind place) = i.TestAndJump family kind place
decoded_view (instr.Call program) = i.Call program
decoded_view instr.PopCall = i.PopCall
decoded_view instr.Ret = i.Ret
decoded_view (instr.Apply op) = i.Apply op

-- The number that an instruction of a checked system names is small.
use Rattle.std.proofs.Common.{◌≡◌, ℕ, ◌≤◌, Some, subst}
use Rattle.piton_check.specs.Instruction as i
use Rattle.piton_check.{specs.Instruction.{Instruction, SystemView}, specs.Sound.{IsSound, IsPlaced}}
use Rattle.piton_semantics.{specs.State.{program_of, instruction_at}, proofs.SoundLaws.placed_at}

pub few_at : (s : SystemView) → IsSound s → (program place : ℕ) (instruction : Instruction) → instruction_at s program place ≡ Some instruction
    → (n : ℕ) → instruction ≡ i.PushTempStkIndex n → n ≤ 65536
few_at s sound program place instruction there n same =
    subst (IsPlaced s (program_of s program)) same (placed_at s sound program place instruction there).1

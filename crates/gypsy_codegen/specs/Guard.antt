-- The guard of a call: whether both stacks have the words free that the call needs, asked before anything is pushed for it.
use Rattle.std.specs.Prelude.{ℕ, List, [], ◌∷◌, ◌++◌}
use Rattle.piton_words.specs.declared.word.Word.TheVariants.{Nat}
use Rattle.piton_words.specs.declared.op.WordOp.TheVariants as op
use Rattle.piton_syntax.specs.declared.test_kind.TestFamily.TheVariants as family
use Rattle.piton_syntax.specs.declared.test_kind.TestKind.TheVariants as test
use Rattle.piton_check.specs.Instruction as i
use Rattle.piton_check.specs.Instruction.{Instruction}
use Rattle.gypsy_space.specs.Needs.{StackSizes}

-- where fewer words than this were pushed as the free ones, to this place
abbrev pub below_code : ℕ → ℕ → List Instruction
below_code need to = i.PushConstant (Nat need) ∷ i.Apply op.LtNat ∷ i.TestAndJump family.Bool test.T to ∷ []

-- where the temporary stack has fewer words free than this, to this place
abbrev pub temp_guard : ℕ → ℕ → List Instruction
temp_guard need to = i.PushTempStkFreeSize ∷ below_code need to

-- the same of the control stack
abbrev pub ctrl_guard : ℕ → ℕ → List Instruction
ctrl_guard need to = i.PushCtrlStkFreeSize ∷ below_code need to

-- the temporary stack is looked at first
abbrev pub guard_code : StackSizes → ℕ → List Instruction
guard_code need to = temp_guard need.temp to ++ ctrl_guard need.ctrl to

abbrev pub guard_size : ℕ
guard_size = 8

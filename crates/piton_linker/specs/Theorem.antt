-- Piton runs on the processor: a placed system does what its steps are, in the instructions that they cost.
use Rattle.std.specs.Prelude.{◌≡◌, ◌↔◌, ℕ, ◌≤◌, List, [], Ok, IsOk}
use Rattle.fm_words.specs.WindowLimit.{most_window}
use Rattle.piton_words.specs.declared.word.Word.{Word}
use Rattle.fm_machine.specs.{State.{Fm}, Run.{fm_run, pc_of, Avoids}}
use Rattle.piton_check.specs.{Instruction.{SystemView}, Sound.{IsSound}}
use Rattle.piton_semantics.specs.{State.{PitonState}, Step.{piton_run, run_cost}, Fits.{IsInitialStack}, StateView.{started}}
use Rattle.piton_semantics.specs.{Placed.{placed, final_pc_of, loaded}, Stands.{Stands}}

-- After n instructions from m the processor stands for p. None of them was outside the window. The program counter is the
-- final one exactly where p has halted, and it was that at no count below n.
pub record ComesToStand (s : SystemView) (m : Fm) (n : ℕ) (p : PitonState) : Type 0 where
  pub state : Fm
  pub runs : fm_run n m ≡ Ok state
  pub inside : (k : ℕ) → k ≤ n → IsOk (fm_run k m)
  pub stands : Stands s state p
  pub halted : (p.frames ≡ []) ↔ (pc_of state ≡ final_pc_of s)
  pub before : Avoids m (final_pc_of s) n

-- Each run of a system without an error, from any of its initial stacks, is one of the processor: the machine with the
-- placed words and that stack comes to stand for the state that the run leads to, in the instructions that it costs.
abbrev pub RunsOnProcessor : SystemView → Type 0
RunsOnProcessor s = (stack : List Word) (j : ℕ) (p : PitonState) → IsInitialStack s stack → piton_run s j (started s stack) ≡ Ok p →
    ComesToStand s (loaded s stack) (run_cost s j (started s stack)) p

-- So it is for each sound system whose placed size is at most 2^20.
abbrev pub PitonRunsOnProcessor : Type 0
PitonRunsOnProcessor = (s : SystemView) → IsSound s → (placed s).size ≤ most_window → RunsOnProcessor s

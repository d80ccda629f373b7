-- What stretches of quick code do, from any machine that stands as they ask.
use Rattle.std.specs.Prelude.{◌≡◌, ℕ, ◌+◌, ◌<◌, ◌≤◌, Ok, List, length, reverse, slice_index}
use Rattle.fm_words.specs.declared.condition.Flags.{Flags}
use Rattle.fm_machine.specs.{State.{Fm}, Run.{fm_run, Avoids}}
use Rattle.fm_code.specs.Execution.{Parts, AreParts, IsLaidOut, CodeAt, final_pc}

-- r3, the flags, the words of the temporary stack from the bottom up, and those of the areas
pub record Now : Type 0 where
  pub x3 : ℕ
  pub fl : Flags
  pub vars : List ℕ
  pub areas : List ℕ

abbrev pub now : ℕ → Flags → List ℕ → List ℕ → Now
now x3 fl vars areas = record { x3 = x3; fl = fl; vars = vars; areas = areas }

-- The machine has this pc and stands so: its window is laid out in the parts, with these words on the control stack, and its registers
-- from 5 to 14 hold what the table says. r4, and what of the stacks isn't in use, may be anything.
pub record Stands (P : Parts) (table : ℕ → ℕ) (ctrl : List ℕ) (s : Fm) (pc : ℕ) (a : Now) : Type 0 where
  pub base_is : s.base ≡ P.base
  pub sixteen : length s.registers ≡ 16
  pub flags_are : s.flags ≡ a.fl
  pub r3_is : slice_index s.registers 3 ≡ a.x3
  pub r15_is : slice_index s.registers 15 ≡ pc
  pub held : (k : ℕ) → 5 ≤ k → k < 15 → slice_index s.registers k ≡ table k
  pub laid : IsLaidOut P s.memory (slice_index s.registers 1) (slice_index s.registers 2) ctrl (reverse a.vars) a.areas

-- after k steps from s the machine stands so, and before that its pc was never the final one
pub record Comes (P : Parts) (table : ℕ → ℕ) (ctrl : List ℕ) (k : ℕ) (s : Fm) (pc : ℕ) (a : Now) : Type 0 where
  pub state : Fm
  pub runs : fm_run k s ≡ Ok state
  pub avoids : Avoids s (final_pc P) k
  pub stands : Stands P table ctrl state pc a

-- wherever the code stands, k steps lead from its first word to the place behind it
pub record Does (P : Parts) (table : ℕ → ℕ) (code : List ℕ) (k : ℕ) (a b : Now) : Type 0 where
  pub leads : (ctrl : List ℕ) (s : Fm) (pc : ℕ) → AreParts P → Stands P table ctrl s pc a → CodeAt P pc code →
      Comes P table ctrl k s (pc + length code) b

-- wherever the code stands, k steps lead from its first word to this address
pub record Jumps (P : Parts) (table : ℕ → ℕ) (code : List ℕ) (k : ℕ) (a : Now) (target : ℕ) (b : Now) : Type 0 where
  pub leads : (ctrl : List ℕ) (s : Fm) (pc : ℕ) → AreParts P → Stands P table ctrl s pc a → CodeAt P pc code →
      Comes P table ctrl k s target b

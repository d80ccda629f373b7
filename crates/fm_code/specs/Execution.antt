-- The parts of a program's memory, views of the machine's state, and what it is that the machine executes code.
use Rattle.std.specs.Prelude.{◌≡◌, ℕ, ◌+◌, ◌-◌, ◌≤◌, ◌<◌, ◌^◌, List, [], ◌∷◌, ◌++◌, length, Some, Ok, slice_get, slice_index}
use Rattle.fm_machine.specs.{State.{Fm, word_at}, Run.{fm_run, Avoids}}
use Rattle.fm_code.specs.InstructionWords.{halt_word}

-- a window with this base and memory holds these words from an address on
abbrev pub Holds : ℕ → List ℕ → ℕ → List ℕ → Type 0
Holds base memory a [] = Unit {0}
Holds base memory a (w ∷ ws) = (word_at base memory a ≡ Some w) × Holds base memory (a + 1) ws

-- The parts of a program's memory, in the order of their addresses: the code, which begins at base, and one word after
-- it where the program ends; the areas; the part of the control stack; the part of the temporary stack. Both stacks
-- grow downward from the ends of their parts, which are temp_at and end.
pub record Parts : Type 0 where
  pub base : ℕ
  pub code : List ℕ
  pub areas_at : ℕ
  pub ctrl_at : ℕ
  pub temp_at : ℕ
  pub end : ℕ

-- the words from base on: the code, and the halt instruction
abbrev pub code_words : Parts → List ℕ
code_words P = P.code ++ halt_word ∷ []

-- the address of the halt instruction, where a program has ended
abbrev pub final_pc : Parts → ℕ
final_pc P = P.base + length P.code

-- the parts follow one another, and each of their addresses has 32 bits
pub record AreParts (P : Parts) : Type 0 where
  pub code_below : final_pc P + 1 ≤ P.areas_at
  pub areas_below : P.areas_at ≤ P.ctrl_at
  pub ctrl_below : P.ctrl_at ≤ P.temp_at
  pub temp_below : P.temp_at ≤ P.end
  pub fits : P.end < 2 ^ 32

-- the code has the word w at the address pc
pub record CodeWord (P : Parts) (pc w : ℕ) : Type 0 where
  pub above : P.base ≤ pc
  pub found : slice_get P.code (pc - P.base) ≡ Some w

-- the code has these words from the address pc on
abbrev pub CodeAt : Parts → ℕ → List ℕ → Type 0
CodeAt P pc [] = Unit {0}
CodeAt P pc (w ∷ ws) = CodeWord P pc w × CodeAt P (pc + 1) ws

-- The words m of a window are laid out in these parts: they have the code, the words of the areas, and the words of
-- both stacks, each listed from its top. The tops are at the addresses c and t.
pub record IsLaidOut (P : Parts) (m : List ℕ) (c t : ℕ) (ctrl temp areas : List ℕ) : Type 0 where
  pub size : P.base + length m ≡ P.end
  pub code : Holds P.base m P.base (code_words P)
  pub areas_at : Holds P.base m P.areas_at areas
  pub ctrl_at : Holds P.base m c ctrl
  pub temp_at : Holds P.base m t temp
  pub areas_fit : P.areas_at + length areas ≤ P.ctrl_at
  pub ctrl_fits : P.ctrl_at ≤ c
  pub ctrl_end : c + length ctrl ≡ P.temp_at
  pub temp_fits : P.temp_at ≤ t
  pub temp_end : t + length temp ≡ P.end

-- A view of a state: r0, which points to the frame; r15; the words on the control stack and on the temporary stack,
-- each from its top; and the words of the areas. Other registers and the flags are left out.
pub record View : Type 0 where
  pub frame : ℕ
  pub pc : ℕ
  pub ctrl : List ℕ
  pub temp : List ℕ
  pub areas : List ℕ

abbrev pub view : ℕ → ℕ → List ℕ → List ℕ → List ℕ → View
view f pc ctrl temp areas = record { frame = f; pc = pc; ctrl = ctrl; temp = temp; areas = areas }

-- a state with this view: its window is laid out in its parts, with the tops of both stacks in r1 and r2
pub record HasView (P : Parts) (s : Fm) (v : View) : Type 0 where
  pub base_is : s.base ≡ P.base
  pub sixteen : length s.registers ≡ 16
  pub r0_is : slice_index s.registers 0 ≡ v.frame
  pub r15_is : slice_index s.registers 15 ≡ v.pc
  pub laid : IsLaidOut P s.memory (slice_index s.registers 1) (slice_index s.registers 2) v.ctrl v.temp v.areas

-- after n steps from s the machine has this view, and before that its pc was never the final one
pub record Arrives (P : Parts) (n : ℕ) (s : Fm) (v : View) : Type 0 where
  pub state : Fm
  pub runs : fm_run n s ≡ Ok state
  pub avoids : Avoids s (final_pc P) n
  pub laid : HasView P state v

-- from each state with the view v whose pc is at this code, n steps lead to a state with the view w
pub record Executes (P : Parts) (code : List ℕ) (n : ℕ) (v w : View) : Type 0 where
  pub leads : (s : Fm) → AreParts P → HasView P s v → CodeAt P v.pc code → Arrives P n s w

-- How a board stands for a machine, and how many cycles an instruction takes.
use Rattle.std.specs.Prelude.{◌≡◌, ◌≢◌, ℕ, zero, suc, ◌+◌, ◌<◌, ◌^◌, List, Result, Ok, Err, slice_index, if◌then◌else◌}
use Rattle.fm_words.specs.{declared.condition.Flags.{Flags}, declared.instruction.Mode.{Mode}}
use Rattle.fm_words.specs.{declared.instruction.Mode.TheVariants.{Register}, declared.instruction.OperandA.{OperandA}}
use Rattle.fm_words.specs.{declared.instruction.OperandA.TheVariants.{Immediate, Place}, declared.instruction.Instr.{Instr}}
use Rattle.fm_words.specs.{Alu.{does_hold}, Code.{decode_of}}
use Rattle.fm_machine.specs.{State.{Fm}, Step.{read_word, reads_b, fm_step}, Run.{pc_of}, declared.fault.Outside.{Outside}}
use Rattle.fm_circuit.specs.{Phases.{fetch, fault}, Board.{Board, board_of, cycles}}

-- each word of a list has 32 bits
abbrev pub AreWords : List ℕ → Type 0
AreWords words = (i : ℕ) → slice_index words i < 2 ^ 32

-- a machine's words
pub record HasWords (s : Fm) : Type 0 where
  pub registers : AreWords s.registers
  pub memory : AreWords s.memory

-- The board is about to fetch, with a machine's registers, flags and window. What its other registers hold, and what
-- memory gives, is all one.
pub record StandsFor (b : Board) (s : Fm) : Type 0 where
  pub ir : ℕ
  pub x : ℕ
  pub y : ℕ
  pub at : ℕ
  pub read : ℕ
  pub outside : ℕ
  pub is : b ≡ board_of fetch ir x y at s.flags s.registers read outside s.base s.memory

-- the board has stopped at an address outside the window
pub record HasStopped (b : Board) (address : ℕ) : Type 0 where
  pub ir : ℕ
  pub x : ℕ
  pub y : ℕ
  pub flags : Flags
  pub registers : List ℕ
  pub read : ℕ
  pub outside : ℕ
  pub base : ℕ
  pub memory : List ℕ
  pub is : b ≡ board_of fault ir x y address flags registers read outside base memory

-- the phase that a board is in
abbrev pub phase_of : Board → ℕ
phase_of b = slice_index b.kept.registers 0

-- at no cycle strictly between is the board about to fetch
abbrev pub IsBusy : Board → ℕ → Type 0
IsBusy b k = (j : ℕ) → 0 < j → j < k → phase_of (cycles j b) ≢ fetch

-- a place takes one cycle where it is a register, and two where it is in memory
abbrev pub place_cycles : Mode → ℕ
place_cycles Register = 1
place_cycles mode = 2

abbrev pub cycles_of_a : OperandA → ℕ
cycles_of_a (Immediate n) = 1
cycles_of_a (Place mode r) = place_cycles mode

-- what follows a step, or nothing
abbrev pub if_ok : Result Fm Outside → (Fm → ℕ) → ℕ
if_ok (Ok t) go = go t
if_ok (Err e) go = 0

-- the cycles of an instruction: its fetch, its first operand, its second, which may not be read, and its result, which may
-- not be stored
abbrev pub cycles_of : Instr → Flags → ℕ
cycles_of i f =
    2 + (cycles_of_a i.a + ((if reads_b i.op then place_cycles i.mode_b else 1) + (if does_hold i.cc f then place_cycles i.mode_b else 1)))

abbrev pub cycles_with : Flags → Result ℕ Outside → ℕ
cycles_with f (Ok word) = cycles_of (decode_of word) f
cycles_with f (Err e) = 2

-- the cycles of a machine's next step
abbrev pub step_cycles : Fm → ℕ
step_cycles s = cycles_with s.flags (read_word s (pc_of s))

-- the cycles of a number of steps
unfoldable pub run_cycles : ℕ → Fm → ℕ
run_cycles zero s = 0
run_cycles (suc k) s = step_cycles s + if_ok (fm_step s) (run_cycles k)

-- the board is about to fetch at an address
abbrev pub IsAt : ℕ → Board → Type 0
IsAt pc b = (phase_of b ≡ fetch) × (slice_index b.kept.file 15 ≡ pc)

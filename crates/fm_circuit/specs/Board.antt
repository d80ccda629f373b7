-- The processor on a board: beside it a memory with one port, whose word comes one cycle after its address.
use Rattle.std.specs.Prelude.{ℕ, zero, suc, ◌==◌, ◌&&◌, Bool, true, false, not, List, [], ◌∷◌, map, Option, is_some, unwrap_or, slice_set}
use Rattle.std.specs.{Prelude.{if◌then◌else◌}, Int.{from_bool as bit_of}}
use Rattle.fm_words.specs.declared.condition.Flags.{Flags}
use Rattle.fm_machine.specs.State.{word_at, with_word}
use Rattle.fm_circuit.specs.{declared.wire.Wire.{Wire}, Circuit.{Kept, settled, taken, reset_of}, Processor.{driver_of}}
use Rattle.fm_circuit.specs.declared.wire.Wire.TheVariants as w

-- What the circuit keeps, what memory gives for the last address (its word, and whether it was outside), and the
-- window of memory.
pub record Board : Type 0 where
  pub kept : Kept
  pub read : ℕ
  pub outside : ℕ
  pub base : ℕ
  pub memory : List ℕ

-- the processor's registers, in the order of their numbers
abbrev pub registers : List Wire
registers = w.Phase ∷ w.Ir ∷ w.A ∷ w.B ∷ w.At ∷ w.C ∷ w.V ∷ w.N ∷ w.Z ∷ []

-- enough levels for each wire of the processor
abbrev pub levels : ℕ
levels = 9

-- the value of each wire of a board
abbrev pub on_board : Board → Wire → ℕ
on_board b = settled levels b.kept (b.read ∷ b.outside ∷ [])

-- what the circuit keeps at the end of a cycle, from whether it is reset in it and the values of its wires: a reset sets the
-- registers, and leaves the register file as it is
abbrev pub kept_next : Bool → List ℕ → (Wire → ℕ) → Kept
kept_next reset file on =
    record {
      registers = map (λ wire. if reset then reset_of (driver_of wire) else taken on (driver_of wire)) registers;
      file = if not reset && (on w.FileWrite == 1) then slice_set file (on w.Number) (on w.FileData) else file;
    }

-- A cycle of the board: memory is asked for the word at an address, and may store one there, unless the circuit is reset.
abbrev pub clocked : Bool → Board → (Wire → ℕ) → Option ℕ → Board
clocked reset b on word =
    record {
      kept = kept_next reset b.kept.file on;
      read = unwrap_or word 0;
      outside = bit_of (not (is_some word));
      base = b.base;
      memory =
          if not reset && (on w.MemoryWrite == 1) && is_some word then with_word b.base b.memory (on w.Address) (on w.Out) else b.memory;
    }

abbrev pub cycle_with : Bool → Board → Board
cycle_with reset b = clocked reset b (on_board b) (word_at b.base b.memory (on_board b w.Address))

-- a cycle without a reset, and one with it
unfoldable pub cycle : Board → Board
cycle b = cycle_with false b

unfoldable pub reset_cycle : Board → Board
reset_cycle b = cycle_with true b

-- a number of cycles
unfoldable pub cycles : ℕ → Board → Board
cycles zero b = b
cycles (suc n) b = cycles n (cycle b)

-- a board in a phase: its instruction, the values of both operands, the last address, the flags and registers of the
-- machine, what memory gives, and the window
abbrev pub board_of : ℕ → ℕ → ℕ → ℕ → ℕ → Flags → List ℕ → ℕ → ℕ → ℕ → List ℕ → Board
board_of phase ir a b at f rs read outside base memory =
    record {
      kept = record {
        registers = phase ∷ ir ∷ a ∷ b ∷ at ∷ bit_of f.c ∷ bit_of f.v ∷ bit_of f.n ∷ bit_of f.z ∷ [];
        file = rs;
      };
      read = read;
      outside = outside;
      base = base;
      memory = memory;
    }

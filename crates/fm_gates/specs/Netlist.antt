-- The netlist of the processor, and a board of bits.
use Rattle.std.specs.Prelude.{◌≡◌, ℕ, zero, suc, ◌+◌, ◌*◌, ◌<◌, ◌==◌, ◌&&◌, not, Bool, false, List, [], ◌∷◌, map, Option, is_some}
use Rattle.std.specs.{Prelude.{unwrap_or, get_or, slice_index, if◌then◌else◌}, Int.{from_bool as bit_of, bit_at}}
use Rattle.fm_machine.specs.State.{word_at, with_word}
use Rattle.fm_circuit.specs.{declared.wire.Wire.{Wire}, Widths.{width_of}, Processor.{driver_of}, Board.{Board, cycle_with, cycles}}
use Rattle.fm_circuit.specs.{Board.{registers}, Sizes.{register_widths}, Following.{AreWords}}
use Rattle.fm_circuit.specs.declared.wire.Wire.TheVariants as w
use Rattle.fm_gates.specs.Gates.{Signals, gate_value, carry_gate, driver_gate, next_gate, file_gate, file_numbers, write_gate}

-- a word of so many bits, from the lowest on
unfoldable pub word_of_bits : ℕ → (ℕ → ℕ) → ℕ
word_of_bits zero bits = 0
word_of_bits (suc n) bits = bits 0 + 2 * word_of_bits n (λ i. bits (suc i))

-- A board whose circuit keeps bits: those of its registers and of the words of its register file, by their numbers; what memory gives,
-- whether that was outside, and the window.
pub record BitBoard : Type 0 where
  pub registers : ℕ → ℕ → ℕ
  pub file : ℕ → ℕ → ℕ
  pub read : ℕ → ℕ
  pub outside : ℕ
  pub base : ℕ
  pub memory : List ℕ

-- the numbers of the registers
abbrev pub register_numbers : List ℕ
register_numbers = 0 ∷ 1 ∷ 2 ∷ 3 ∷ 4 ∷ 5 ∷ 6 ∷ 7 ∷ 8 ∷ []

-- the board of words
abbrev pub words_of : BitBoard → Board
words_of b =
    record {
      kept = record {
        registers = map (λ k. word_of_bits (slice_index register_widths k) (b.registers k)) register_numbers;
        file = map (λ r. word_of_bits 32 (b.file r)) file_numbers;
      };
      read = word_of_bits 32 b.read;
      outside = b.outside;
      base = b.base;
      memory = b.memory;
    }

-- each is 0 or 1
pub record HasBits (b : BitBoard) : Type 0 where
  pub registers : (k i : ℕ) → i < slice_index register_widths k → b.registers k i < 2
  pub file : (r i : ℕ) → r < 16 → i < 32 → b.file r i < 2
  pub read : (i : ℕ) → i < 32 → b.read i < 2
  pub outside : b.outside < 2
  pub memory : AreWords b.memory

-- a bit of an input
abbrev pub input_bit : BitBoard → ℕ → ℕ → ℕ
input_bit b zero i = b.read i
input_bit b (suc n) i = b.outside

-- what is carried on a board, with these bits on its wires and these carries
abbrev pub signals_of : Bool → BitBoard → (Wire → ℕ → ℕ) → (Wire → ℕ → ℕ) → Signals
signals_of reset b wires carries =
    record { wire = wires; carry = carries; register = b.registers; input = input_bit b; file = b.file; reset = bit_of reset }

-- each wire of the netlist carries a bit, which is what its gates give
pub record AreNets (s : Signals) : Type 0 where
  pub bits : (wire : Wire) (i : ℕ) → i < width_of wire → s.wire wire i < 2
  pub wires : (wire : Wire) (i : ℕ) → i < width_of wire → s.wire wire i ≡ gate_value s (driver_gate wire (driver_of wire) i)
  pub carries : (wire : Wire) (i : ℕ) → i < width_of wire → s.carry wire i ≡ gate_value s (carry_gate wire (driver_of wire) i)

-- the word on a wire's bits
abbrev pub carried_word : Signals → Wire → ℕ
carried_word s wire = word_of_bits (width_of wire) (s.wire wire)

-- the board after the cycle: each bit takes what its gates give, and memory is asked for a word, and may store one
abbrev pub next_bits : BitBoard → Signals → Option ℕ → BitBoard
next_bits b s word =
    record {
      registers = λ k i. gate_value s (next_gate (driver_of (get_or registers k w.Phase)) i);
      file = λ r i. gate_value s (file_gate r i);
      read = bit_at (unwrap_or word 0);
      outside = bit_of (not (is_some word));
      base = b.base;
      memory =
          if gate_value s write_gate == 1 && is_some word then with_word b.base b.memory (carried_word s w.Address) (carried_word s w.Out)
          else b.memory;
    }

-- a cycle of the netlist, with a reset or without
pub record NetCycle (reset : Bool) (b c : BitBoard) : Type 0 where
  pub wires : Wire → ℕ → ℕ
  pub carries : Wire → ℕ → ℕ
  pub nets : AreNets (signals_of reset b wires carries)
  pub next : let s = signals_of reset b wires carries in c ≡ next_bits b s (word_at b.base b.memory (carried_word s w.Address))

-- Each cycle of the netlist is a cycle of the circuit, seen as words, and leaves bits.
abbrev pub Lowered : Type 0
Lowered = (reset : Bool) (b c : BitBoard) → HasBits b → NetCycle reset b c → (words_of c ≡ cycle_with reset (words_of b)) × HasBits c

-- and there always is one
abbrev pub GoesOn : Type 0
GoesOn = (reset : Bool) (b : BitBoard) → HasBits b → (c : BitBoard) × NetCycle reset b c

-- a number of cycles of the netlist, without a reset
abbrev pub NetCycles : ℕ → BitBoard → BitBoard → Type 0
NetCycles zero b c = b ≡ c
NetCycles (suc n) b c = (between : BitBoard) × NetCycle false b between × NetCycles n between c

-- each number of cycles is that of the circuit
abbrev pub Runs : Type 0
Runs = (n : ℕ) (b c : BitBoard) → HasBits b → NetCycles n b c → words_of c ≡ cycles n (words_of b)

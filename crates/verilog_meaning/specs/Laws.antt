-- The law of the printed text: it is the text of a module of Verilog, and each cycle of that module is a cycle of the circuit.
use Rattle.std.specs.Prelude.{◌≡◌, ℕ, suc, ◌<◌, ◌==◌, ◌&&◌, ◌||◌, nat_le, Bool, true, false, not, List, [], ◌∷◌, map, length, codes}
use Rattle.std.specs.{Prelude.{is_some, unwrap_or, if◌then◌else◌}, List.{list_all}, Int.{from_bool as bit_of}}
use Rattle.fm_machine.specs.State.{word_at, with_word}
use Rattle.fm_circuit.specs.{declared.wire.Wire.{Wire}, Circuit.{Kept}, Board.{Board, cycle_with, cycles, on_board, registers}}
use Rattle.fm_circuit.specs.Sizes.{FitsBoard}
use Rattle.fm_circuit.specs.declared.wire.Wire.TheVariants as w
use Rattle.fm_gates.specs.Gates.{file_numbers}
use Rattle.fm_verilog.specs.{WireNames.{name_of}, VerilogText.{verilog_text}}
use Rattle.verilog_meaning.specs.{Syntax.{module_text}, Meaning.{Snapshot, IsCycle}, ProcessorModule.{processor}}

-- a snapshot has what the circuit keeps
pub record Keeps (now : Snapshot) (kept : Kept) : Type 0 where
  pub registers : map (λ wire. now.value (name_of wire)) registers ≡ kept.registers
  pub file : map (now.word (codes "file")) file_numbers ≡ kept.file

-- and what comes in
pub record Shows (now : Snapshot) (resets : Bool) (b : Board) : Type 0 where
  pub kept : Keeps now b.kept
  pub reset : now.value (codes "reset") ≡ bit_of resets
  pub read : now.value (codes "bus_read") ≡ b.read
  pub outside : now.value (codes "bus_outside") ≡ b.outside

-- what a cycle of the module is for a board: each wire has the circuit's value, the address, the word and the write go out, and what is
-- kept after the edge is what the circuit keeps
pub record IsBoardCycle (now next : Snapshot) (reset : Bool) (b : Board) : Type 0 where
  pub wires : (wire : Wire) → now.value (name_of wire) ≡ on_board b wire
  pub address : now.value (codes "bus_address") ≡ on_board b w.Address
  pub out : now.value (codes "bus_data") ≡ on_board b w.Out
  pub write : now.value (codes "bus_write") ≡ bit_of (not reset && (on_board b w.MemoryWrite == 1))
  pub kept : Keeps next (cycle_with reset b).kept

-- a name: a small letter, and then small letters, figures and low lines
abbrev pub is_small_letter : ℕ → Bool
is_small_letter c = nat_le 97 c && nat_le c 122

abbrev pub is_name : List ℕ → Bool
is_name [] = false
is_name (c ∷ cs) = is_small_letter c && list_all (λ x. is_small_letter x || (nat_le 48 x && nat_le x 57) || (x == 95)) cs

-- each wire has a name, and no two have the same
pub record Names : Type 0 where
  pub are : (wire : Wire) → is_name (name_of wire) ≡ true
  pub differ : (x y : Wire) → name_of x ≡ name_of y → x ≡ y

-- the printed text is that of the module
abbrev pub Written : Type 0
Written = verilog_text ≡ module_text processor

-- each of its cycles, with a reset or without, is the circuit's
abbrev pub Means : Type 0
Means =
    (now next : Snapshot) (reset : Bool) (b : Board) → FitsBoard b → Shows now reset b → IsCycle processor now next →
    IsBoardCycle now next reset b

-- memory beside the module: of the address that goes out its word comes in the next snapshot, or that there is none, and a word is stored
pub record Answers (now next : Snapshot) (base : ℕ) (before after : List ℕ) : Type 0 where
  pub read : next.value (codes "bus_read") ≡ unwrap_or (word_at base before (now.value (codes "bus_address"))) 0
  pub outside : next.value (codes "bus_outside") ≡ bit_of (not (is_some (word_at base before (now.value (codes "bus_address")))))
  pub stored :
      after
      ≡ (if (now.value (codes "bus_write") == 1) && is_some (word_at base before (now.value (codes "bus_address")))
      then with_word base before (now.value (codes "bus_address")) (now.value (codes "bus_data")) else before)

-- so many cycles of the module without a reset, one after another, with the memory beside it
pub record IsRun (n : ℕ) (at : ℕ → Snapshot) (base : ℕ) (memory : ℕ → List ℕ) : Type 0 where
  pub cycle : (i : ℕ) → i < n → IsCycle processor (at i) (at (suc i))
  pub answers : (i : ℕ) → i < n → Answers (at i) (at (suc i)) base (memory i) (memory (suc i))
  pub reset : (i : ℕ) → i < n → (at (suc i)).value (codes "reset") ≡ 0

-- A number of cycles of the module is that number of cycles of the circuit's board. So what the circuit's laws say of a board that
-- stands for a machine holds of the module beside its memory.
abbrev pub Runs : Type 0
Runs =
    (n : ℕ) (at : ℕ → Snapshot) (memory : ℕ → List ℕ) (b : Board) → FitsBoard b → Shows (at 0) false b → memory 0 ≡ b.memory →
    IsRun n at b.base memory → Shows (at n) false (cycles n b) × (memory n ≡ (cycles n b).memory)

-- And there always is a cycle: a snapshot that shows the board, and one that shows the next, in which there may be a reset or not.
abbrev pub GoesOn : Type 0
GoesOn =
    (reset after : Bool) (b : Board) → FitsBoard b → length b.kept.registers ≡ 9 → length b.kept.file ≡ 16 →
    (now : Snapshot) × (next : Snapshot) × Shows now reset b × IsCycle processor now next × Shows next after (cycle_with reset b)

-- What holds of the placed words.
use Rattle.std.specs.Prelude.{◌≡◌, ℕ, ◌≤◌, List, length, Bool, Ok}
use Rattle.fm_words.specs.WindowLimit.{most_window}
use Rattle.fm_code.specs.Execution as execution
use Rattle.piton_words.specs.{declared.word.Word.{Word}, OperationRows.{are_same}}
use Rattle.piton_check.specs.{Instruction.{Instruction, SystemView}, Sound.{IsSound}}
use Rattle.piton_semantics.specs.{Fits.{IsWordOf}, StateView.{started}, Addresses.{Addresses, word_number}, Templates.{template}}
use Rattle.piton_semantics.specs.{Placed.{instruction_size, final_pc_of, addresses_of, parts_of, placed, loaded}, Stands.{Stands}}
use Rattle.piton_semantics.specs.Stands.{DoesStepsAt}

-- the code of each instruction has the size that addresses count
abbrev pub TemplatesFit : Type 0
TemplatesFit = (A : Addresses) (program place locals : ℕ) (instruction : Instruction) →
    length (template A program place locals instruction) ≡ instruction_size instruction

-- behind the code the machine comes to the final program counter
abbrev pub CodeEnds : Type 0
CodeEnds = (s : SystemView) → execution.final_pc (parts_of s) ≡ final_pc_of s

-- the placed words fill the placed size
abbrev pub PlacedFills : Type 0
PlacedFills = (s : SystemView) → IsSound s → length (placed s).words ≡ (placed s).size

-- words of one tag with one number are the same
abbrev pub NumbersTell : Type 0
NumbersTell = (s : SystemView) (v w : Word) (b : Bool) → IsWordOf s v → IsWordOf s w → are_same v w ≡ Ok b →
    word_number (addresses_of s) v ≡ word_number (addresses_of s) w → v ≡ w

-- the machine with the placed words, and with any initial stack of the system's length, stands for the opening state
abbrev pub OpeningStands : Type 0
OpeningStands = (s : SystemView) (stack : List Word) → IsSound s → length stack ≡ length s.stack →
    Stands s (loaded s stack) (started s stack)

-- in a sound system whose placed size is at most 2^20, the code at each place does its steps
abbrev pub EachPlaceDoesSteps : Type 0
EachPlaceDoesSteps = (s : SystemView) (program place : ℕ) → IsSound s → (placed s).size ≤ most_window → DoesStepsAt s program place

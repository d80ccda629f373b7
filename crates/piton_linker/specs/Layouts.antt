-- What laying out and linking return.
use Rattle.std.specs.Prelude.{◌≡◌, ℕ, zero, ◌+◌, ◌<◌, List, [], ◌∷◌}
use Rattle.fm_words.specs.WindowLimit.{most_window}
use Rattle.piton_linker.specs.{declared.fault.LinkFault.{LinkFault}, declared.fault.LinkFault.TheVariants.{Large, Memory}}
use Rattle.piton_linker.specs.declared.placement.Layout.{Layout}
use Rattle.piton_check.specs.Instruction.{Instruction, ProgramView, SystemView}
use Rattle.piton_semantics.specs.Placed.{placed, final_pc_of, areas_start, ctrl_start, temp_start, end_of, address_of_place}

-- where the parts of a placed system begin
abbrev pub layout_of : SystemView → Layout
layout_of s = record {
  size = (placed s).size;
  final_pc = final_pc_of s;
  areas_start = areas_start s;
  ctrl_start = ctrl_start s;
  temp_start = temp_start s;
  end = end_of s;
}

-- the addresses of instructions of a program, from a place on
abbrev pub places_from : SystemView → ℕ → ℕ → List Instruction → List ℕ
places_from s program place [] = []
places_from s program place (instruction ∷ rest) = address_of_place s program place ∷ places_from s program (place + 1) rest

-- the addresses of the instructions of each program, from one on
abbrev pub places_of : SystemView → ℕ → List ProgramView → List (List ℕ)
places_of s program [] = []
places_of s program (p ∷ ps) = places_from s program 0 p.instructions ∷ places_of s (program + 1) ps

-- words up to the last that isn't zero
abbrev pub before_zeros : ℕ → List ℕ → List ℕ
before_zeros zero [] = []
before_zeros word words = word ∷ words

abbrev pub trimmed : List ℕ → List ℕ
trimmed [] = []
trimmed (word ∷ words) = before_zeros word (trimmed words)

-- why a system is not linked: its words are over 2^20, and that is how many, or memory was refused
abbrev pub IsFaultUnless : Type 0 → SystemView → LinkFault → Type 0
IsFaultUnless refused s (Large words) = (words ≡ (placed s).size) × (most_window < (placed s).size)
IsFaultUnless refused s Memory = refused

-- the same of callers that pass the library's heap, of which nothing says when it refuses
abbrev pub IsFault : SystemView → LinkFault → Type 0
IsFault s fault = IsFaultUnless (Unit {0}) s fault

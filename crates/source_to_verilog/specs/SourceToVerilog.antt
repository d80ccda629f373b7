-- From the bytes of a source to the bytes of the Verilog.
use Rattle.std.specs.Prelude.{◌≡◌, ℕ, suc, ◌*◌, ◌<◌, ◌≤◌, ◌^◌, List, map, length, Ok, codes}
use Rattle.stack_text.specs.Values.{ValueOf}
use Rattle.fm_machine.specs.State.{Fm}
use Rattle.fm_words.specs.Code.{no_flags}
use Rattle.fm_image.specs.{Image.{ImageOf}, Spelling.{Spelled}}
use Rattle.fm_loader.specs.Loaded.{loaded}
use Rattle.fm_circuit.specs.{declared.wire.Wire.{Wire}, Phases.{fetch}, Widths.{width_of}}
use Rattle.fm_circuit.specs.declared.wire.Wire.TheVariants as w
use Rattle.fm_gates.specs.Gates.{file_numbers}
use Rattle.fm_verilog.specs.WireNames.{name_of}
use Rattle.verilog_meaning.specs.{Meaning.{Snapshot}, Laws.{IsRun}}
use Rattle.display_maps.specs.Reading.{ReadingOf, reading}
use Rattle.gypsy_syntax.specs.Sources.{SourceOf}
use Rattle.gypsy_space.specs.Needs.{StackSizes, stack_sizes}
use Rattle.gypsy_semantics.specs.Calls.{CurrentCondition}
use Rattle.stack_build.specs.{Implements.{FitsFormals, Finishes, Implements, meaning_shown}, Build.{BuiltOf, accepted_source, built}}
use Rattle.board_images.specs.OnBoard.{cycles_to}

-- The power is on, and the reset is high. The register file and the memory beside the module have a machine's words. Each other value is
-- whatever it is, of its width.
pub record PowersUp (now : Snapshot) (memory : List ℕ) (s : Fm) : Type 0 where
  pub reset : now.value (codes "reset") ≡ 1
  pub file : map (now.word (codes "file")) file_numbers ≡ s.registers
  pub memory_words : memory ≡ s.memory
  pub bits : (wire : Wire) → now.value (name_of wire) < 2 ^ width_of wire
  pub read : now.value (codes "bus_read") < 2 ^ 32
  pub outside : now.value (codes "bus_outside") < 2

-- the module is about to fetch at this address
pub record FetchesAt (pc : ℕ) (now : Snapshot) : Type 0 where
  pub phase : now.value (name_of w.Phase) ≡ fetch
  pub at : now.word (codes "file") 15 ≡ pc

-- After a cycle with a reset and those of so many instructions, at most eight for each, the module is about to fetch at the end of an
-- image, and after none of the cycles between was it so. Its register file and the memory beside it are a machine's, which is read as this.
pub record ComesInVerilog (at : ℕ → Snapshot) (memory : ℕ → List ℕ) (image : ImageOf) (values : List ValueOf) (count : ℕ)
    (read : ReadingOf) : Type 0 where
  pub there : FetchesAt image.final_pc (at (suc (cycles_to image values count)))
  pub few : cycles_to image values count ≤ 8 * count
  pub before : (j : ℕ) → j < cycles_to image values count → ¬ (FetchesAt image.final_pc (at (suc j)))
  pub state : Fm
  pub registers : map ((at (suc (cycles_to image values count))).word (codes "file")) file_numbers ≡ state.registers
  pub memory_words : memory (suc (cycles_to image values count)) ≡ state.memory
  pub reads : reading image state ≡ read

-- Of each image that a file spells, which sets no flag and implements a source: where the source's meaning on values is done after so many
-- instructions, so does each run of the module from such a state, with the image and the values in the memory beside it. Nothing of the
-- compiler is in what this rests on.
abbrev pub ImageRunsInVerilog : Type 0
ImageRunsInVerilog =
    (bytes : List ℕ) (image : ImageOf) (source : SourceOf) (sizes : StackSizes) (values finals : List ValueOf) (way : CurrentCondition)
    (count : ℕ) (at : ℕ → Snapshot) (memory : ℕ → List ℕ) →
    Spelled bytes image → image.flags ≡ no_flags → Implements image source sizes →
    FitsFormals source values → Finishes source sizes values finals way count →
    PowersUp (at 0) (memory 0) (loaded image values) →
    IsRun (suc (cycles_to image values count)) at image.base memory →
    ComesInVerilog at memory image values count (meaning_shown source finals way)

-- So it is of the image that is built of a text which has an accepted source.
abbrev pub TextRunsInVerilog : Type 0
TextRunsInVerilog =
    (text : List ℕ) (ctrl temp base : ℕ) (source : SourceOf) (made : BuiltOf) (values finals : List ValueOf) (way : CurrentCondition)
    (count : ℕ) (at : ℕ → Snapshot) (memory : ℕ → List ℕ) → length text ≤ 2 ^ 31 → base ≤ 2 ^ 31 →
    accepted_source text ≡ Ok source → built text ctrl temp base ≡ Ok made →
    FitsFormals source values → Finishes source (stack_sizes ctrl temp) values finals way count →
    PowersUp (at 0) (memory 0) (loaded made.image values) →
    IsRun (suc (cycles_to made.image values count)) at made.image.base memory →
    ComesInVerilog at memory made.image values count (meaning_shown source finals way)

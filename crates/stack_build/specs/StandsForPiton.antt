-- That the processor stands for Piton's machine at every step of it, also between two moments of the source.
use Rattle.std.specs.Prelude.{◌≡◌, ◌≤◌, ℕ, List, Ok}
use Rattle.fm_words.specs.WindowLimit.{most_window}
use Rattle.stack_text.specs.Values.{ValueOf}
use Rattle.fm_image.specs.Image.{ImageOf}
use Rattle.fm_loader.specs.Loaded.{loaded}
use Rattle.piton_check.specs.Instruction.{SystemView}
use Rattle.piton_semantics.specs.{Placed.{placed}, StateView.{started}, State.{PitonState}, Step.{piton_run, run_cost}}
use Rattle.piton_linker.specs.Theorem.{ComesToStand}
use Rattle.gypsy_check.specs.Accepted.{IsAccepted}
use Rattle.gypsy_codegen.specs.{Acceptable.{LimitsFit}, Generated.{generated_view}, WordsOf.{words_of_values}}
use Rattle.gypsy_semantics.specs.Calls.{main_start}
use Rattle.gypsy_space.specs.Needs.{StackSizes}
use Rattle.gypsy_syntax.specs.{Resolved.{program_of}, Sources.{SourceOf}}
use Rattle.stack_build.specs.{Image.{image_of}, Implements.{FitsFormals}}

-- the system before its first step, with the words of main's variables on its stack
abbrev pub opened_on : SystemView → SourceOf → List ValueOf → PitonState
opened_on system source values = started system (words_of_values (main_start (program_of source) values))

-- On all values that fit, wherever the system comes in so many steps, the machine that is loaded with the image and the values comes to
-- stand for it, in the instructions that these steps cost: each area, each stack and each frame lies in memory as it then is.
abbrev pub StandsForPiton : ImageOf → SystemView → SourceOf → Type 0
StandsForPiton image system source =
    (values : List ValueOf) (j : ℕ) (state : PitonState) → FitsFormals source values →
    piton_run system j (opened_on system source values) ≡ Ok state →
    ComesToStand system (loaded image values) (run_cost system j (opened_on system source values)) state

-- So it is of the image of each accepted source, within the limits, and of its generated system.
abbrev pub GeneratedImageStandsForPiton : Type 0
GeneratedImageStandsForPiton =
    (source : SourceOf) (sizes : StackSizes) (base : ℕ) → IsAccepted source → LimitsFit (program_of source) sizes base →
    (placed (generated_view (program_of source) sizes base)).size ≤ most_window →
    StandsForPiton (image_of source sizes base) (generated_view (program_of source) sizes base) source

-- What it is for an image to do on a board what a source means.
use Rattle.std.specs.Prelude.{◌≡◌, ℕ, ◌*◌, ◌<◌, ◌≤◌, ◌^◌, List, length, Ok}
use Rattle.stack_text.specs.Values.{ValueOf}
use Rattle.fm_machine.specs.State.{Fm}
use Rattle.fm_image.specs.{Image.{ImageOf}, Spelling.{Spelled}}
use Rattle.fm_loader.specs.Loaded.{loaded}
use Rattle.fm_circuit.specs.{Board.{Board, cycles}, Following.{StandsFor, IsAt, run_cycles}}
use Rattle.display_maps.specs.Reading.{ReadingOf, reading}
use Rattle.gypsy_syntax.specs.{Sources.{SourceOf}, Resolved.{program_of}}
use Rattle.gypsy_space.specs.Needs.{StackSizes, stack_sizes}
use Rattle.gypsy_semantics.specs.{Calls.{CurrentCondition}, Machine.{Item, Frame, At, Move, Next, Ended}, Meaning.{Done}}
use Rattle.gypsy_semantics.specs.Views.Moments.{NeverEnds}
use Rattle.gypsy_codegen.specs.Moments.{moment_from}
use Rattle.stack_build.specs.{Implements.{FitsFormals, Finishes, Implements, meaning_shown}, Moments.{MemoryReads, KeepsMoments}}
use Rattle.stack_build.specs.{StaysUnfinished.{StaysUnfinished}, Build.{BuiltOf, accepted_source, built}}
use Rattle.mini_syntax.specs.{Breaches.{body_of}, Grammar.{InfixProgram}}
use Rattle.mini_gypsy.specs.{Meant.{program_run}, Stored.{MeansAlways}}

-- 1. What a board comes to.

-- the cycles of so many instructions of the image, loaded with these values
abbrev pub cycles_to : ImageOf → List ValueOf → ℕ → ℕ
cycles_to image values count = run_cycles count (loaded image values)

-- After the cycles of so many instructions, at most eight for each, the board stands for a machine. Before that it was never at the image's
-- final program counter.
pub record StandsAfter (b : Board) (image : ImageOf) (values : List ValueOf) (count : ℕ) (state : Fm) : Type 0 where
  pub there : StandsFor (cycles (cycles_to image values count) b) state
  pub few : cycles_to image values count ≤ 8 * count
  pub before : (j : ℕ) → j < cycles_to image values count → ¬ (IsAt image.final_pc (cycles j b))

-- there it is at the image's final program counter, and its memory is read as this
pub record ComesOnBoard (b : Board) (image : ImageOf) (values : List ValueOf) (count : ℕ) (read : ReadingOf) : Type 0 where
  pub state : Fm
  pub stands : StandsAfter b image values count state
  pub at : IsAt image.final_pc (cycles (cycles_to image values count) b)
  pub reads : reading image state ≡ read

-- there it is at the mark of what comes next, not yet at the final program counter, and its memory reads as this moment of the source
pub record MarkedOnBoard (b : Board) (source : SourceOf) (sizes : StackSizes) (image : ImageOf) (values : List ValueOf) (p : ℕ)
    (x : List ValueOf) (w : List Item) (fs : List Frame) (count : ℕ) : Type 0 where
  pub state : Fm
  pub stands : StandsAfter b image values count state
  pub goes_on : ¬ (IsAt image.final_pc (cycles (cycles_to image values count) b))
  pub reads : MemoryReads (program_of source) sizes image state p x w fs

-- what the board comes to, where the source's step machine stands so
abbrev pub ArrivesOnBoard : Board → SourceOf → StackSizes → ImageOf → List ValueOf → Move → Type 0
ArrivesOnBoard b source sizes image values (Next (At p x w fs t)) = MarkedOnBoard b source sizes image values p x w fs t.count
ArrivesOnBoard b source sizes image values (Ended x c t) = ComesOnBoard b image values t.count (meaning_shown source x c)

-- 2. What an image does on each board that stands for the machine which is loaded with it and values that fit main's formals.

-- where the meaning is done, the board comes to the end in the cycles of the counted instructions, and memory shows the meaning there
abbrev pub RunsOnBoard : ImageOf → SourceOf → StackSizes → Type 0
RunsOnBoard image source sizes =
    (values finals : List ValueOf) (way : CurrentCondition) (count : ℕ) (b : Board) → FitsFormals source values →
    Finishes source sizes values finals way count → StandsFor b (loaded image values) →
    ComesOnBoard b image values count (meaning_shown source finals way)

-- after each number of the source's steps it comes to what they lead to
abbrev pub KeepsMomentsOnBoard : ImageOf → SourceOf → StackSizes → Type 0
KeepsMomentsOnBoard image source sizes =
    (values : List ValueOf) (k : ℕ) (b : Board) → FitsFormals source values → StandsFor b (loaded image values) →
    ArrivesOnBoard b source sizes image values (moment_from (program_of source) sizes values k)

-- where the source never ends, it never comes to the end
abbrev pub StaysUnfinishedOnBoard : ImageOf → SourceOf → StackSizes → Type 0
StaysUnfinishedOnBoard image source sizes =
    (values : List ValueOf) (b : Board) (j : ℕ) → FitsFormals source values → NeverEnds (program_of source) sizes values →
    StandsFor b (loaded image values) → ¬ (IsAt image.final_pc (cycles j b))

-- where the run of an infix program is done, it comes to the end, and memory shows how the run ended
abbrev pub CarriesRunsOnBoard : ImageOf → SourceOf → InfixProgram → Type 0
CarriesRunsOnBoard image source program =
    (values finals : List ValueOf) (way : CurrentCondition) (bound : ℕ) (b : Board) → FitsFormals source values →
    program_run (body_of program) values bound ≡ Done finals way → StandsFor b (loaded image values) →
    (count : ℕ) × ComesOnBoard b image values count (meaning_shown source finals way)

-- 3. The laws.

-- Of each image that a file spells: where it implements a source, it does so on a board; where it keeps to the source at every moment, it
-- does so there; where it is unfinished while the source never ends, the board never comes to the end; and where it implements a source
-- that means what an infix program does, it carries the program's runs there.
pub record OnBoard (image : ImageOf) (source : SourceOf) (sizes : StackSizes) : Type 0 where
  pub runs : Implements image source sizes → RunsOnBoard image source sizes
  pub moments : KeepsMoments image source sizes → KeepsMomentsOnBoard image source sizes
  pub unfinished : StaysUnfinished image source sizes → StaysUnfinishedOnBoard image source sizes
  pub carries : Implements image source sizes → (program : InfixProgram) → MeansAlways (program_of source) (body_of program) →
      CarriesRunsOnBoard image source program

abbrev pub SpelledOnBoard : Type 0
SpelledOnBoard =
    (bytes : List ℕ) (image : ImageOf) (source : SourceOf) (sizes : StackSizes) → Spelled bytes image → OnBoard image source sizes

-- what is built of a text does on a board what its source means, at every moment too, and never ends where the source doesn't
abbrev pub BuiltRunsOnBoard : Type 0
BuiltRunsOnBoard = (text : List ℕ) (ctrl temp base : ℕ) (source : SourceOf) (made : BuiltOf) → length text ≤ 2 ^ 31 → base ≤ 2 ^ 31 →
    accepted_source text ≡ Ok source → built text ctrl temp base ≡ Ok made →
    RunsOnBoard made.image source (stack_sizes ctrl temp) × KeepsMomentsOnBoard made.image source (stack_sizes ctrl temp)
    × StaysUnfinishedOnBoard made.image source (stack_sizes ctrl temp)

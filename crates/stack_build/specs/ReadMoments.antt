-- Every moment of a run of the source, as memory is read by the image alone.
use Rattle.std.specs.Prelude.{◌≡◌, ◌≢◌, ◌≤◌, ℕ, List, Some, Ok, IsOk, IsTrue}
use Rattle.stack_text.specs.Values.{ValueOf}
use Rattle.fm_machine.specs.{State.{Fm}, Run.{fm_run, pc_of}}
use Rattle.fm_image.specs.Image.{ImageOf}
use Rattle.fm_loader.specs.Loaded.{loaded}
use Rattle.display_maps.specs.ReadingAt.{reading_at}
use Rattle.gypsy_syntax.specs.{Sources.{SourceOf}, Resolved.{program_of}}
use Rattle.gypsy_space.specs.Needs.{StackSizes}
use Rattle.gypsy_semantics.specs.{Machine.{State, Move, Next, Ended}, Views.Moments.{moment_from}, Views.RunView.{spent_at}}
use Rattle.gypsy_check.specs.Accepted.{IsAccepted}
use Rattle.stack_build.specs.{Image.{image_of, places_fit}, Implements.{FitsFormals, meaning_shown}, ComesTo.{ComesTo}}
use Rattle.stack_build.specs.{Moments.{KeepsMoments}, SourceMoments.{moment_shown}}

-- after exactly the counted instructions, each of them inside the window and none at the final program counter, memory says this state
pub record SaysState (source : SourceOf) (image : ImageOf) (values : List ValueOf) (g : State) : Type 0 where
  pub state : Fm
  pub reached : fm_run (spent_at g) (loaded image values) ≡ Ok state
  pub inside : (i : ℕ) → i ≤ spent_at g → IsOk (fm_run i (loaded image values))
  pub goes_on : (i : ℕ) (t : Fm) → i ≤ spent_at g → fm_run i (loaded image values) ≡ Ok t → pc_of t ≢ image.final_pc
  pub says : reading_at image state ≡ Some (moment_shown source g)

abbrev pub SaysMove : SourceOf → ImageOf → List ValueOf → Move → Type 0
SaysMove source image values (Next g) = SaysState source image values g
SaysMove source image values (Ended x c t) = ComesTo image values t.count (meaning_shown source x c)

abbrev pub SaysMoments : ImageOf → SourceOf → StackSizes → Type 0
SaysMoments image source sizes =
    (values : List ValueOf) (j : ℕ) → FitsFormals source values →
    SaysMove source image values (moment_from (program_of source) sizes values j)

-- So it is of the image of each accepted source that keeps to it at every moment, where an image file has room for its places.
abbrev pub KeptMomentsAreSaid : Type 0
KeptMomentsAreSaid =
    (source : SourceOf) (sizes : StackSizes) (base : ℕ) → IsAccepted source → IsTrue (places_fit (program_of source)) →
    KeepsMoments (image_of source sizes base) source sizes → SaysMoments (image_of source sizes base) source sizes

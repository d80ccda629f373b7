-- Every moment of a run with all activations, as the processor's memory has them: a back-trace.
use Rattle.std.specs.Prelude.{◌≡◌, ◌≢◌, ◌≤◌, ℕ, ◌+◌, ℤ, List, [], ◌∷◌, Some, Ok, slice_get, slice_index}
use Rattle.fm_words.specs.{WindowLimit.{most_window}, Word.{word_of_int}}
use Rattle.stack_text.specs.{declared.shape.Shape.{Shape}, Values.{ValueOf}}
use Rattle.fm_machine.specs.{State.{Fm}, Run.{fm_run}}
use Rattle.fm_image.specs.Image.{ImageOf}
use Rattle.fm_loader.specs.Loaded.{loaded}
use Rattle.display_maps.specs.{Reading.{word_in}, ReadingAt.{word_below}}
use Rattle.piton_semantics.specs.Placed.{placed}
use Rattle.gypsy_syntax.specs.{Programs.{Program, proc_at, shapes_of}, Effects.{value_at}, Resolved.{program_of}, Sources.{SourceOf}}
use Rattle.gypsy_check.specs.Accepted.{IsAccepted}
use Rattle.gypsy_space.specs.Needs.{StackSizes, vars_of}
use Rattle.gypsy_semantics.specs.{Machine.{Frame, Held, Move, At, Next, Ended}, Views.RunView.{handed_back}}
use Rattle.gypsy_codegen.specs.{Acceptable.{LimitsFit}, Generated.{offset, generated_view}, Moments.{moment_from}}
use Rattle.stack_build.specs.{Image.{image_of}, Implements.{FitsFormals}}

-- the frame at an address has the index of variable b, and item h of its value is the word that lies the index and h below the
-- window's last
pub record HoldsIn (q : Program) (image : ImageOf) (m : Fm) (frame p b : ℕ) (v : ValueOf) : Type 0 where
  pub index : ℕ
  pub local : word_in m (frame + offset q p b) ≡ Some index
  pub items : (h : ℕ) (item : ℤ) → slice_get v.items h ≡ Some item → word_below image m (index + h) ≡ Some (word_of_int item)

-- so it is of each variable of procedure p
abbrev pub HoldsAll : Program → ImageOf → Fm → ℕ → ℕ → List ValueOf → Type 0
HoldsAll q image m frame p y =
    (b : ℕ) (shape : Shape) → slice_get (shapes_of (proc_at q p)) b ≡ Some shape → HoldsIn q image m frame p b (value_at y b)

-- From this address on the frames of all activations, each with its variables: behind those of each one lies the address of the next
-- older frame, and behind those of the oldest one lies 0.
abbrev pub HoldsTrace : Program → ImageOf → Fm → ℕ → ℕ → List ValueOf → List Frame → Type 0
HoldsTrace q image m frame p y [] = HoldsAll q image m frame p y × (word_in m (frame + vars_of (proc_at q p)) ≡ Some 0)
HoldsTrace q image m frame p y (Held c x w xs cs ∷ fs) =
    HoldsAll q image m frame p y
    × ((older : ℕ) × (older ≢ 0) × (word_in m (frame + vars_of (proc_at q p)) ≡ Some older) × HoldsTrace q image m older c x fs)

-- After exactly the counted instructions memory has, from the frame at r0 on, all activations: each that waits with the variables that
-- it would get back now.
pub record HoldsMoment (q : Program) (image : ImageOf) (values : List ValueOf) (p : ℕ) (x : List ValueOf) (fs : List Frame)
    (count : ℕ) : Type 0 where
  pub state : Fm
  pub reached : fm_run count (loaded image values) ≡ Ok state
  pub trace : HoldsTrace q image state (slice_index state.registers 0) p x (handed_back x fs)

abbrev pub TracesAt : Program → ImageOf → List ValueOf → Move → Type 0
TracesAt q image values (Next (At p x w fs t)) = HoldsMoment q image values p x fs t.count
TracesAt q image values (Ended x c t) = Unit {0}

-- on all values that fit main's formals, and after each number of steps
abbrev pub KeepsTraces : ImageOf → SourceOf → StackSizes → Type 0
KeepsTraces image source sizes =
    (values : List ValueOf) (j : ℕ) → FitsFormals source values →
    TracesAt (program_of source) image values (moment_from (program_of source) sizes values j)

-- So does the image of each accepted source, within the limits.
abbrev pub GeneratedImageKeepsTraces : Type 0
GeneratedImageKeepsTraces =
    (source : SourceOf) (sizes : StackSizes) (base : ℕ) → IsAccepted source → LimitsFit (program_of source) sizes base →
    (placed (generated_view (program_of source) sizes base)).size ≤ most_window → KeepsTraces (image_of source sizes base) source sizes

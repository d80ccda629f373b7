-- Every moment of a run of the source, as the processor's memory has it.
use Rattle.std.specs.{Prelude.{◌≡◌, ◌≢◌, ℕ, ◌+◌, ◌≤◌, ℤ, List, [], ◌∷◌, Some, Ok, IsOk, slice_get, slice_index}, Option.{option_map}}
use Rattle.stack_text.specs.{declared.shape.Shape.{Shape}, Values.{ValueOf}}
use Rattle.fm_words.specs.Word.{word_of_int}
use Rattle.fm_machine.specs.{State.{Fm}, Run.{fm_run, pc_of}}
use Rattle.fm_image.specs.Image.{ImageOf}
use Rattle.fm_loader.specs.Loaded.{loaded}
use Rattle.display_maps.specs.{Reading.{word_in}, ReadingAt.{word_below, word_from_frame}}
use Rattle.piton_semantics.specs.Placed.{address_of_place}
use Rattle.gypsy_syntax.specs.{Programs.{Program, proc_at, shapes_of}, Effects.{value_at}, Resolved.{program_of}, Sources.{SourceOf}}
use Rattle.gypsy_space.specs.Needs.{StackSizes, vars_of}
use Rattle.gypsy_semantics.specs.{Machine.{Item, Frame, Held, At, Move, Next, Ended}, Calls.{CurrentCondition}, Views.RunView.{top_way}}
use Rattle.gypsy_codegen.specs.{WordsOf.{number_of_way}, Generated.{offset, generated_view}, Showing.{mark_of}, Moments.{moment_from}}
use Rattle.stack_build.specs.{Implements.{FitsFormals, meaning_shown}, ComesTo.{ComesTo}}

-- the frame at r0 has the index of variable b, and item h of its value is the word that lies the index and h below the window's last
pub record HoldsVariable (q : Program) (image : ImageOf) (m : Fm) (p b : ℕ) (v : ValueOf) : Type 0 where
  pub index : ℕ
  pub local : word_from_frame m (offset q p b) ≡ Some index
  pub items : (h : ℕ) (item : ℤ) → slice_get v.items h ≡ Some item → word_below image m (index + h) ≡ Some (word_of_int item)

-- From this address on the frames of activations: behind the indices of each one's variables lies the address of the next older
-- frame, and behind those of the oldest one's lies 0. So there are as many frames as activations.
abbrev pub HoldsFrames : Program → Fm → ℕ → ℕ → List Frame → Type 0
HoldsFrames q m frame p [] = word_in m (frame + vars_of (proc_at q p)) ≡ Some 0
HoldsFrames q m frame p (Held c x w xs cs ∷ fs) =
    (older : ℕ) × (older ≢ 0) × (word_in m (frame + vars_of (proc_at q p)) ≡ Some older) × HoldsFrames q m older c fs

-- The program counter is at the mark of the top item, and memory reads as the activation on top: procedure p with these variables.
-- The word at the condition's address is the number of the condition that is on its way out, and else that of the normal one.
pub record MemoryReads (q : Program) (sizes : StackSizes) (image : ImageOf) (m : Fm) (p : ℕ) (x : List ValueOf) (w : List Item)
    (fs : List Frame) : Type 0 where
  pub mark : pc_of m ≡ address_of_place (generated_view q sizes image.base) p (mark_of q p w)
  pub condition : option_map (word_in m) image.condition_address ≡ Some (Some (number_of_way (top_way w)))
  pub frames : HoldsFrames q m (slice_index m.registers 0) p fs
  pub variables : (b : ℕ) (shape : Shape) → slice_get (shapes_of (proc_at q p)) b ≡ Some shape → HoldsVariable q image m p b (value_at x b)

-- After exactly the counted instructions, each of them inside the window, the machine is at a mark and reads so. At no count up to
-- this one was it at the final program counter.
pub record ArrivesAtMark (source : SourceOf) (sizes : StackSizes) (image : ImageOf) (values : List ValueOf) (p : ℕ) (x : List ValueOf)
    (w : List Item) (fs : List Frame) (count : ℕ) : Type 0 where
  pub state : Fm
  pub reached : fm_run count (loaded image values) ≡ Ok state
  pub inside : (i : ℕ) → i ≤ count → IsOk (fm_run i (loaded image values))
  pub goes_on : (i : ℕ) (t : Fm) → i ≤ count → fm_run i (loaded image values) ≡ Ok t → pc_of t ≢ image.final_pc
  pub reads : MemoryReads (program_of source) sizes image state p x w fs

-- after exactly the counted instructions, each of them inside the window, the machine first comes to the final program counter, where
-- memory is read as main's formals and the condition
pub record ArrivesAtEnd (source : SourceOf) (image : ImageOf) (values finals : List ValueOf) (way : CurrentCondition)
    (count : ℕ) : Type 0 where
  pub inside : (i : ℕ) → i ≤ count → IsOk (fm_run i (loaded image values))
  pub comes : ComesTo image values count (meaning_shown source finals way)

-- what the machine that is loaded with the values comes to, where the step machine stands so
abbrev pub ArrivesAt : SourceOf → StackSizes → ImageOf → List ValueOf → Move → Type 0
ArrivesAt source sizes image values (Next (At p x w fs t)) = ArrivesAtMark source sizes image values p x w fs t.count
ArrivesAt source sizes image values (Ended x c t) = ArrivesAtEnd source image values x c t.count

-- The image keeps to the source at every moment: on all values that fit main's formals, and after each number of steps.
abbrev pub KeepsMoments : ImageOf → SourceOf → StackSizes → Type 0
KeepsMoments image source sizes =
    (values : List ValueOf) (j : ℕ) → FitsFormals source values →
    ArrivesAt source sizes image values (moment_from (program_of source) sizes values j)

-- What a run of a source's image says at each mark.
use Rattle.std.specs.Prelude.{◌≡◌, ℕ, ◌+◌, ℤ, List, [], ◌∷◌, get_or, slice_get, IsTrue, Some}
use Rattle.stack_text.specs.{declared.shape.Shape.{Shape}, Values.{ValueOf}}
use Rattle.fm_words.specs.Word.{word_of_int}
use Rattle.fm_machine.specs.State.{Fm}
use Rattle.fm_image.specs.Image.{ImageOf}
use Rattle.display_maps.specs.ReadingAt.{StandingOf, ItemsOf, ReadingAtOf, condition_word, read_from, reading_at}
use Rattle.display_maps.specs.ValueReading.{value_shown}
use Rattle.piton_semantics.specs.Placed.{address_of_place}
use Rattle.gypsy_syntax.specs.{Programs.{Program, proc_at, shapes_of}, Effects.{value_at}, Resolved.{procedure_names, program_of}}
use Rattle.gypsy_syntax.specs.Sources.{SourceOf}
use Rattle.gypsy_check.specs.Accepted.{IsAccepted}
use Rattle.gypsy_space.specs.Needs.{StackSizes}
use Rattle.gypsy_semantics.specs.{Machine.{Item, State, At, Next, place_of}, Views.RunView.{top_way}, Views.Shown.{conditions_at}}
use Rattle.gypsy_semantics.specs.Views.Shown.{variables_at}
use Rattle.gypsy_codegen.specs.{WordsOf.{number_of_way}, Generated.{offset, generated_view}, Showing.{mark_of}, Moments.{moment_from}}
use Rattle.stack_build.specs.{Image.{image_of, places_fit}, Implements.{FitsFormals, way_shown}, Moments.{MemoryReads}}

-- 1. A run that shows a state of the step machine.

-- the frame has an index at the variable's offset, and from there on the words of its items are read
pub record ShowsVariable (run : StandingOf) (offset : ℕ) (v : ValueOf) : Type 0 where
  pub index : ℕ
  pub local : run.local offset ≡ Some index
  pub items : (h : ℕ) (item : ℤ) → slice_get v.items h ≡ Some item → run.below (index + h) ≡ Some (word_of_int item)

-- It stands at the mark of the top item, the condition word is the number of the condition that is on its way out, and else that of
-- the normal one, and the variables are those of the activation on top.
pub record ShowsMoment (q : Program) (sizes : StackSizes) (image : ImageOf) (run : StandingOf) (p : ℕ) (x : List ValueOf) (w : List Item) :
    Type 0 where
  pub mark : run.address ≡ address_of_place (generated_view q sizes image.base) p (mark_of q p w)
  pub condition : condition_word run image.condition_address ≡ Some (number_of_way (top_way w))
  pub variables : (b : ℕ) (shape : Shape) → slice_get (shapes_of (proc_at q p)) b ≡ Some shape →
      ShowsVariable run (offset q p b) (value_at x b)

abbrev pub ShowsState : SourceOf → StackSizes → ImageOf → StandingOf → State → Type 0
ShowsState source sizes image run (At p x w fs t) = ShowsMoment (program_of source) sizes image run p x w

-- 2. What it says there.

-- variables with these values
abbrev pub variables_shown : List (List ℕ) → List ValueOf → List ItemsOf
variables_shown [] x = []
variables_shown (name ∷ names) [] = []
variables_shown (name ∷ names) (v ∷ x) = (name, v.shape, value_shown v) ∷ variables_shown names x

-- the active procedure, the place of the top item, the condition, and the variables
abbrev pub moment_shown : SourceOf → State → ReadingAtOf
moment_shown source (At p x w fs t) = record {
  procedure = get_or (procedure_names source) p [];
  place = place_of (program_of source) (At p x w fs t);
  condition = way_shown (conditions_at source p) (top_way w);
  items = variables_shown (variables_at source p) x;
}

-- Where a run of the image shows a state to which the step machine comes, what is read is that state.
abbrev pub ShownMomentsAreRead : Type 0
ShownMomentsAreRead =
    (source : SourceOf) (sizes : StackSizes) (base j : ℕ) (values : List ValueOf) (run : StandingOf) (g : State) → IsAccepted source →
    IsTrue (places_fit (program_of source)) → FitsFormals source values → moment_from (program_of source) sizes values j ≡ Next g →
    ShowsState source sizes (image_of source sizes base) run g →
    read_from (image_of source sizes base) run ≡ Some (moment_shown source g)

-- the machine's counter and memory read as this state
abbrev pub IsAtMoment : SourceOf → StackSizes → ℕ → Fm → State → Type 0
IsAtMoment source sizes base m (At p x w fs t) = MemoryReads (program_of source) sizes (image_of source sizes base) m p x w fs

-- At each mark to which the machine comes with a state of the step machine, memory is read as that state.
abbrev pub MomentsAreRead : Type 0
MomentsAreRead =
    (source : SourceOf) (sizes : StackSizes) (base j : ℕ) (values : List ValueOf) (m : Fm) (g : State) → IsAccepted source →
    IsTrue (places_fit (program_of source)) → FitsFormals source values →
    moment_from (program_of source) sizes values j ≡ Next g → IsAtMoment source sizes base m g →
    reading_at (image_of source sizes base) m ≡ Some (moment_shown source g)

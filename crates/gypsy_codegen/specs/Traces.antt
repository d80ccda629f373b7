-- Every moment with all its activations: those that wait, too, each with the variables that it would get back now.
use Rattle.std.specs.Prelude.{◌≡◌, ℕ, List, [], ◌∷◌, length, Some, slice_get}
use Rattle.stack_text.specs.{declared.shape.Shape.{Shape}, Values.{ValueOf}}
use Rattle.piton_words.specs.{declared.word.Word.{Word}, declared.word.Word.TheVariants.{Nat}}
use Rattle.piton_check.specs.Instruction.{SystemView}
use Rattle.piton_semantics.specs.State as piton
use Rattle.piton_semantics.specs.{State.{PitonState}, Law.{Steps}}
use Rattle.gypsy_syntax.specs.{Programs.{Program, proc_at, shapes_of}, ProgramFits.{ProgramFits}, Effects.{value_at}, ValuesFit.{VarsFit}}
use Rattle.gypsy_space.specs.{Costs.{Tally}, Needs.{StackSizes, vars_of}}
use Rattle.gypsy_semantics.specs.{Machine.{Frame, Held, Move, At, Next, Ended}, Views.RunView.{handed_back}}
use Rattle.gypsy_predef.specs.Runs.{Holds, words_of_value}
use Rattle.gypsy_codegen.specs.{Generated.{offset, generated_view}, Moments.{moment_from}, Whole.{SizesFit, opened}}

-- the frame has the index of variable b, and the elements of the stack from there on are the words of the value's items
pub record StandsIn (q : Program) (stack : List Word) (frame : piton.Frame) (p b : ℕ) (v : ValueOf) : Type 0 where
  pub index : ℕ
  pub local : slice_get frame.locals (offset q p b) ≡ Some (Nat index)
  pub words : Holds stack index (words_of_value v)

-- the frame of an activation of procedure p with these variables
pub record FrameStands (q : Program) (stack : List Word) (frame : piton.Frame) (p : ℕ) (y : List ValueOf) : Type 0 where
  pub fits : VarsFit (shapes_of (proc_at q p)) y
  pub number : length frame.locals ≡ vars_of (proc_at q p)
  pub variables : (b : ℕ) (shape : Shape) → slice_get (shapes_of (proc_at q p)) b ≡ Some shape → StandsIn q stack frame p b (value_at y b)

-- the frames, the newest first: one for each activation and no more
abbrev pub FramesStand : Program → List Word → ℕ → List ValueOf → List Frame → List piton.Frame → Type 0
FramesStand q stack p y [] [] = ⊥
FramesStand q stack p y [] (f ∷ []) = FrameStands q stack f p y
FramesStand q stack p y [] (f ∷ g ∷ frames) = ⊥
FramesStand q stack p y (Held c x w xs cs ∷ fs) [] = ⊥
FramesStand q stack p y (Held c x w xs cs ∷ fs) (f ∷ frames) = FrameStands q stack f p y × FramesStand q stack c x fs frames

-- after exactly the counted steps, at the counted cost and none of them an error, it comes to a state whose frames are those of all
-- activations
pub record ComesToFrames (q : Program) (s : SystemView) (a : PitonState) (p : ℕ) (x : List ValueOf) (fs : List Frame)
    (t : Tally) : Type 0 where
  pub to : PitonState
  pub runs : Steps s t.steps t.count a to
  pub frames : FramesStand q to.stack p x (handed_back x fs) to.frames

abbrev pub HasFrames : Program → SystemView → PitonState → Move → Type 0
HasFrames q s a (Next (At p x w fs t)) = ComesToFrames q s a p x fs t
HasFrames q s a (Ended x c t) = Unit {0}

-- So it is at every moment of the step machine.
abbrev pub EachMomentHasFrames : Type 0
EachMomentHasFrames = (q : Program) (sizes : StackSizes) (base : ℕ) (v : List ValueOf) (j : ℕ) → ProgramFits q → SizesFit q sizes →
    VarsFit (proc_at q q.main).formals v →
    HasFrames q (generated_view q sizes base) (opened q sizes base v) (moment_from q sizes v j)

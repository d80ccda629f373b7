-- Every moment of a run: where the step machine stands after so many steps, and what the generated system has there.
use Rattle.std.specs.Prelude.{◌≡◌, ℕ, ◌<◌, ◌≤◌, List, [], ◌∷◌, length, Some, slice_get}
use Rattle.stack_text.specs.{declared.shape.Shape.{Shape}, Values.{ValueOf}}
use Rattle.piton_words.specs.declared.word.Word.TheVariants.{Nat}
use Rattle.piton_check.specs.Instruction.{SystemView}
use Rattle.piton_semantics.specs.State as piton
use Rattle.piton_semantics.specs.{State.{PitonState, locals_of}, Law.{Steps}}
use Rattle.gypsy_syntax.specs.{Programs.{Program, proc_at, shapes_of}, ProgramFits.{ProgramFits}, Effects.{value_at}, ValuesFit.{VarsFit}}
use Rattle.gypsy_space.specs.{Costs.{Tally}, Needs.{StackSizes, vars_of}}
use Rattle.gypsy_semantics.specs.{Machine.{Item, Frame, Held, State, At, Move, Next, Ended, gypsy_step}, Views.RunView.{spent_at, top_way}}
pub use Rattle.gypsy_semantics.specs.Views.Moments.{moment, moment_from, moved_on}
use Rattle.gypsy_predef.specs.Runs.{Holds, words_of_value}
use Rattle.gypsy_codegen.specs.{WordsOf.{number_of_way}, Generated.{offset, generated_view}, Showing.{mark_of}, Whole.{SizesFit, RunsTo}}
use Rattle.gypsy_codegen.specs.Whole.{opened}

-- 1. The generated system.

-- the frames, the newest first: one for each activation and no more, each with a local for each variable of its procedure
abbrev pub AreActivations : Program → ℕ → List Frame → List piton.Frame → Type 0
AreActivations q p [] [] = ⊥
AreActivations q p [] (f ∷ []) = length f.locals ≡ vars_of (proc_at q p)
AreActivations q p [] (f ∷ g ∷ frames) = ⊥
AreActivations q p (Held c x w xs cs ∷ fs) [] = ⊥
AreActivations q p (Held c x w xs cs ∷ fs) (f ∷ frames) =
    (length f.locals ≡ vars_of (proc_at q p)) × AreActivations q c fs frames

-- the newest frame has the index of variable b, and the elements of the stack from there on are the words of the value's items
pub record VariableStands (q : Program) (a : PitonState) (p b : ℕ) (v : ValueOf) : Type 0 where
  pub index : ℕ
  pub local : slice_get (locals_of a.frames) (offset q p b) ≡ Some (Nat index)
  pub words : Holds a.stack index (words_of_value v)

-- It stands at the mark of the top item, and reads as the activation on top: procedure p with these variables. The word of `c-c`
-- is the number of the condition that is on its way out, and else that of the normal one.
pub record ReadsAs (q : Program) (a : PitonState) (p : ℕ) (x : List ValueOf) (w : List Item) (fs : List Frame) : Type 0 where
  pub program : a.program ≡ p
  pub place : a.place ≡ mark_of q p w
  pub condition : a.areas ≡ (Nat (number_of_way (top_way w)) ∷ []) ∷ []
  pub frames : AreActivations q p fs a.frames
  pub variables : (b : ℕ) (shape : Shape) → slice_get (shapes_of (proc_at q p)) b ≡ Some shape → VariableStands q a p b (value_at x b)

-- after exactly the counted steps, at the counted cost and none of them an error, it comes to a state that reads so
pub record ComesToMark (q : Program) (s : SystemView) (a : PitonState) (p : ℕ) (x : List ValueOf) (w : List Item) (fs : List Frame)
    (t : Tally) : Type 0 where
  pub to : PitonState
  pub runs : Steps s t.steps t.count a to
  pub reads : ReadsAs q to p x w fs

-- what a system comes to from a state, where the step machine stands so
abbrev pub HasMoment : Program → SystemView → PitonState → Move → Type 0
HasMoment q s a (Next (At p x w fs t)) = ComesToMark q s a p x w fs t
HasMoment q s a (Ended x c t) = RunsTo s a x c t

-- Every moment of the step machine is one of the generated system.
abbrev pub EachMomentIsReached : Type 0
EachMomentIsReached = (q : Program) (sizes : StackSizes) (base : ℕ) (v : List ValueOf) (j : ℕ) → ProgramFits q → SizesFit q sizes →
    VarsFit (proc_at q q.main).formals v →
    HasMoment q (generated_view q sizes base) (opened q sizes base v) (moment_from q sizes v j)

-- 2. Counts.

-- it costs an instruction at least
abbrev pub CostsSome : State → Move → Type 0
CostsSome g (Next h) = spent_at g < spent_at h
CostsSome g (Ended x c t) = spent_at g < t.count

-- so does each step, up to the one that ends the run
abbrev pub EachStepCosts : Type 0
EachStepCosts = (q : Program) (sizes : StackSizes) (v : List ValueOf) (j : ℕ) (g : State) → moment_from q sizes v j ≡ Next g →
    CostsSome g (gypsy_step q sizes g)

-- so after j steps at least j instructions are counted
abbrev pub CountsGrow : Type 0
CountsGrow = (q : Program) (sizes : StackSizes) (v : List ValueOf) (j : ℕ) (g : State) → moment_from q sizes v j ≡ Next g → j ≤ spent_at g

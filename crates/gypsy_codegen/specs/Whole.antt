-- A whole run of the generated system, and what each of its states shows.
use Rattle.std.specs.Prelude.{◌≡◌, ℕ, ◌+◌, ◌<◌, ◌≤◌, List, [], ◌∷◌, ◌++◌, length, reverse, Some, slice_get, slice_index}
use Rattle.stack_text.specs.{SharedLimits.{most_stack}, declared.shape.Shape.{Shape}, Values.{ValueOf}}
use Rattle.piton_words.specs.{declared.word.Word.{Word}, declared.word.Word.TheVariants.{Nat}}
use Rattle.piton_check.specs.Instruction.{SystemView}
use Rattle.piton_semantics.specs.State as piton
use Rattle.piton_semantics.specs.{State.{PitonState}, declared.stepped.PitonRun.TheVariants.{Halted}, StateView.{started, opening}}
use Rattle.piton_semantics.specs.{StateView.{state_run}, Law.{Steps, advanced}}
use Rattle.gypsy_syntax.specs.{Programs.{ConditionOf, Program, proc_at, shapes_of, body_of}, ProgramFits.{ProgramFits, Misses}}
use Rattle.gypsy_syntax.specs.{Effects.{value_at}, ValuesFit.{VarsFit}}
use Rattle.gypsy_space.specs.{Costs.{Tally}, Needs.{StackSizes}}
use Rattle.gypsy_semantics.specs.{Room.{Suffices, HaveWords}, Calls.{CurrentCondition, main_start}, Meaning.{Done, meaning}}
use Rattle.gypsy_semantics.specs.{Counted.{CountedDone, counted_meaning}, Machine.{Item, Frame, Held, State, At, Next, raise, gypsy_step}}
use Rattle.gypsy_semantics.specs.{Machine.{start}, Kept.{StateFits, FramesFit}}
use Rattle.gypsy_codegen.specs.{WordsOf.{words_of_values, number_of, number_of_way}, Generated.{Scope, target, size, generated_view}}
use Rattle.gypsy_codegen.specs.{Memory.{stack_of, index_of}, Showing.{Stands, Waits, StandsAs, mark}, Law.{Leads, tally_of}}
use Rattle.gypsy_predef.specs.Runs.{Holds, words_of_value}

-- the opening state, with these values of main's formals
abbrev pub opened : Program → StackSizes → ℕ → List ValueOf → PitonState
opened q sizes base v = started (generated_view q sizes base) (words_of_values (main_start q v))

-- It first halts after exactly so many steps at that cost: no state before has halted, and no step is an error. Then c-c has the
-- number of the condition, and the bottom of the stack has the words of main's formals.
pub record RunsTo (s : SystemView) (a : PitonState) (x : List ValueOf) (c : CurrentCondition) (t : Tally) : Type 0 where
  pub to : PitonState
  pub runs : Steps s t.steps t.count a to
  pub halted : to.frames ≡ []
  pub condition : to.areas ≡ (Nat (number_of_way c) ∷ []) ∷ []
  pub locals : List Word
  pub stack : to.stack ≡ reverse (words_of_values x ++ locals)

-- the sizes suffice, and the temporary stack's is one that Piton allows
pub record SizesFit (q : Program) (sizes : StackSizes) : Type 0 where
  pub suffice : Suffices q sizes
  pub small : sizes.temp ≤ most_stack

-- Where the counted meaning is done, the generated system halts with the same, in those steps and at that cost.
abbrev pub CountedRuns : Type 0
CountedRuns = (q : Program) (sizes : StackSizes) (base : ℕ) (v : List ValueOf) (n : ℕ) (x : List ValueOf) (c : CurrentCondition)
    (t : Tally) →
    ProgramFits q → SizesFit q sizes → VarsFit (proc_at q q.main).formals v → counted_meaning q sizes v n ≡ CountedDone x c t →
    RunsTo (generated_view q sizes base) (opened q sizes base v) x c t

-- The same of the meaning: what is counted along it are the steps of Piton and their cost.
abbrev pub MeaningRuns : Type 0
MeaningRuns = (q : Program) (sizes : StackSizes) (base : ℕ) (v : List ValueOf) (n : ℕ) (x : List ValueOf) (c : CurrentCondition) →
    ProgramFits q → SizesFit q sizes → VarsFit (proc_at q q.main).formals v → meaning q sizes v n ≡ Done x c →
    (t : Tally) × (counted_meaning q sizes v n ≡ CountedDone x c t) × RunsTo (generated_view q sizes base) (opened q sizes base v) x c t

-- a run of at most so many steps halts there, with the steps and the count of the meaning
abbrev pub LimitedRunHalts : Type 0
LimitedRunHalts = (q : Program) (sizes : StackSizes) (base : ℕ) (v : List ValueOf) (n : ℕ) (x : List ValueOf) (c : CurrentCondition)
    (t : Tally) (k : ℕ) →
    ProgramFits q → SizesFit q sizes → VarsFit (proc_at q q.main).formals v → counted_meaning q sizes v n ≡ CountedDone x c t →
    (r : RunsTo (generated_view q sizes base) (opened q sizes base v) x c t) ×
    (let first = opening (generated_view q sizes base) (words_of_values (main_start q v)) in
    state_run (generated_view q sizes base) (t.steps + k) first ≡ record { run = Halted; seen = advanced first t.steps t.count r.to })

-- the opening state shows the start
abbrev pub StartShows : Type 0
StartShows = (q : Program) (sizes : StackSizes) (base : ℕ) (v : List ValueOf) → ProgramFits q
    → StandsAs q (opened q sizes base v) (start q v)

-- the states that steps of the step machine lead to
pub data Reached (q : Program) (sizes : StackSizes) : State → State → Type 0 where
  same : {g : State} → Reached q sizes g g
  later : {g h k : State} → gypsy_step q sizes g ≡ Next h → Reached q sizes h k → Reached q sizes g k

-- each of them is shown by a state of the generated system, after the steps that the tallies tell
abbrev pub EachIsShown : Type 0
EachIsShown = (q : Program) (sizes : StackSizes) (base : ℕ) (v : List ValueOf) (g : State) → ProgramFits q → SizesFit q sizes →
    VarsFit (proc_at q q.main).formals v → Reached q sizes (start q v) g →
    Leads q (generated_view q sizes base) (opened q sizes base v) (tally_of (start q v)) g

-- a state that shows one of the step machine stands at its mark
abbrev pub PlaceIsMark : Type 0
PlaceIsMark = (q : Program) (a : PitonState) (g : State) → StandsAs q a g → a.place ≡ mark q g

-- the words of a variable stand from its index on
abbrev pub VariablesStand : Type 0
VariablesStand = (q : Program) (a : PitonState) (p : ℕ) (x : List ValueOf) (w : List Item) (fs : List Frame) (t : Tally) (b : ℕ)
    (shape : Shape) → StateFits q (At p x w fs t) → StandsAs q a (At p x w fs t) → slice_get (shapes_of (proc_at q p)) b ≡ Some shape →
    Holds a.stack (index_of q p fs b) (words_of_value (value_at x b))

-- the variables of the activations that wait, each but those that are actuals of the activation above it
abbrev pub WaitingStand : Program → List Word → List Frame → Type 0
WaitingStand q stack [] = Unit {0}
WaitingStand q stack (Held c x w xs cs ∷ fs) =
    ((b : ℕ) (shape : Shape) → Misses b xs → slice_get (shapes_of (proc_at q c)) b ≡ Some shape →
    Holds stack (index_of q c fs b) (words_of_value (value_at x b))) ×
    WaitingStand q stack fs

abbrev pub WaitingVariablesStand : Type 0
WaitingVariablesStand = (q : Program) (a : PitonState) (p : ℕ) (x : List ValueOf) (w : List Item) (fs : List Frame) (t : Tally) →
    StateFits q (At p x w fs t) → StandsAs q a (At p x w fs t) → WaitingStand q a.stack fs

-- an actual has the index of its formal
abbrev pub ActualsShare : Type 0
ActualsShare = (q : Program) (p c b : ℕ) (x : List ValueOf) (w : List Item) (xs : List ℕ) (cs : List ConditionOf) (fs : List Frame) →
    b < length (proc_at q p).formals → index_of q p (Held c x w xs cs ∷ fs) b ≡ index_of q c fs (slice_index xs b)

-- A condition that is raised above this list: from its target, with its number in c-c.
abbrev pub RaiseFollows : Type 0
RaiseFollows = (q : Program) (sizes : StackSizes) (base p : ℕ) (x : List ValueOf) (w : List Item) (fs : List Frame) (fr : List piton.Frame)
    (env : List Scope) (at : ℕ) (c : ConditionOf) (t : Tally) → ProgramFits q → sizes.temp ≤ most_stack →
    VarsFit (shapes_of (proc_at q p)) x → FramesFit q p fs → HaveWords q sizes p fs → Waits q p fs fr → Stands q p env at w →
    Leads
    q
    (generated_view q sizes base)
    record {
      program = p;
      place = target q p (size q (body_of q p)) env c;
      frames = fr;
      stack = stack_of q p x fs;
      areas = (Nat (number_of c) ∷ []) ∷ [];
    }
    t
    (raise c p x w fs t)

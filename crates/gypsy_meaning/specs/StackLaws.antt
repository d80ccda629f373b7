-- That the activations that wait are shown as they go on.
use Rattle.std.specs.Prelude.{◌≡◌, ℕ, ◌+◌, List, ◌∷◌, length}
use Rattle.stack_text.specs.Values.{ValueOf}
use Rattle.gypsy_syntax.specs.Programs.{ConditionOf, Program}
use Rattle.gypsy_space.specs.{Costs.{Tally}, Needs.{StackSizes}}
use Rattle.gypsy_semantics.specs.{Machine.{Item, Frame, Held, State, At, Next, gypsy_step}, Views.RunView.{Stage, Running, bare, depth_at}}
use Rattle.gypsy_meaning.specs.Views.Stacks.{active_in, waiting_at}

-- one for each activation but the active one
abbrev pub CountsWaiting : Type 0
CountsWaiting = (stage : Stage) → length (waiting_at stage) + 1 ≡ depth_at stage

-- The active one ends, with this work: the first of those that waited goes on with the variables that were shown of it, and those
-- behind it are shown as before.
abbrev pub GoesOnAsShown : List Item → Type 0
GoesOnAsShown work =
    (q : Program) (sizes : StackSizes) (p c : ℕ) (y x : List ValueOf) (w : List Item) (xs : List ℕ) (cs : List ConditionOf)
    (fs : List Frame) (t : Tally) (g : State) →
    let shown = bare (At p y work (Held c x w xs cs ∷ fs) t) in
    gypsy_step q sizes shown ≡ Next g → active_in g ∷ waiting_at (Running (bare g)) ≡ waiting_at (Running shown)

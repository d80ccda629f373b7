-- Runs in which spaceerror is never raised.
use Rattle.std.specs.Prelude.{◌≡◌, ◌≢◌, ℕ, List, ◌∷◌, Option, Some, None}
use Rattle.stack_text.specs.Values.{ValueOf}
use Rattle.gypsy_syntax.specs.{Programs.{ConditionOf, Routine, Space, Program, Signal, Call, Apply}, Predefined.{predef_effect}}
use Rattle.gypsy_syntax.specs.Effects.{Effect, Normal, Fault, Beyond}
use Rattle.gypsy_space.specs.{Costs.{Tally}, Needs.{StackSizes, lack_of}, declared.need.Lack.{Lack}}
use Rattle.gypsy_space.specs.declared.need.Lack.TheVariants.{Nothing, Temporary, Control}
use Rattle.gypsy_semantics.specs.{Calls.{matching, values_of}, Machine.{Do, Out, Held, State, At, Next, Over, gypsy_step, run, start, used}}
use Rattle.gypsy_semantics.specs.Meaning.{Done, meaning}

-- a run from these values comes to the state
pub data Visits (q : Program) (sizes : StackSizes) (v : List ValueOf) : State → Type 0 where
  First : {g : State} → g ≡ start q v → Visits q sizes v g
  Later : {g h : State} → Visits q sizes v g → gypsy_step q sizes g ≡ Next h → Visits q sizes v h

-- spaceerror, where a call lacks room
abbrev pub raised_for : Lack → Option ConditionOf
raised_for Nothing = None
raised_for Temporary = Some Space
raised_for Control = Some Space

-- routineerror, where a predefined call fails
abbrev pub raised_after : Effect → Option ConditionOf
raised_after (Normal v) = None
raised_after Fault = Some Routine
raised_after Beyond = Some Routine

-- the condition that the step from a state raises: the one that is signalled, that of a call without room, that of a predefined
-- call that fails, or in a caller the one by which its callee is left
abbrev pub raised : Program → StackSizes → State → Option ConditionOf
raised q sizes (At p x (Do (Signal place c) ∷ w) fs t) = Some c
raised q sizes (At p x (Do (Call place c xs cs) ∷ w) fs t) = raised_for (lack_of q sizes c (used q p fs))
raised q sizes (At p x (Do (Apply place r args) ∷ w) fs t) = raised_after (predef_effect r (values_of x args))
raised q sizes (At p x (Out d ∷ w) (Held c y v xs cs ∷ fs) t) = Some (matching q p cs d)
raised q sizes g = None

-- a call on top lacks no room
abbrev pub HasCallRoom : Program → StackSizes → State → Type 0
HasCallRoom q sizes (At p x (Do (Call place c xs cs) ∷ w) fs t) = lack_of q sizes c (used q p fs) ≡ Nothing
HasCallRoom q sizes g = Unit {0}

-- From these values, in any number of steps: no call lacks room, no step raises spaceerror, so that none is ever caught, and
-- neither the run nor the meaning ends with it.
pub record NeverSpaceError (q : Program) (sizes : StackSizes) (v : List ValueOf) : Type 0 where
  pub calls : (g : State) → Visits q sizes v g → HasCallRoom q sizes g
  pub steps : (g : State) → Visits q sizes v g → raised q sizes g ≢ Some Space
  pub ends : (n : ℕ) (x : List ValueOf) (t : Tally) → run q sizes n (start q v) ≢ Over x (Some Space) t
  pub means : (n : ℕ) (x : List ValueOf) → meaning q sizes v n ≢ Done x (Some Space)

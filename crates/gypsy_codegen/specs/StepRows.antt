-- What the generated system does at each row of the step machine, in the row's steps of Piton and at the row's cost.
use Rattle.std.specs.Prelude.{◌≡◌, ℕ, ◌≤◌, List, [], ◌∷◌, true, false, Some, None, slice_set}
use Rattle.stack_text.specs.{SharedLimits.{most_stack}, Values.{ValueOf}}
use Rattle.piton_semantics.specs.State.{PitonState}
use Rattle.gypsy_syntax.specs.{declared.predef.Predef.{Predef}, Programs.{ConditionOf, Routine, Space, Arg, Program, body_of, Stmt, NoOp}}
use Rattle.gypsy_syntax.specs.{Programs.{Signal, Loop, If, Call, Apply}, ProgramFits.{ProgramFits}, Predefined.{predef_effect}}
use Rattle.gypsy_syntax.specs.Effects.{Normal, Fault, Beyond, value_at, is_true_value}
use Rattle.gypsy_space.specs.{Costs.{Tally, pay, predef_spend, out_spend, main_spend}, Needs.{StackSizes, has_room, lack_of, call_spend}}
use Rattle.gypsy_space.specs.{declared.event.CostEvent.{CostEvent}, declared.need.Lack.TheVariants.{Temporary, Control}}
use Rattle.gypsy_space.specs.declared.event.CostEvent.TheVariants as event
use Rattle.gypsy_semantics.specs.Calls.{is_passed_on, matching, main_way, main_formals, values_of, target_of, copied_in, copied_out}
use Rattle.gypsy_semantics.specs.Machine.{Item, Do, Back, JoinThen, JoinOne, Guard, Out, Frame, Held, State, At, open_on, settle, raise}
use Rattle.gypsy_semantics.specs.{Machine.{used}, Kept.{StateFits}, Room.{StateRoom}}
use Rattle.gypsy_codegen.specs.{Generated.{generated_view}, Showing.{StandsAs}, Law.{Leads, Halts}}

-- a program with the sizes and the base of its system, a state of Piton, and the activation on top: its procedure, its variables,
-- its work behind the item that is on top, the activations that wait, and what was spent
pub record Top : Type 0 where
  pub source : Program
  pub sizes : StackSizes
  pub base : ℕ
  pub piton : PitonState
  pub proc : ℕ
  pub vars : List ValueOf
  pub work : List Item
  pub waiting : List Frame
  pub spent : Tally

-- the program fits, and the state of Piton shows this state of the step machine, which fits and has room
pub record IsShown (s : Top) (g : State) : Type 0 where
  pub fits : ProgramFits s.source
  pub small : s.sizes.temp ≤ most_stack
  pub state_fits : StateFits s.source g
  pub room : StateRoom s.source s.sizes g
  pub shows : StandsAs s.source s.piton g

abbrev pub at_work : Top → List Item → State
at_work s w = At s.proc s.vars w s.waiting s.spent

-- from this work the system reaches a state that shows this one
abbrev pub Reaches : Top → List Item → State → Type 0
Reaches s w g = IsShown s (at_work s w) → Leads s.source (generated_view s.source s.sizes s.base) s.piton s.spent g

-- the same activation goes on, and has paid for this event
abbrev pub GoesOn : Top → List Item → List Item → CostEvent → Type 0
GoesOn s w v e = Reaches s w (At s.proc s.vars v s.waiting (pay e s.spent))

abbrev pub NoOpRow : Type 0
NoOpRow = (s : Top) (place : ℕ) → GoesOn s (Do (NoOp place) ∷ s.work) (settle s.work) event.NoOp

abbrev pub SignalRow : Type 0
SignalRow = (s : Top) (place : ℕ) (c : ConditionOf) →
    Reaches s (Do (Signal place c) ∷ s.work) (raise c s.proc s.vars s.work s.waiting (pay event.Signal s.spent))

abbrev pub LoopRow : Type 0
LoopRow = (s : Top) (place : ℕ) (b : Stmt) → GoesOn s (Do (Loop place b) ∷ s.work) (open_on b (Back place b ∷ s.work)) event.LoopRound

abbrev pub BackRow : Type 0
BackRow = (s : Top) (place : ℕ) (b : Stmt) → GoesOn s (Back place b ∷ s.work) (open_on (Loop place b) s.work) event.LoopBack

abbrev pub ThenRow : Type 0
ThenRow = (s : Top) (place test : ℕ) (b c : Stmt) → is_true_value (value_at s.vars test) ≡ true →
    GoesOn s (Do (If place test b c) ∷ s.work) (open_on b (JoinThen place c ∷ s.work)) event.IfTrue

abbrev pub ElseRow : Type 0
ElseRow = (s : Top) (place test : ℕ) (b c : Stmt) → is_true_value (value_at s.vars test) ≡ false →
    GoesOn s (Do (If place test b c) ∷ s.work) (open_on c (JoinOne place ∷ s.work)) event.IfFalse

abbrev pub JoinThenRow : Type 0
JoinThenRow = (s : Top) (place : ℕ) (c : Stmt) → GoesOn s (JoinThen place c ∷ s.work) (settle s.work) event.JoinThen

abbrev pub JoinOneRow : Type 0
JoinOneRow = (s : Top) (place : ℕ) → GoesOn s (JoinOne place ∷ s.work) (settle s.work) event.JoinOne

abbrev pub GuardRow : Type 0
GuardRow = (s : Top) (place : ℕ) (cs : List ConditionOf) (b : Stmt) → GoesOn s (Guard place cs b ∷ s.work) (settle s.work) event.GuardNormal

-- a call that has room
abbrev pub CallRow : Type 0
CallRow = (s : Top) (place c : ℕ) (xs : List ℕ) (cs : List ConditionOf) →
    has_room s.source s.sizes c (used s.source s.proc s.waiting) ≡ true →
    Reaches s (Do (Call place c xs cs) ∷ s.work)
    (At c (copied_in s.source c xs s.vars) (open_on (body_of s.source c) []) (Held s.proc s.vars s.work xs cs ∷ s.waiting)
    (call_spend s.source c s.spent))

-- a call without room on the temporary stack, and one without room on the control stack alone: spaceerror is raised
abbrev pub LackTemporaryRow : Type 0
LackTemporaryRow = (s : Top) (place c : ℕ) (xs : List ℕ) (cs : List ConditionOf) →
    lack_of s.source s.sizes c (used s.source s.proc s.waiting) ≡ Temporary →
    Reaches s (Do (Call place c xs cs) ∷ s.work) (raise Space s.proc s.vars s.work s.waiting (pay event.LackTemporary s.spent))

abbrev pub LackControlRow : Type 0
LackControlRow = (s : Top) (place c : ℕ) (xs : List ℕ) (cs : List ConditionOf) →
    lack_of s.source s.sizes c (used s.source s.proc s.waiting) ≡ Control →
    Reaches s (Do (Call place c xs cs) ∷ s.work) (raise Space s.proc s.vars s.work s.waiting (pay event.LackControl s.spent))

-- a predefined call that writes a variable, and one that raises routineerror
abbrev pub WriteRow : Type 0
WriteRow = (s : Top) (place : ℕ) (r : Predef) (args : List Arg) (v : ValueOf) → predef_effect r (values_of s.vars args) ≡ Normal v →
    Reaches s (Do (Apply place r args) ∷ s.work)
    (At s.proc (slice_set s.vars (target_of args) v) (settle s.work) s.waiting (predef_spend r (Normal v) s.spent))

abbrev pub FaultRow : Type 0
FaultRow = (s : Top) (place : ℕ) (r : Predef) (args : List Arg) → predef_effect r (values_of s.vars args) ≡ Fault →
    Reaches s (Do (Apply place r args) ∷ s.work) (raise Routine s.proc s.vars s.work s.waiting (predef_spend r Fault s.spent))

abbrev pub BeyondRow : Type 0
BeyondRow = (s : Top) (place : ℕ) (r : Predef) (args : List Arg) → predef_effect r (values_of s.vars args) ≡ Beyond →
    Reaches s (Do (Apply place r args) ∷ s.work) (raise Routine s.proc s.vars s.work s.waiting (predef_spend r Beyond s.spent))

-- the end of a procedure for which another waits, in the normal condition and with a condition
abbrev pub ReturnRow : Type 0
ReturnRow = (s : Top) (c : ℕ) (x : List ValueOf) (w : List Item) (xs : List ℕ) (cs : List ConditionOf) (fs : List Frame) →
    s.waiting ≡ Held c x w xs cs ∷ fs → Reaches s [] (At c (copied_out xs s.vars x) (settle w) fs (pay event.EndProc s.spent))

abbrev pub OutRow : Type 0
OutRow = (s : Top) (d : ConditionOf) (c : ℕ) (x : List ValueOf) (w : List Item) (xs : List ℕ) (cs : List ConditionOf) (fs : List Frame) →
    s.waiting ≡ Held c x w xs cs ∷ fs →
    Reaches s (Out d ∷ [])
    (raise (matching s.source s.proc cs d) c (copied_out xs s.vars x) w fs (out_spend (is_passed_on s.source s.proc d) s.spent))

-- the end of main: the system has halted, at the last of the steps
abbrev pub EndRow : Type 0
EndRow = (s : Top) → s.waiting ≡ [] → IsShown s (at_work s []) →
    Halts (generated_view s.source s.sizes s.base) s.piton s.spent (main_formals s.source s.vars) None (pay event.EndMain s.spent)

abbrev pub MainOutRow : Type 0
MainOutRow = (s : Top) (d : ConditionOf) → s.waiting ≡ [] → IsShown s (at_work s (Out d ∷ [])) →
    Halts (generated_view s.source s.sizes s.base) s.piton s.spent (main_formals s.source s.vars) (Some (main_way s.source d))
    (main_spend (is_passed_on s.source s.source.main d) s.spent)

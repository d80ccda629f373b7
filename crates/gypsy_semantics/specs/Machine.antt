-- The step machine, with a list of work.
use Rattle.std.specs.Prelude.{ℕ, zero, suc, List, [], ◌∷◌, Bool, true, false, Some, None, slice_set}
use Rattle.stack_text.specs.Values.{ValueOf}
use Rattle.gypsy_syntax.specs.{declared.predef.Predef.{Predef}, Programs.{ConditionOf, Routine, Space, Arg, Program, body_of, proc_at}}
use Rattle.gypsy_syntax.specs.{Programs.{Stmt, Skip, NoOp, Signal, Seq, Loop, If, Begin, Call, Apply}, Predefined.{predef_effect}}
use Rattle.gypsy_syntax.specs.Effects.{Effect, Normal, Fault, Beyond, value_at, is_true_value}
use Rattle.gypsy_space.specs.{Costs.{Tally, start_tally, pay, predef_spend, out_spend, main_spend}, Needs.{StackSizes, main_used}}
use Rattle.gypsy_space.specs.{Needs.{with_call, lack_of, call_spend}, declared.need.Lack.{Lack}, declared.need.Lack.TheVariants.{Nothing}}
use Rattle.gypsy_space.specs.declared.need.Lack.TheVariants.{Temporary, Control}
use Rattle.gypsy_space.specs.declared.event.CostEvent.TheVariants as event
use Rattle.gypsy_semantics.specs.Calls.{CurrentCondition, has_cond, is_leave, is_passed_on, matching, main_way, values_of, target_of}
use Rattle.gypsy_semantics.specs.Calls.{copied_in, copied_out, main_start, main_formals}

-- each with the place of the statement that made it
pub data Item : Type 0 where
  Do : (s : Stmt) → Item
  Back : (place : ℕ) (s : Stmt) → Item
  JoinThen : (place : ℕ) (w : Stmt) → Item
  JoinOne : (place : ℕ) → Item
  Guard : (place : ℕ) (cs : List ConditionOf) (w : Stmt) → Item
  Out : (c : ConditionOf) → Item

-- an activation that waits: its procedure, its variables, its work behind the call, and the call's actuals
pub data Frame : Type 0 where
  Held : (p : ℕ) (x : List ValueOf) (work : List Item) (xs : List ℕ) (cs : List ConditionOf) → Frame

-- the top activation and those that wait; the end of a list is the item end
pub data State : Type 0 where
  At : (p : ℕ) (x : List ValueOf) (work : List Item) (fs : List Frame) (t : Tally) → State

pub data Move : Type 0 where
  Next : (g : State) → Move
  Ended : (x : List ValueOf) (c : CurrentCondition) (t : Tally) → Move

-- a statement that comes to the top of the list w, where ws is w once its top is opened
abbrev pub opens : Stmt → List Item → List Item → List Item
opens Skip w ws = ws
opens (NoOp place) w ws = Do (NoOp place) ∷ w
opens (Signal place c) w ws = Do (Signal place c) ∷ w
opens (Seq a b) w ws = opens a (Do b ∷ w) (opens b w ws)
opens (Loop place s) w ws = Do (Loop place s) ∷ w
opens (If place b s v) w ws = Do (If place b s v) ∷ w
opens (Begin place s cs v) w ws = opens s (Guard place cs v ∷ w) (Guard place cs v ∷ w)
opens (Call place p xs cs) w ws = Do (Call place p xs cs) ∷ w
opens (Apply place r args) w ws = Do (Apply place r args) ∷ w

-- the list once its top is opened
abbrev pub settle : List Item → List Item
settle [] = []
settle (Do s ∷ w) = opens s w (settle w)
settle (Back place s ∷ w) = Back place s ∷ w
settle (JoinThen place v ∷ w) = JoinThen place v ∷ w
settle (JoinOne place ∷ w) = JoinOne place ∷ w
settle (Guard place cs v ∷ w) = Guard place cs v ∷ w
settle (Out c ∷ w) = Out c ∷ w

abbrev pub open_on : Stmt → List Item → List Item
open_on s w = opens s w (settle w)

abbrev pub stop_if : Bool → State → State → State
stop_if true a b = a
stop_if false a b = b

-- a condition is raised above this list
abbrev pub raise : ConditionOf → ℕ → List ValueOf → List Item → List Frame → Tally → State
raise c p x [] fs t = At p x (Out c ∷ []) fs t
raise c p x (Do s ∷ w) fs t = raise c p x w fs t
raise c p x (Back place s ∷ w) fs t = stop_if (is_leave c) (At p x (settle w) fs (pay event.Caught t)) (raise c p x w fs t)
raise c p x (JoinThen place v ∷ w) fs t = raise c p x w fs t
raise c p x (JoinOne place ∷ w) fs t = raise c p x w fs t
raise c p x (Guard place cs v ∷ w) fs t =
    stop_if (has_cond c cs) (At p x (open_on v (JoinOne place ∷ w)) fs (pay event.Caught t)) (raise c p x w fs t)
raise c p x (Out d ∷ w) fs t = raise c p x w fs t

abbrev pub either_move : Bool → Move → Move → Move
either_move true a b = a
either_move false a b = b

-- a predefined call
abbrev pub apply_step : Predef → List Arg → Effect → ℕ → List ValueOf → List Item → List Frame → Tally → Move
apply_step r args (Normal v) p x w fs t =
    Next (At p (slice_set x (target_of args) v) (settle w) fs (predef_spend r (Normal v) t))
apply_step r args Fault p x w fs t = Next (raise Routine p x w fs (predef_spend r Fault t))
apply_step r args Beyond p x w fs t = Next (raise Routine p x w fs (predef_spend r Beyond t))

-- the words in use while procedure p runs
abbrev pub used : Program → ℕ → List Frame → StackSizes
used q p [] = main_used q
used q p (Held c x w xs cs ∷ fs) = with_call q p (used q c fs)

-- a call of procedure c by p, by what it lacks; without room spaceerror is raised
abbrev pub call_step : Program → Lack → ℕ → List ℕ → List ConditionOf → ℕ → List ValueOf → List Item → List Frame → Tally → Move
call_step q Nothing c xs cs p x w fs t =
    Next (At c (copied_in q c xs x) (open_on (body_of q c) []) (Held p x w xs cs ∷ fs) (call_spend q c t))
call_step q Temporary c xs cs p x w fs t = Next (raise Space p x w fs (pay event.LackTemporary t))
call_step q Control c xs cs p x w fs t = Next (raise Space p x w fs (pay event.LackControl t))

abbrev pub do_step : Program → StackSizes → Stmt → ℕ → List ValueOf → List Item → List Frame → Tally → Move
do_step q sizes Skip p x w fs t = Next (At p x (settle w) fs t)
do_step q sizes (NoOp place) p x w fs t = Next (At p x (settle w) fs (pay event.NoOp t))
do_step q sizes (Signal place c) p x w fs t = Next (raise c p x w fs (pay event.Signal t))
do_step q sizes (Seq a b) p x w fs t = Next (At p x (open_on (Seq a b) w) fs t)
do_step q sizes (Loop place s) p x w fs t = Next (At p x (open_on s (Back place s ∷ w)) fs (pay event.LoopRound t))
do_step q sizes (If place b s v) p x w fs t =
    either_move
    (is_true_value (value_at x b))
    (Next (At p x (open_on s (JoinThen place v ∷ w)) fs (pay event.IfTrue t)))
    (Next (At p x (open_on v (JoinOne place ∷ w)) fs (pay event.IfFalse t)))
do_step q sizes (Begin place s cs v) p x w fs t = Next (At p x (open_on (Begin place s cs v) w) fs t)
do_step q sizes (Call place c xs cs) p x w fs t = call_step q (lack_of q sizes c (used q p fs)) c xs cs p x w fs t
do_step q sizes (Apply place r args) p x w fs t = apply_step r args (predef_effect r (values_of x args)) p x w fs t

-- the item end
abbrev pub end_step : Program → ℕ → List ValueOf → List Frame → Tally → Move
end_step q p x [] t = Ended (main_formals q x) None (pay event.EndMain t)
end_step q p y (Held c x w xs cs ∷ fs) t = Next (At c (copied_out xs y x) (settle w) fs (pay event.EndProc t))

-- the item out
abbrev pub out_step : Program → ConditionOf → ℕ → List ValueOf → List Frame → Tally → Move
out_step q d p x [] t = Ended (main_formals q x) (Some (main_way q d)) (main_spend (is_passed_on q q.main d) t)
out_step q d p y (Held c x w xs cs ∷ fs) t =
    Next (raise (matching q p cs d) c (copied_out xs y x) w fs (out_spend (is_passed_on q p d) t))

abbrev pub gypsy_step : Program → StackSizes → State → Move
gypsy_step q sizes (At p x [] fs t) = end_step q p x fs t
gypsy_step q sizes (At p x (Do s ∷ w) fs t) = do_step q sizes s p x w fs t
gypsy_step q sizes (At p x (Back place s ∷ w) fs t) = Next (At p x (open_on (Loop place s) w) fs (pay event.LoopBack t))
gypsy_step q sizes (At p x (JoinThen place v ∷ w) fs t) = Next (At p x (settle w) fs (pay event.JoinThen t))
gypsy_step q sizes (At p x (JoinOne place ∷ w) fs t) = Next (At p x (settle w) fs (pay event.JoinOne t))
gypsy_step q sizes (At p x (Guard place cs v ∷ w) fs t) = Next (At p x (settle w) fs (pay event.GuardNormal t))
gypsy_step q sizes (At p x (Out c ∷ w) fs t) = out_step q c p x fs t

pub data Ending : Type 0 where
  Over : (x : List ValueOf) (c : CurrentCondition) (t : Tally) → Ending
  Going : Ending

abbrev pub go_on : Move → (State → Ending) → Ending
go_on (Next g) go = go g
go_on (Ended x c t) go = Over x c t

-- at most k steps
abbrev pub run : Program → StackSizes → ℕ → State → Ending
run q sizes zero g = Going
run q sizes (suc k) g = go_on (gypsy_step q sizes g) (run q sizes k)

abbrev pub start : Program → List ValueOf → State
start q v = At q.main (main_start q v) (open_on (body_of q q.main) []) [] start_tally

-- Places.

abbrev pub statement_place : Stmt → ℕ
statement_place Skip = 0
statement_place (NoOp place) = place
statement_place (Signal place c) = place
statement_place (Seq a b) = 0
statement_place (Loop place s) = place
statement_place (If place b s w) = place
statement_place (Begin place s cs w) = place
statement_place (Call place p xs cs) = place
statement_place (Apply place r args) = place

-- of the top item, where the end and a condition on its way out have the procedure's
abbrev pub place_of : Program → State → ℕ
place_of q (At p x [] fs t) = (proc_at q p).place
place_of q (At p x (Do s ∷ w) fs t) = statement_place s
place_of q (At p x (Back place s ∷ w) fs t) = place
place_of q (At p x (JoinThen place v ∷ w) fs t) = place
place_of q (At p x (JoinOne place ∷ w) fs t) = place
place_of q (At p x (Guard place cs v ∷ w) fs t) = place
place_of q (At p x (Out c ∷ w) fs t) = (proc_at q p).place

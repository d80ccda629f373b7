-- The meaning with its costs: the same as without them, and what was spent when a statement begins and when it is done.
use Rattle.std.specs.Prelude.{ℕ, zero, suc, List, Bool, true, false, Option, Some, None, option_map, slice_set}
use Rattle.stack_text.specs.Values.{ValueOf}
use Rattle.gypsy_syntax.specs.{declared.predef.Predef.{Predef}, Programs.{ConditionOf, Routine, Space, Arg, Program, body_of, Stmt, Skip}}
use Rattle.gypsy_syntax.specs.{Programs.{NoOp, Signal, Seq, Loop, If, Begin, Call, Apply}, Predefined.{predef_effect}, Effects.{Effect}}
use Rattle.gypsy_syntax.specs.Effects.{Normal, Fault, Beyond, value_at, is_true_value}
use Rattle.gypsy_space.specs.{Costs.{Tally, start_tally, pay, predef_spend, out_spend, main_spend}, Needs.{StackSizes, main_used}}
use Rattle.gypsy_space.specs.{Needs.{with_call, lack_of, call_spend}, declared.need.Lack.{Lack}, declared.need.Lack.TheVariants.{Nothing}}
use Rattle.gypsy_space.specs.declared.need.Lack.TheVariants.{Temporary, Control}
use Rattle.gypsy_space.specs.declared.event.CostEvent.TheVariants as event
use Rattle.gypsy_semantics.specs.Calls.{CurrentCondition, has_cond, is_leave, is_passed_on, matching, main_way, values_of, target_of}
use Rattle.gypsy_semantics.specs.{Calls.{copied_in, copied_out, main_start, main_formals}, Meaning.{MeaningOutcome, Done, Unfinished}}

-- done, with the variables, the condition and what is spent in all; or not done within the bound
pub data CountedOutcome : Type 0 where
  CountedDone : (x : List ValueOf) (c : CurrentCondition) (t : Tally) → CountedOutcome
  CountedUnfinished : CountedOutcome

-- a statement in the normal condition, with these words in use, from these variables, when so much was spent
abbrev pub CountedMeans : Type 0
CountedMeans = Stmt → StackSizes → List ValueOf → Tally → CountedOutcome

-- goes on where the first is done in the normal condition
abbrev pub counted_then : CountedOutcome → (List ValueOf → Tally → CountedOutcome) → CountedOutcome
counted_then (CountedDone x None t) go = go x t
counted_then (CountedDone x (Some c) t) go = CountedDone x (Some c) t
counted_then CountedUnfinished go = CountedUnfinished

-- a part that a join follows
abbrev pub counted_part : CountedOutcome → (Tally → Tally) → CountedOutcome
counted_part (CountedDone x None t) join = CountedDone x None (join t)
counted_part (CountedDone x (Some c) t) join = CountedDone x (Some c) t
counted_part CountedUnfinished join = CountedUnfinished

abbrev pub counted_either : Bool → CountedOutcome → CountedOutcome → CountedOutcome
counted_either true a b = a
counted_either false a b = b

-- where the body's condition is in the list, the arm
abbrev pub counted_caught : CountedOutcome → List ConditionOf → (List ValueOf → Tally → CountedOutcome) → CountedOutcome
counted_caught (CountedDone x None t) cs arm = CountedDone x None (pay event.GuardNormal t)
counted_caught (CountedDone x (Some c) t) cs arm =
    counted_either (has_cond c cs) (counted_part (arm x (pay event.Caught t)) (pay event.JoinOne)) (CountedDone x (Some c) t)
counted_caught CountedUnfinished cs arm = CountedUnfinished

-- a round's end
abbrev pub counted_round_end : CountedOutcome → (List ValueOf → Tally → CountedOutcome) → CountedOutcome
counted_round_end (CountedDone x None t) again = again x (pay event.LoopBack t)
counted_round_end (CountedDone x (Some c) t) again =
    counted_either (is_leave c) (CountedDone x None (pay event.Caught t)) (CountedDone x (Some c) t)
counted_round_end CountedUnfinished again = CountedUnfinished

-- a predefined call
abbrev pub counted_applied : Predef → List Arg → Effect → List ValueOf → Tally → CountedOutcome
counted_applied r args (Normal v) x t = CountedDone (slice_set x (target_of args) v) None (predef_spend r (Normal v) t)
counted_applied r args Fault x t = CountedDone x (Some Routine) (predef_spend r Fault t)
counted_applied r args Beyond x t = CountedDone x (Some Routine) (predef_spend r Beyond t)

-- a call's end
abbrev pub counted_returned : Program → ℕ → List ℕ → List ConditionOf → List ValueOf → CountedOutcome → CountedOutcome
counted_returned q p xs cs x (CountedDone y None t) = CountedDone (copied_out xs y x) None (pay event.EndProc t)
counted_returned q p xs cs x (CountedDone y (Some c) t) =
    CountedDone (copied_out xs y x) (Some (matching q p cs c)) (out_spend (is_passed_on q p c) t)
counted_returned q p xs cs x CountedUnfinished = CountedUnfinished

-- a call without room, by what it lacks
abbrev pub counted_if_room : Lack → List ValueOf → Tally → CountedOutcome → CountedOutcome
counted_if_room Nothing x t o = o
counted_if_room Temporary x t o = CountedDone x (Some Space) (pay event.LackTemporary t)
counted_if_room Control x t o = CountedDone x (Some Space) (pay event.LackControl t)

-- at a bound, which falls at each further round of a loop and at each call
abbrev pub counted_evaluate : Program → StackSizes → ℕ → CountedMeans
counted_evaluate q sizes zero s u x t = CountedUnfinished
counted_evaluate q sizes (suc n) Skip u x t = CountedDone x None t
counted_evaluate q sizes (suc n) (NoOp place) u x t = CountedDone x None (pay event.NoOp t)
counted_evaluate q sizes (suc n) (Signal place c) u x t = CountedDone x (Some c) (pay event.Signal t)
counted_evaluate q sizes (suc n) (Seq a b) u x t =
    counted_then (counted_evaluate q sizes (suc n) a u x t) (counted_evaluate q sizes (suc n) b u)
counted_evaluate q sizes (suc n) (Loop place s) u x t =
    counted_round_end (counted_evaluate q sizes (suc n) s u x (pay event.LoopRound t)) (counted_evaluate q sizes n (Loop place s) u)
counted_evaluate q sizes (suc n) (If place b s w) u x t =
    counted_either
    (is_true_value (value_at x b))
    (counted_part (counted_evaluate q sizes (suc n) s u x (pay event.IfTrue t)) (pay event.JoinThen))
    (counted_part (counted_evaluate q sizes (suc n) w u x (pay event.IfFalse t)) (pay event.JoinOne))
counted_evaluate q sizes (suc n) (Begin place s cs w) u x t =
    counted_caught (counted_evaluate q sizes (suc n) s u x t) cs (counted_evaluate q sizes (suc n) w u)
counted_evaluate q sizes (suc n) (Call place p xs cs) u x t =
    counted_if_room
    (lack_of q sizes p u)
    x
    t
    (counted_returned q p xs cs x (counted_evaluate q sizes n (body_of q p) (with_call q p u) (copied_in q p xs x) (call_spend q p t)))
counted_evaluate q sizes (suc n) (Apply place r args) u x t = counted_applied r args (predef_effect r (values_of x args)) x t

-- main's body, from its end on
abbrev pub counted_main_end : Program → CountedOutcome → CountedOutcome
counted_main_end q (CountedDone x None t) = CountedDone (main_formals q x) None (pay event.EndMain t)
counted_main_end q (CountedDone x (Some c) t) =
    CountedDone (main_formals q x) (Some (main_way q c)) (main_spend (is_passed_on q q.main c) t)
counted_main_end q CountedUnfinished = CountedUnfinished

-- the counted meaning of a program, with these values of main's formals
abbrev pub counted_meaning : Program → StackSizes → List ValueOf → ℕ → CountedOutcome
counted_meaning q sizes v n = counted_main_end q (counted_evaluate q sizes n (body_of q q.main) (main_used q) (main_start q v) start_tally)

-- what is left without the costs
abbrev pub uncounted : CountedOutcome → MeaningOutcome
uncounted (CountedDone x c t) = Done x c
uncounted CountedUnfinished = Unfinished

-- what was spent, where the meaning is done
abbrev pub tally_of : CountedOutcome → Option Tally
tally_of (CountedDone x c t) = Some t
tally_of CountedUnfinished = None

-- the instructions of the processor that a meaning takes, and the steps of Piton
abbrev pub instruction_count : Program → StackSizes → List ValueOf → ℕ → Option ℕ
instruction_count q sizes v n = option_map (λ t. t.count) (tally_of (counted_meaning q sizes v n))

abbrev pub piton_steps : Program → StackSizes → List ValueOf → ℕ → Option ℕ
piton_steps q sizes v n = option_map (λ t. t.steps) (tally_of (counted_meaning q sizes v n))

-- What a statement does to the variables of its procedure, and the condition that it ends with.
--
-- A loop and a recursive call may go on for ever. So a meaning has a bound on the rounds of loops and the nesting of calls; a
-- statement means what it is done with at some bound. It has the words in use of both stacks, too: a call for which they have
-- no room sets the condition spaceerror.
use Rattle.std.specs.Prelude.{ℕ, zero, suc, List, Bool, true, false, Some, None, slice_set}
use Rattle.stack_text.specs.Values.{ValueOf}
use Rattle.gypsy_syntax.specs.Programs.{ConditionOf, Routine, Space, Arg, Program, body_of, Stmt, Skip, NoOp, Signal, Seq, Loop, If, Begin}
use Rattle.gypsy_syntax.specs.{Programs.{Call, Apply}, Predefined.{predef_effect}, Effects.{Effect, Normal, Fault, Beyond, value_at}}
use Rattle.gypsy_syntax.specs.Effects.{is_true_value}
use Rattle.gypsy_space.specs.Needs.{StackSizes, main_used, with_call, has_room}
use Rattle.gypsy_semantics.specs.Calls.{CurrentCondition, has_cond, is_leave, matching, main_way, values_of, target_of, copied_in}
use Rattle.gypsy_semantics.specs.Calls.{copied_out, main_start, main_formals}

-- done, with these variables and this condition; or not done within the bound
pub data MeaningOutcome : Type 0 where
  Done : (x : List ValueOf) (c : CurrentCondition) → MeaningOutcome
  Unfinished : MeaningOutcome

-- what a statement does from these variables, with these words in use
abbrev pub StatementMeaning : Type 0
StatementMeaning = Stmt → StackSizes → List ValueOf → MeaningOutcome

-- what follows runs where the first is done in the normal condition
abbrev pub then_do : MeaningOutcome → (List ValueOf → MeaningOutcome) → MeaningOutcome
then_do (Done x None) next = next x
then_do (Done x (Some c)) next = Done x (Some c)
then_do Unfinished next = Unfinished

abbrev pub either_way : Bool → MeaningOutcome → MeaningOutcome → MeaningOutcome
either_way true a b = a
either_way false a b = b

-- where the body's condition is in the list, the arm runs in the normal condition
abbrev pub caught : MeaningOutcome → List ConditionOf → (List ValueOf → MeaningOutcome) → MeaningOutcome
caught (Done x None) cs arm = Done x None
caught (Done x (Some c)) cs arm = either_way (has_cond c cs) (arm x) (Done x (Some c))
caught Unfinished cs arm = Unfinished

-- after a round the next one, but `leave` ends the loop in the normal condition, and another condition passes on
abbrev pub round_end : MeaningOutcome → (List ValueOf → MeaningOutcome) → MeaningOutcome
round_end (Done x None) again = again x
round_end (Done x (Some c)) again = either_way (is_leave c) (Done x None) (Done x (Some c))
round_end Unfinished again = Unfinished

-- a predefined call writes its first argument; where it fails, no variable changes and the condition is routineerror
abbrev pub applied : List Arg → Effect → List ValueOf → MeaningOutcome
applied args (Normal v) x = Done (slice_set x (target_of args) v) None
applied args Fault x = Done x (Some Routine)
applied args Beyond x = Done x (Some Routine)

-- after a call the actuals get the formals' values, in every condition
abbrev pub returned : Program → ℕ → List ℕ → List ConditionOf → List ValueOf → MeaningOutcome → MeaningOutcome
returned q p xs cs x (Done y None) = Done (copied_out xs y x) None
returned q p xs cs x (Done y (Some c)) = Done (copied_out xs y x) (Some (matching q p cs c))
returned q p xs cs x Unfinished = Unfinished

-- a call without room changes no variable
abbrev pub if_room : Bool → List ValueOf → MeaningOutcome → MeaningOutcome
if_room true x o = o
if_room false x o = Done x (Some Space)

-- the bound falls at each further round of a loop and at each call
abbrev pub evaluate : Program → StackSizes → ℕ → StatementMeaning
evaluate q sizes zero s u x = Unfinished
evaluate q sizes (suc n) Skip u x = Done x None
evaluate q sizes (suc n) (NoOp place) u x = Done x None
evaluate q sizes (suc n) (Signal place c) u x = Done x (Some c)
evaluate q sizes (suc n) (Seq a b) u x = then_do (evaluate q sizes (suc n) a u x) (evaluate q sizes (suc n) b u)
evaluate q sizes (suc n) (Loop place s) u x = round_end (evaluate q sizes (suc n) s u x) (evaluate q sizes n (Loop place s) u)
evaluate q sizes (suc n) (If place b s w) u x =
    either_way (is_true_value (value_at x b)) (evaluate q sizes (suc n) s u x) (evaluate q sizes (suc n) w u x)
evaluate q sizes (suc n) (Begin place s cs w) u x = caught (evaluate q sizes (suc n) s u x) cs (evaluate q sizes (suc n) w u)
evaluate q sizes (suc n) (Call place p xs cs) u x =
    if_room
    (has_room q sizes p u)
    x
    (returned q p xs cs x (evaluate q sizes n (body_of q p) (with_call q p u) (copied_in q p xs x)))
evaluate q sizes (suc n) (Apply place r args) u x = applied args (predef_effect r (values_of x args)) x

-- main ends with its formals, and with normal, a formal condition, spaceerror or routineerror
abbrev pub main_end : Program → MeaningOutcome → MeaningOutcome
main_end q (Done x None) = Done (main_formals q x) None
main_end q (Done x (Some c)) = Done (main_formals q x) (Some (main_way q c))
main_end q Unfinished = Unfinished

-- the meaning of a program, with these values of main's formals
abbrev pub meaning : Program → StackSizes → List ValueOf → ℕ → MeaningOutcome
meaning q sizes v n = main_end q (evaluate q sizes n (body_of q q.main) (main_used q) (main_start q v))

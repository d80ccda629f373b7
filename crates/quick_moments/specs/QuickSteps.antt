-- What is proved of each moment of a run of quick code: it shows the state in which the step machine is then.
use Rattle.std.specs.Prelude.{◌≡◌, ℕ, zero, suc, ◌+◌, List, [], ◌∷◌, Ok, Some, None, option_map, if◌then◌else◌}
use Rattle.stack_text.specs.Values.{ValueOf}
use Rattle.fm_machine.specs.{State.{Fm}, Run.{fm_run, Avoids}}
use Rattle.fm_code.specs.Execution.{final_pc}
use Rattle.gypsy_syntax.specs.Programs.{ConditionOf, Routine, Program, Stmt, Skip, NoOp, Signal, Seq, Loop, If, Begin, Call, Apply}
use Rattle.gypsy_syntax.specs.{Predefined.{predef_effect}, Effects.{Effect, Normal, Fault, Beyond}}
use Rattle.gypsy_space.specs.Needs.{StackSizes}
use Rattle.gypsy_semantics.specs.{Calls.{CurrentCondition, has_cond, is_leave, values_of, main_formals, main_way}, Views.Moments.{moment}}
use Rattle.gypsy_semantics.specs.Machine.{Item, Do, Back, JoinThen, JoinOne, Guard, Out, State, At, Move, Next, Ended, gypsy_step}
use Rattle.quick_code.specs.Access.{find_count}
use Rattle.quick_gypsy.specs.{Layout.{Layout}, RowCode.{row_cost}, Quick.{signalled}, QuickRuns.{ComesWith, goal_of}}
use Rattle.quick_moments.specs.QuickShows.{Site, IsSite, ShowsQuick}

-- 1. What a step takes.

abbrev pub statement_cost : Layout → List ValueOf → Stmt → ℕ
statement_cost L x Skip = 0
statement_cost L x (NoOp place) = 0
statement_cost L x (Signal place c) = 1
statement_cost L x (Seq a b) = 0
statement_cost L x (Loop place s) = 0
statement_cost L x (If place b s v) = find_count (L.access b) + 1 + 1
statement_cost L x (Begin place s cs v) = 0
statement_cost L x (Call place p xs cs) = 0
statement_cost L x (Apply place r args) = let vs = values_of x args in row_cost L args r vs (predef_effect r vs)

-- the jump over an arm that has code
abbrev pub over_cost : CurrentCondition → ℕ
over_cost None = 1
over_cost (Some d) = 0

abbrev pub work_cost : Layout → List ValueOf → List Item → ℕ
work_cost L x [] = 0
work_cost L x (Do s ∷ w) = statement_cost L x s
work_cost L x (Back place s ∷ w) = 1
work_cost L x (JoinThen place v ∷ w) = 1
work_cost L x (JoinOne place ∷ w) = 0
work_cost L x (Guard place cs v ∷ w) = over_cost (signalled v)
work_cost L x (Out c ∷ w) = 0

-- how many instructions the step from this state takes: none if the condition of the top item is under way already
abbrev pub quick_step_cost : Layout → CurrentCondition → State → ℕ
quick_step_cost L None (At p x w fs t) = work_cost L x w
quick_step_cost L (Some d) g = 0

-- 2. What is under way after a step.

-- the condition that a predefined call raises
abbrev pub raised_by : Effect → CurrentCondition
raised_by (Normal v) = None
raised_by Fault = Some Routine
raised_by Beyond = Some Routine

-- the condition that a step raises
abbrev pub raised : List ValueOf → List Item → CurrentCondition
raised x (Do (Signal place c) ∷ w) = Some c
raised x (Do (Apply place r args) ∷ w) = raised_by (predef_effect r (values_of x args))
raised x w = None

-- what the arm without code signals that catches a condition raised above these items, if such an arm does
abbrev pub signalled_by : ConditionOf → List Item → CurrentCondition
signalled_by c [] = None
signalled_by c (Do s ∷ w) = signalled_by c w
signalled_by c (Back place s ∷ w) = if is_leave c then None else signalled_by c w
signalled_by c (JoinThen place v ∷ w) = signalled_by c w
signalled_by c (JoinOne place ∷ w) = signalled_by c w
signalled_by c (Guard place cs v ∷ w) = if has_cond c cs then signalled v else signalled_by c w
signalled_by c (Out d ∷ w) = signalled_by c w

abbrev pub caught_by : CurrentCondition → List Item → CurrentCondition
caught_by None w = None
caught_by (Some c) w = signalled_by c w

abbrev pub under_way_after : State → CurrentCondition
under_way_after (At p x [] fs t) = None
under_way_after (At p x (i ∷ w) fs t) = caught_by (raised x (i ∷ w)) w

-- 3. One step.

-- after exactly n instructions the machine reads as this state, and before that its pc was never the final one
pub record ComesToShow (k : Site) (n : ℕ) (m : Fm) (under_way : CurrentCondition) (g : State) : Type 0 where
  pub state : Fm
  pub runs : fm_run n m ≡ Ok state
  pub avoids : Avoids m (final_pc k.parts) n
  pub shows : ShowsQuick k state under_way g

-- after exactly n instructions the machine is behind main's body or at the target of the condition that leaves it, and its variables are
-- those with which the step machine has ended
pub record ComesToEnd (k : Site) (q : Program) (n : ℕ) (m : Fm) (finals : List ValueOf) (ended : CurrentCondition) : Type 0 where
  pub values : List ValueOf
  pub left : CurrentCondition
  pub comes : ComesWith k.parts k.table k.ctrl n m (goal_of k.targets k.end left) values k.areas
  pub finals_are : finals ≡ main_formals q values
  pub way_is : ended ≡ option_map (main_way q) left

abbrev pub ComesToMove : Site → Program → ℕ → Fm → CurrentCondition → Move → Type 0
ComesToMove k q n m under_way (Next g) = ComesToShow k n m under_way g
ComesToMove k q n m under_way (Ended x c t) = ComesToEnd k q n m x c

-- Each step: from a machine that shows a state, exactly the counted instructions lead to one that shows the next.
abbrev pub QuickStepsShow : Type 0
QuickStepsShow = (k : Site) (q : Program) (sizes : StackSizes) (m : Fm) (under_way : CurrentCondition) (g : State) → IsSite k →
    ShowsQuick k m under_way g →
    ComesToMove k q (quick_step_cost k.layout under_way g) m (under_way_after g) (gypsy_step q sizes g)

-- 4. Every moment.

-- what follows a step, unless that has ended the run
abbrev pub if_next : {A : Type 0} → Move → A → (State → A) → A
if_next (Next g) a go = go g
if_next (Ended x c t) a go = a

-- how many instructions the next j steps take
abbrev pub quick_cost_to : Program → StackSizes → Layout → ℕ → CurrentCondition → State → ℕ
quick_cost_to q sizes L zero under_way g = 0
quick_cost_to q sizes L (suc j) under_way g =
    quick_step_cost L under_way g + if_next (gypsy_step q sizes g) 0 (quick_cost_to q sizes L j (under_way_after g))

-- what is under way after j steps
abbrev pub under_way_at : Program → StackSizes → ℕ → CurrentCondition → State → CurrentCondition
under_way_at q sizes zero under_way g = under_way
under_way_at q sizes (suc j) under_way g =
    if_next (gypsy_step q sizes g) None (under_way_at q sizes j (under_way_after g))

-- Every moment of the step machine's run is one of the machine's, after the sum of the costs up to it.
abbrev pub QuickMomentsShow : Type 0
QuickMomentsShow = (k : Site) (q : Program) (sizes : StackSizes) (m : Fm) (under_way : CurrentCondition) (g : State) (j : ℕ) →
    IsSite k → ShowsQuick k m under_way g →
    ComesToMove k q (quick_cost_to q sizes k.layout j under_way g) m (under_way_at q sizes j under_way g) (moment q sizes j g)

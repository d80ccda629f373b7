-- After how many instructions each statement ends, in the rows of the table in docs/proved/meaning.md.
use Rattle.std.specs.Prelude.{◌≡◌, ℕ, ◌+◌, List, true, false, Some, None, slice_set}
use Rattle.stack_text.specs.Values.{ValueOf}
use Rattle.gypsy_syntax.specs.{declared.predef.Predef.{Predef}, Programs.{ConditionOf, Leave, Routine, Space, Arg, Program, body_of, Stmt}}
use Rattle.gypsy_syntax.specs.{Programs.{Skip, NoOp, Signal, Seq, Loop, If, Begin, Call, Apply}, Predefined.{predef_effect}}
use Rattle.gypsy_syntax.specs.Effects.{Normal, Fault, Beyond, value_at, is_true_value}
use Rattle.gypsy_space.specs.{Costs.{count_of}, Needs.{StackSizes, with_call, lack_of}, declared.need.Lack.TheVariants.{Nothing, Temporary}}
use Rattle.gypsy_space.specs.declared.need.Lack.TheVariants.{Control}
use Rattle.gypsy_space.specs.declared.event.CostEvent.TheVariants as event
use Rattle.gypsy_semantics.specs.Calls.{CurrentCondition, has_cond, is_leave, values_of, target_of, copied_in, copied_out}
use Rattle.gypsy_logic.specs.{Ends.{passed}, Counts.{RunsAfter, join_count, call_count, return_count, predef_count}}

-- the rows of a program, for stacks of these sizes
pub record TakesCounts (q : Program) (sizes : StackSizes) : Type 0 where
  pub skip : (u : StackSizes) (x : List ValueOf) → RunsAfter q sizes u Skip x x None 0
  pub no_op : (place : ℕ) (u : StackSizes) (x : List ValueOf) → RunsAfter q sizes u (NoOp place) x x None (count_of event.NoOp)
  pub signal : (place : ℕ) (c : ConditionOf) (u : StackSizes) (x : List ValueOf) →
      RunsAfter q sizes u (Signal place c) x x (Some c) (count_of event.Signal)
  pub seq_on : (a b : Stmt) (u : StackSizes) (x y z : List ValueOf) (c : CurrentCondition) (n m : ℕ) →
      RunsAfter q sizes u a x y None n → RunsAfter q sizes u b y z c m → RunsAfter q sizes u (Seq a b) x z c (n + m)
  pub seq_stops : (a b : Stmt) (u : StackSizes) (x y : List ValueOf) (c : ConditionOf) (n : ℕ) →
      RunsAfter q sizes u a x y (Some c) n → RunsAfter q sizes u (Seq a b) x y (Some c) n
  pub if_true : (place b : ℕ) (s w : Stmt) (u : StackSizes) (x y : List ValueOf) (c : CurrentCondition) (n : ℕ) →
      is_true_value (value_at x b) ≡ true → RunsAfter q sizes u s x y c n →
      RunsAfter q sizes u (If place b s w) x y c (count_of event.IfTrue + n + join_count c (count_of event.JoinThen))
  pub if_false : (place b : ℕ) (s w : Stmt) (u : StackSizes) (x y : List ValueOf) (c : CurrentCondition) (n : ℕ) →
      is_true_value (value_at x b) ≡ false → RunsAfter q sizes u w x y c n →
      RunsAfter q sizes u (If place b s w) x y c (count_of event.IfFalse + n + join_count c (count_of event.JoinOne))
  pub loop_on : (place : ℕ) (s : Stmt) (u : StackSizes) (x y z : List ValueOf) (c : CurrentCondition) (n m : ℕ) →
      RunsAfter q sizes u s x y None n → RunsAfter q sizes u (Loop place s) y z c m →
      RunsAfter q sizes u (Loop place s) x z c (count_of event.LoopRound + n + count_of event.LoopBack + m)
  pub loop_left : (place : ℕ) (s : Stmt) (u : StackSizes) (x y : List ValueOf) (n : ℕ) →
      RunsAfter q sizes u s x y (Some Leave) n →
      RunsAfter q sizes u (Loop place s) x y None (count_of event.LoopRound + n + count_of event.Caught)
  pub loop_stops : (place : ℕ) (s : Stmt) (u : StackSizes) (x y : List ValueOf) (c : ConditionOf) (n : ℕ) →
      is_leave c ≡ false → RunsAfter q sizes u s x y (Some c) n →
      RunsAfter q sizes u (Loop place s) x y (Some c) (count_of event.LoopRound + n)
  pub begin_ends : (place : ℕ) (s : Stmt) (cs : List ConditionOf) (w : Stmt) (u : StackSizes) (x y : List ValueOf) (n : ℕ) →
      RunsAfter q sizes u s x y None n → RunsAfter q sizes u (Begin place s cs w) x y None (n + count_of event.GuardNormal)
  pub begin_handles : (place : ℕ) (s : Stmt) (cs : List ConditionOf) (w : Stmt) (u : StackSizes) (x y z : List ValueOf) (c : ConditionOf)
      (d : CurrentCondition) (n m : ℕ) → has_cond c cs ≡ true → RunsAfter q sizes u s x y (Some c) n → RunsAfter q sizes u w y z d m →
      RunsAfter q sizes u (Begin place s cs w) x z d (n + count_of event.Caught + m + join_count d (count_of event.JoinOne))
  pub begin_stops : (place : ℕ) (s : Stmt) (cs : List ConditionOf) (w : Stmt) (u : StackSizes) (x y : List ValueOf) (c : ConditionOf)
      (n : ℕ) → has_cond c cs ≡ false → RunsAfter q sizes u s x y (Some c) n → RunsAfter q sizes u (Begin place s cs w) x y (Some c) n
  pub call_returns : (place p : ℕ) (xs : List ℕ) (cs : List ConditionOf) (u : StackSizes) (x y : List ValueOf) (c : CurrentCondition)
      (n : ℕ) → lack_of q sizes p u ≡ Nothing → RunsAfter q sizes (with_call q p u) (body_of q p) (copied_in q p xs x) y c n →
      RunsAfter q sizes u (Call place p xs cs) x (copied_out xs y x) (passed q p cs c) (call_count q p + n + return_count q p c)
  pub call_without_temporary : (place p : ℕ) (xs : List ℕ) (cs : List ConditionOf) (u : StackSizes) (x : List ValueOf) →
      lack_of q sizes p u ≡ Temporary → RunsAfter q sizes u (Call place p xs cs) x x (Some Space) (count_of event.LackTemporary)
  pub call_without_control : (place p : ℕ) (xs : List ℕ) (cs : List ConditionOf) (u : StackSizes) (x : List ValueOf) →
      lack_of q sizes p u ≡ Control → RunsAfter q sizes u (Call place p xs cs) x x (Some Space) (count_of event.LackControl)
  pub writes : (place : ℕ) (r : Predef) (args : List Arg) (u : StackSizes) (x : List ValueOf) (v : ValueOf) →
      predef_effect r (values_of x args) ≡ Normal v →
      RunsAfter q sizes u (Apply place r args) x (slice_set x (target_of args) v) None (predef_count r (Normal v))
  pub fails : (place : ℕ) (r : Predef) (args : List Arg) (u : StackSizes) (x : List ValueOf) →
      predef_effect r (values_of x args) ≡ Fault → RunsAfter q sizes u (Apply place r args) x x (Some Routine) (predef_count r Fault)
  pub is_beyond : (place : ℕ) (r : Predef) (args : List Arg) (u : StackSizes) (x : List ValueOf) →
      predef_effect r (values_of x args) ≡ Beyond → RunsAfter q sizes u (Apply place r args) x x (Some Routine) (predef_count r Beyond)

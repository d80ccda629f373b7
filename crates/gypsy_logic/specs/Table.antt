-- What each statement does, in the rows of the table in docs/languages/gypsy.md. A bound stands in none of them.
use Rattle.std.specs.Prelude.{◌≡◌, ℕ, List, true, false, Some, None, slice_set}
use Rattle.stack_text.specs.Values.{ValueOf}
use Rattle.gypsy_syntax.specs.{declared.predef.Predef.{Predef}, Programs.{ConditionOf, Leave, Routine, Space, Arg, Program, body_of, Stmt}}
use Rattle.gypsy_syntax.specs.{Programs.{Skip, NoOp, Signal, Seq, Loop, If, Begin, Call, Apply}, Predefined.{predef_effect}}
use Rattle.gypsy_syntax.specs.Effects.{Normal, Fault, Beyond, value_at, is_true_value}
use Rattle.gypsy_space.specs.Needs.{StackSizes, with_call, has_room}
use Rattle.gypsy_semantics.specs.Calls.{CurrentCondition, has_cond, is_leave, matching, values_of, target_of, copied_in, copied_out}
use Rattle.gypsy_logic.specs.Runs.{Runs}

-- the rows of a program, for stacks of these sizes
pub record FollowsTable (q : Program) (sizes : StackSizes) : Type 0 where
  pub skip : (u : StackSizes) (x : List ValueOf) → Runs q sizes u Skip x x None
  pub no_op : (place : ℕ) (u : StackSizes) (x : List ValueOf) → Runs q sizes u (NoOp place) x x None
  pub signal : (place : ℕ) (c : ConditionOf) (u : StackSizes) (x : List ValueOf) → Runs q sizes u (Signal place c) x x (Some c)
  pub seq_on : (a b : Stmt) (u : StackSizes) (x y z : List ValueOf) (c : CurrentCondition) →
      Runs q sizes u a x y None → Runs q sizes u b y z c → Runs q sizes u (Seq a b) x z c
  pub seq_stops : (a b : Stmt) (u : StackSizes) (x y : List ValueOf) (c : ConditionOf) →
      Runs q sizes u a x y (Some c) → Runs q sizes u (Seq a b) x y (Some c)
  pub if_true : (place b : ℕ) (s w : Stmt) (u : StackSizes) (x y : List ValueOf) (c : CurrentCondition) →
      is_true_value (value_at x b) ≡ true → Runs q sizes u s x y c → Runs q sizes u (If place b s w) x y c
  pub if_false : (place b : ℕ) (s w : Stmt) (u : StackSizes) (x y : List ValueOf) (c : CurrentCondition) →
      is_true_value (value_at x b) ≡ false → Runs q sizes u w x y c → Runs q sizes u (If place b s w) x y c
  pub loop_on : (place : ℕ) (s : Stmt) (u : StackSizes) (x y z : List ValueOf) (c : CurrentCondition) →
      Runs q sizes u s x y None → Runs q sizes u (Loop place s) y z c → Runs q sizes u (Loop place s) x z c
  pub loop_left : (place : ℕ) (s : Stmt) (u : StackSizes) (x y : List ValueOf) →
      Runs q sizes u s x y (Some Leave) → Runs q sizes u (Loop place s) x y None
  pub loop_stops : (place : ℕ) (s : Stmt) (u : StackSizes) (x y : List ValueOf) (c : ConditionOf) →
      is_leave c ≡ false → Runs q sizes u s x y (Some c) → Runs q sizes u (Loop place s) x y (Some c)
  pub begin_ends : (place : ℕ) (s : Stmt) (cs : List ConditionOf) (w : Stmt) (u : StackSizes) (x y : List ValueOf) →
      Runs q sizes u s x y None → Runs q sizes u (Begin place s cs w) x y None
  pub begin_handles : (place : ℕ) (s : Stmt) (cs : List ConditionOf) (w : Stmt) (u : StackSizes) (x y z : List ValueOf) (c : ConditionOf)
      (d : CurrentCondition) → has_cond c cs ≡ true → Runs q sizes u s x y (Some c) → Runs q sizes u w y z d →
      Runs q sizes u (Begin place s cs w) x z d
  pub begin_stops : (place : ℕ) (s : Stmt) (cs : List ConditionOf) (w : Stmt) (u : StackSizes) (x y : List ValueOf) (c : ConditionOf) →
      has_cond c cs ≡ false → Runs q sizes u s x y (Some c) → Runs q sizes u (Begin place s cs w) x y (Some c)
  pub call_returns : (place p : ℕ) (xs : List ℕ) (cs : List ConditionOf) (u : StackSizes) (x y : List ValueOf) →
      has_room q sizes p u ≡ true → Runs q sizes (with_call q p u) (body_of q p) (copied_in q p xs x) y None →
      Runs q sizes u (Call place p xs cs) x (copied_out xs y x) None
  pub call_raises : (place p : ℕ) (xs : List ℕ) (cs : List ConditionOf) (u : StackSizes) (x y : List ValueOf) (c : ConditionOf) →
      has_room q sizes p u ≡ true → Runs q sizes (with_call q p u) (body_of q p) (copied_in q p xs x) y (Some c) →
      Runs q sizes u (Call place p xs cs) x (copied_out xs y x) (Some (matching q p cs c))
  pub call_without_room : (place p : ℕ) (xs : List ℕ) (cs : List ConditionOf) (u : StackSizes) (x : List ValueOf) →
      has_room q sizes p u ≡ false → Runs q sizes u (Call place p xs cs) x x (Some Space)
  pub writes : (place : ℕ) (r : Predef) (args : List Arg) (u : StackSizes) (x : List ValueOf) (v : ValueOf) →
      predef_effect r (values_of x args) ≡ Normal v → Runs q sizes u (Apply place r args) x (slice_set x (target_of args) v) None
  pub fails : (place : ℕ) (r : Predef) (args : List Arg) (u : StackSizes) (x : List ValueOf) →
      predef_effect r (values_of x args) ≡ Fault → Runs q sizes u (Apply place r args) x x (Some Routine)
  pub is_beyond : (place : ℕ) (r : Predef) (args : List Arg) (u : StackSizes) (x : List ValueOf) →
      predef_effect r (values_of x args) ≡ Beyond → Runs q sizes u (Apply place r args) x x (Some Routine)

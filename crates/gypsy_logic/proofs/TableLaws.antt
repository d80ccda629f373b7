-- The rows of the table.
use Rattle.std.proofs.Common.{◌≡◌, ℕ, suc, ◌+◌, ◌≤◌, List, Bool, true, false, Some, None, refl, ap, ◌∙◌, slice_set, arith}
use Rattle.stack_text.specs.Values.{ValueOf}
use Rattle.gypsy_syntax.{specs.declared.predef.Predef.Predef, specs.Programs.{ConditionOf, Leave, Routine, Space, Arg, Program, body_of, Stmt, Seq, Loop, If}}
use Rattle.gypsy_syntax.{specs.Programs.{Begin, Call, Apply}, specs.Predefined.predef_effect, specs.Effects.{Effect, Normal, Fault, Beyond, value_at}}
use Rattle.gypsy_syntax.specs.Effects.{is_true_value}
use Rattle.gypsy_space.specs.Needs.{StackSizes, with_call, has_room}
use Rattle.gypsy_semantics.{specs.Calls.{CurrentCondition, has_cond, is_leave, values_of, target_of, copied_in}, specs.Meaning.{MeaningOutcome, Done, then_do}}
use Rattle.gypsy_semantics.{specs.Meaning.{either_way, caught, round_end, applied, returned, if_room, evaluate}, proofs.LongerLaws.longer}
use Rattle.gypsy_logic.{specs.Runs.Runs, specs.Table.FollowsTable}

module _ (q : Program) (sizes : StackSizes) where
  -- a run within each bound from its own on
  at_bound : (s : Stmt) (u : StackSizes) (x y : List ValueOf) (c : CurrentCondition) (r : Runs q sizes u s x y c) (m : ℕ) → r.bound ≤ m
      → evaluate q sizes m s u x ≡ Done y c
  at_bound s u x y c r m le = longer q sizes s u x y c r.bound m le r.done

  seq_on : (a b : Stmt) (u : StackSizes) (x y z : List ValueOf) (c : CurrentCondition) → Runs q sizes u a x y None → Runs q sizes u b y z c
      → Runs q sizes u (Seq a b) x z c
  seq_on a b u x y z c r t =
      let n = suc (r.bound + t.bound) in
      record {
        bound = n;
        done = ap (λ (o : MeaningOutcome). then_do o (evaluate q sizes n b u)) (at_bound a u x y None r n (omega arith)) ∙ at_bound b u y z c t n (omega arith);
      }

  seq_stops : (a b : Stmt) (u : StackSizes) (x y : List ValueOf) (c : ConditionOf) → Runs q sizes u a x y (Some c) → Runs q sizes u (Seq a b) x y (Some c)
  seq_stops a b u x y c r =
      let n = suc r.bound in
      record { bound = n; done = ap (λ (o : MeaningOutcome). then_do o (evaluate q sizes n b u)) (at_bound a u x y (Some c) r n (omega arith)) }

  if_true : (place b : ℕ) (s w : Stmt) (u : StackSizes) (x y : List ValueOf) (c : CurrentCondition) → is_true_value (value_at x b) ≡ true
      → Runs q sizes u s x y c → Runs q sizes u (If place b s w) x y c
  if_true place b s w u x y c e r =
      let n = suc r.bound in
      record {
        bound = n;
        done = ap (λ (t : Bool). either_way t (evaluate q sizes n s u x) (evaluate q sizes n w u x)) e ∙ at_bound s u x y c r n (omega arith);
      }

  if_false : (place b : ℕ) (s w : Stmt) (u : StackSizes) (x y : List ValueOf) (c : CurrentCondition) → is_true_value (value_at x b) ≡ false
      → Runs q sizes u w x y c → Runs q sizes u (If place b s w) x y c
  if_false place b s w u x y c e r =
      let n = suc r.bound in
      record {
        bound = n;
        done = ap (λ (t : Bool). either_way t (evaluate q sizes n s u x) (evaluate q sizes n w u x)) e ∙ at_bound w u x y c r n (omega arith);
      }

  loop_on : (place : ℕ) (s : Stmt) (u : StackSizes) (x y z : List ValueOf) (c : CurrentCondition) → Runs q sizes u s x y None
      → Runs q sizes u (Loop place s) y z c → Runs q sizes u (Loop place s) x z c
  loop_on place s u x y z c r t =
      let n = r.bound + t.bound in
      record {
        bound = suc n;
        done = ap (λ (o : MeaningOutcome). round_end o (evaluate q sizes n (Loop place s) u)) (at_bound s u x y None r (suc n) (omega arith))
            ∙ at_bound (Loop place s) u y z c t n (omega arith);
      }

  loop_left : (place : ℕ) (s : Stmt) (u : StackSizes) (x y : List ValueOf) → Runs q sizes u s x y (Some Leave) → Runs q sizes u (Loop place s) x y None
  loop_left place s u x y r =
      record {
        bound = suc r.bound;
        done = ap (λ (o : MeaningOutcome). round_end o (evaluate q sizes r.bound (Loop place s) u))
            (at_bound s u x y (Some Leave) r (suc r.bound) (omega arith));
      }

  loop_stops : (place : ℕ) (s : Stmt) (u : StackSizes) (x y : List ValueOf) (c : ConditionOf) → is_leave c ≡ false → Runs q sizes u s x y (Some c)
      → Runs q sizes u (Loop place s) x y (Some c)
  loop_stops place s u x y c e r =
      record {
        bound = suc r.bound;
        done = ap (λ (o : MeaningOutcome). round_end o (evaluate q sizes r.bound (Loop place s) u)) (at_bound s u x y (Some c) r (suc r.bound) (omega arith))
            ∙ ap (λ (b : Bool). either_way b (Done y None) (Done y (Some c))) e;
      }

  begin_ends : (place : ℕ) (s : Stmt) (cs : List ConditionOf) (w : Stmt) (u : StackSizes) (x y : List ValueOf) → Runs q sizes u s x y None
      → Runs q sizes u (Begin place s cs w) x y None
  begin_ends place s cs w u x y r =
      let n = suc r.bound in
      record { bound = n; done = ap (λ (o : MeaningOutcome). caught o cs (evaluate q sizes n w u)) (at_bound s u x y None r n (omega arith)) }

  begin_handles : (place : ℕ) (s : Stmt) (cs : List ConditionOf) (w : Stmt) (u : StackSizes) (x y z : List ValueOf) (c : ConditionOf)
      (d : CurrentCondition) → has_cond c cs ≡ true → Runs q sizes u s x y (Some c) → Runs q sizes u w y z d → Runs q sizes u (Begin place s cs w) x z d
  begin_handles place s cs w u x y z c d e r t =
      let n = suc (r.bound + t.bound) in
      record {
        bound = n;
        done = ap (λ (o : MeaningOutcome). caught o cs (evaluate q sizes n w u)) (at_bound s u x y (Some c) r n (omega arith))
            ∙ ap (λ (b : Bool). either_way b (evaluate q sizes n w u y) (Done y (Some c))) e ∙ at_bound w u y z d t n (omega arith);
      }

  begin_stops : (place : ℕ) (s : Stmt) (cs : List ConditionOf) (w : Stmt) (u : StackSizes) (x y : List ValueOf) (c : ConditionOf)
      → has_cond c cs ≡ false → Runs q sizes u s x y (Some c) → Runs q sizes u (Begin place s cs w) x y (Some c)
  begin_stops place s cs w u x y c e r =
      let n = suc r.bound in
      record {
        bound = n;
        done = ap (λ (o : MeaningOutcome). caught o cs (evaluate q sizes n w u)) (at_bound s u x y (Some c) r n (omega arith))
            ∙ ap (λ (b : Bool). either_way b (evaluate q sizes n w u y) (Done y (Some c))) e;
      }

  -- a call with room, whatever its body ends with
  called : (place p : ℕ) (xs : List ℕ) (cs : List ConditionOf) (u : StackSizes) (x y : List ValueOf) (c : CurrentCondition)
      → has_room q sizes p u ≡ true → (r : Runs q sizes (with_call q p u) (body_of q p) (copied_in q p xs x) y c)
      → evaluate q sizes (suc r.bound) (Call place p xs cs) u x ≡ returned q p xs cs x (Done y c)
  called place p xs cs u x y c e r =
      ap (λ (b : Bool). if_room b x (returned q p xs cs x (evaluate q sizes r.bound (body_of q p) (with_call q p u) (copied_in q p xs x)))) e
      ∙ ap (returned q p xs cs x) r.done

  call_without_room : (place p : ℕ) (xs : List ℕ) (cs : List ConditionOf) (u : StackSizes) (x : List ValueOf) → has_room q sizes p u ≡ false
      → Runs q sizes u (Call place p xs cs) x x (Some Space)
  call_without_room place p xs cs u x e =
      record {
        bound = 1;
        done = ap (λ (b : Bool). if_room b x (returned q p xs cs x (evaluate q sizes 0 (body_of q p) (with_call q p u) (copied_in q p xs x)))) e;
      }

  applying : (place : ℕ) (r : Predef) (args : List Arg) (u : StackSizes) (x y : List ValueOf) (c : CurrentCondition) (e : Effect)
      → predef_effect r (values_of x args) ≡ e → applied args e x ≡ Done y c → Runs q sizes u (Apply place r args) x y c
  applying place r args u x y c e is ends = record { bound = 1; done = ap (λ (f : Effect). applied args f x) is ∙ ends }

  pub follows_table : FollowsTable q sizes
  follows_table = record {
    skip = λ u x. record { bound = 1; done = refl };
    no_op = λ place u x. record { bound = 1; done = refl };
    signal = λ place c u x. record { bound = 1; done = refl };
    seq_on = seq_on;
    seq_stops = seq_stops;
    if_true = if_true;
    if_false = if_false;
    loop_on = loop_on;
    loop_left = loop_left;
    loop_stops = loop_stops;
    begin_ends = begin_ends;
    begin_handles = begin_handles;
    begin_stops = begin_stops;
    call_returns = λ place p xs cs u x y e r. record { bound = suc r.bound; done = called place p xs cs u x y None e r };
    call_raises = λ place p xs cs u x y c e r. record { bound = suc r.bound; done = called place p xs cs u x y (Some c) e r };
    call_without_room = call_without_room;
    writes = λ place r args u x v e. applying place r args u x (slice_set x (target_of args) v) None (Normal v) e refl;
    fails = λ place r args u x e. applying place r args u x x (Some Routine) Fault e refl;
    is_beyond = λ place r args u x e. applying place r args u x x (Some Routine) Beyond e refl;
  }

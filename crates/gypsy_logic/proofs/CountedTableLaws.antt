-- The rows of the table with their counts.
use Rattle.std.{proofs.Common.{◌≡◌, ℕ, zero, suc, ◌+◌, ◌≤◌, List, Bool, true, false, Some, None, refl, ap, ◌∙◌, slice_set, arith}, specs.Prelude.nat_lt}
use Rattle.stack_text.specs.Values.{ValueOf}
use Rattle.gypsy_syntax.{specs.declared.predef.Predef.Predef, specs.Programs.{ConditionOf, Leave, Routine, Space, Declared, Arg, Program, proc_at, body_of}}
use Rattle.gypsy_syntax.{specs.Programs.{Stmt, Skip, NoOp, Signal, Seq, Loop, If, Begin, Call, Apply}, specs.Predefined.{predef_effect, predef_cost}}
use Rattle.gypsy_syntax.specs.Effects.{Effect, Normal, Fault, Beyond, value_at, is_true_value}
use Rattle.gypsy_space.{specs.Costs.{Tally, spend, start_tally, predef_spend, out_spend, raised_price, steps_of}, specs.Needs.{StackSizes, with_call, lack_of}}
use Rattle.gypsy_space.{specs.Needs.call_spend, specs.declared.need.Lack.Lack, specs.declared.need.Lack.TheVariants.{Nothing, Temporary, Control}}
use Rattle.gypsy_space.proofs.SpendLaws.{spend_two, spend_none}
use Rattle.gypsy_space.specs.declared.event.CostEvent.TheVariants as event
use Rattle.gypsy_semantics.specs.Calls.{CurrentCondition, has_cond, is_leave, is_passed_on, matching, values_of, target_of, copied_in, copied_out}
use Rattle.gypsy_semantics.specs.Counted.{CountedOutcome, CountedDone, counted_then, counted_part, counted_either, counted_caught, counted_round_end}
use Rattle.gypsy_semantics.specs.Counted.{counted_applied, counted_returned, counted_if_room, counted_evaluate}
use Rattle.gypsy_logic.{specs.Ends.passed, specs.Counts.{RunsAfter, join_count, call_count, return_count, predef_count}, specs.CountedTable.TakesCounts}

-- ---- what is spent in two parts

abbrev tally : ℕ → ℕ → Tally
tally n s = record { count = n; steps = s }

same_tally : (n m s p : ℕ) → n ≡ m → s ≡ p → tally n s ≡ tally m p
same_tally n m s p e f = ap (λ (i : ℕ). tally i s) e ∙ ap (tally m) f

-- what a spending spends is what it spends from nothing on
spends_so_much : (i p : ℕ) (t : Tally) → spend i p t ≡ spend (spend i p start_tally).count (spend i p start_tally).steps t
unfolding spend
spends_so_much i p t = same_tally (t.count + i) (t.count + (0 + i)) (t.steps + p) (t.steps + (0 + p)) (omega arith) (omega arith)

-- a part that a join follows
part_done : (x : List ValueOf) (c : CurrentCondition) (j p i r : ℕ) (t : Tally) → counted_part (CountedDone x c (spend i r t)) (spend j p)
    ≡ CountedDone x c (spend (i + join_count c j) (r + join_count c p) t)
part_done x None j p i r t = ap (CountedDone x None) (spend_two j p i r t)
part_done x (Some c) j p i r t = ap (CountedDone x (Some c)) (spend_none (spend i r t) ∙ spend_two 0 0 i r t)

module _ (q : Program) (sizes : StackSizes) where
  -- from some bound on, which isn't 0
  from_bound : (s : Stmt) (u : StackSizes) (x y : List ValueOf) (c : CurrentCondition) (n bound steps : ℕ)
      → ((m : ℕ) (t : Tally) → bound ≤ m → counted_evaluate q sizes (suc m) s u x t ≡ CountedDone y c (spend n steps t)) → RunsAfter q sizes u s x y c n
  from_bound s u x y c n bound steps f = record { bound = suc bound; steps = steps; done = pick }
    where
      pick : (m : ℕ) (t : Tally) → suc bound ≤ m → counted_evaluate q sizes m s u x t ≡ CountedDone y c (spend n steps t)
      pick zero t le = absurd (omega arith)
      pick (suc m) t le = f m t (omega arith)

  skip : (u : StackSizes) (x : List ValueOf) → RunsAfter q sizes u Skip x x None 0
  skip u x = from_bound Skip u x x None 0 0 0 (λ m t le. ap (CountedDone x None) (spend_none t))

  no_op : (place : ℕ) (u : StackSizes) (x : List ValueOf) → RunsAfter q sizes u (NoOp place) x x None 1
  no_op place u x = from_bound (NoOp place) u x x None 1 0 1 (λ m t le. refl)

  signal : (place : ℕ) (c : ConditionOf) (u : StackSizes) (x : List ValueOf) → RunsAfter q sizes u (Signal place c) x x (Some c) 4
  signal place c u x = from_bound (Signal place c) u x x (Some c) 4 0 3 (λ m t le. refl)

  seq_on : (a b : Stmt) (u : StackSizes) (x y z : List ValueOf) (c : CurrentCondition) (n k : ℕ) → RunsAfter q sizes u a x y None n
      → RunsAfter q sizes u b y z c k → RunsAfter q sizes u (Seq a b) x z c (n + k)
  seq_on a b u x y z c n k r l = from_bound (Seq a b) u x z c (n + k) (r.bound + l.bound) (r.steps + l.steps) (λ m t le.
      ap (λ (o : CountedOutcome). counted_then o (counted_evaluate q sizes (suc m) b u)) (r.done (suc m) t (omega arith))
      ∙ l.done (suc m) (spend n r.steps t) (omega arith) ∙ ap (CountedDone z c) (spend_two k l.steps n r.steps t))

  seq_stops : (a b : Stmt) (u : StackSizes) (x y : List ValueOf) (c : ConditionOf) (n : ℕ) → RunsAfter q sizes u a x y (Some c) n
      → RunsAfter q sizes u (Seq a b) x y (Some c) n
  seq_stops a b u x y c n r = from_bound (Seq a b) u x y (Some c) n r.bound r.steps (λ m t le.
      ap (λ (o : CountedOutcome). counted_then o (counted_evaluate q sizes (suc m) b u)) (r.done (suc m) t (omega arith)))

  -- an arm: what is spent before it, and the join
  arm_done : (m : ℕ) (s : Stmt) (u : StackSizes) (x y : List ValueOf) (c : CurrentCondition) (n i p j k : ℕ) (r : RunsAfter q sizes u s x y c n)
      (t : Tally) → r.bound ≤ m → counted_part (counted_evaluate q sizes m s u x (spend i p t)) (spend j k)
      ≡ CountedDone y c (spend (i + n + join_count c j) (p + r.steps + join_count c k) t)
  arm_done m s u x y c n i p j k r t le =
      ap (λ (o : CountedOutcome). counted_part o (spend j k)) (r.done m (spend i p t) le ∙ ap (CountedDone y c) (spend_two n r.steps i p t))
      ∙ part_done y c j k (i + n) (p + r.steps) t

  if_true : (place b : ℕ) (s w : Stmt) (u : StackSizes) (x y : List ValueOf) (c : CurrentCondition) (n : ℕ) → is_true_value (value_at x b) ≡ true
      → RunsAfter q sizes u s x y c n → RunsAfter q sizes u (If place b s w) x y c (8 + n + join_count c 2)
  if_true place b s w u x y c n e r = from_bound (If place b s w) u x y c (8 + n + join_count c 2) r.bound (3 + r.steps + join_count c 2) (λ m t le.
      ap (λ (d : Bool). counted_either d (counted_part (counted_evaluate q sizes (suc m) s u x (spend 8 3 t)) (spend 2 2))
      (counted_part (counted_evaluate q sizes (suc m) w u x (spend 9 4 t)) (spend 1 1))) e
      ∙ arm_done (suc m) s u x y c n 8 3 2 2 r t (omega arith))

  if_false : (place b : ℕ) (s w : Stmt) (u : StackSizes) (x y : List ValueOf) (c : CurrentCondition) (n : ℕ) → is_true_value (value_at x b) ≡ false
      → RunsAfter q sizes u w x y c n → RunsAfter q sizes u (If place b s w) x y c (9 + n + join_count c 1)
  if_false place b s w u x y c n e r = from_bound (If place b s w) u x y c (9 + n + join_count c 1) r.bound (4 + r.steps + join_count c 1) (λ m t le.
      ap (λ (d : Bool). counted_either d (counted_part (counted_evaluate q sizes (suc m) s u x (spend 8 3 t)) (spend 2 2))
      (counted_part (counted_evaluate q sizes (suc m) w u x (spend 9 4 t)) (spend 1 1))) e
      ∙ arm_done (suc m) w u x y c n 9 4 1 1 r t (omega arith))

  -- a loop up to the end of its first round
  round_done : (m : ℕ) (place : ℕ) (s : Stmt) (u : StackSizes) (x y : List ValueOf) (c : CurrentCondition) (n : ℕ) (r : RunsAfter q sizes u s x y c n)
      (t : Tally) → r.bound ≤ suc m → counted_evaluate q sizes (suc m) (Loop place s) u x t
      ≡ counted_round_end (CountedDone y c (spend (1 + n) (1 + r.steps) t)) (counted_evaluate q sizes m (Loop place s) u)
  round_done m place s u x y c n r t le =
      ap (λ (o : CountedOutcome). counted_round_end o (counted_evaluate q sizes m (Loop place s) u))
      (r.done (suc m) (spend 1 1 t) le ∙ ap (CountedDone y c) (spend_two n r.steps 1 1 t))

  loop_on : (place : ℕ) (s : Stmt) (u : StackSizes) (x y z : List ValueOf) (c : CurrentCondition) (n k : ℕ) → RunsAfter q sizes u s x y None n
      → RunsAfter q sizes u (Loop place s) y z c k → RunsAfter q sizes u (Loop place s) x z c (1 + n + 1 + k)
  loop_on place s u x y z c n k r l = from_bound (Loop place s) u x z c (1 + n + 1 + k) (r.bound + l.bound) (1 + r.steps + 1 + l.steps) (λ m t le.
      round_done m place s u x y None n r t (omega arith)
      ∙ ap (counted_evaluate q sizes m (Loop place s) u y) (spend_two 1 1 (1 + n) (1 + r.steps) t)
      ∙ l.done m (spend (1 + n + 1) (1 + r.steps + 1) t) (omega arith) ∙ ap (CountedDone z c) (spend_two k l.steps (1 + n + 1) (1 + r.steps + 1) t))

  loop_left : (place : ℕ) (s : Stmt) (u : StackSizes) (x y : List ValueOf) (n : ℕ) → RunsAfter q sizes u s x y (Some Leave) n
      → RunsAfter q sizes u (Loop place s) x y None (1 + n + 3)
  loop_left place s u x y n r = from_bound (Loop place s) u x y None (1 + n + 3) r.bound (1 + r.steps + 2) (λ m t le.
      round_done m place s u x y (Some Leave) n r t (omega arith) ∙ ap (CountedDone y None) (spend_two 3 2 (1 + n) (1 + r.steps) t))

  loop_stops : (place : ℕ) (s : Stmt) (u : StackSizes) (x y : List ValueOf) (c : ConditionOf) (n : ℕ) → is_leave c ≡ false
      → RunsAfter q sizes u s x y (Some c) n → RunsAfter q sizes u (Loop place s) x y (Some c) (1 + n)
  loop_stops place s u x y c n e r = from_bound (Loop place s) u x y (Some c) (1 + n) r.bound (1 + r.steps) (λ m t le.
      let there = spend (1 + n) (1 + r.steps) t in
      round_done m place s u x y (Some c) n r t (omega arith)
      ∙ ap (λ (b : Bool). counted_either b (CountedDone y None (spend 3 2 there)) (CountedDone y (Some c) there)) e)

  begin_ends : (place : ℕ) (s : Stmt) (cs : List ConditionOf) (w : Stmt) (u : StackSizes) (x y : List ValueOf) (n : ℕ)
      → RunsAfter q sizes u s x y None n → RunsAfter q sizes u (Begin place s cs w) x y None (n + 2)
  begin_ends place s cs w u x y n r = from_bound (Begin place s cs w) u x y None (n + 2) r.bound (r.steps + 2) (λ m t le.
      ap (λ (o : CountedOutcome). counted_caught o cs (counted_evaluate q sizes (suc m) w u)) (r.done (suc m) t (omega arith))
      ∙ ap (CountedDone y None) (spend_two 2 2 n r.steps t))

  -- after a body that ends with a condition
  guard_done : (m : ℕ) (s : Stmt) (cs : List ConditionOf) (w : Stmt) (u : StackSizes) (x y : List ValueOf) (c : ConditionOf) (n : ℕ) (b : Bool)
      (r : RunsAfter q sizes u s x y (Some c) n) (t : Tally) → r.bound ≤ suc m → has_cond c cs ≡ b →
      counted_caught (counted_evaluate q sizes (suc m) s u x t) cs (counted_evaluate q sizes (suc m) w u)
      ≡ counted_either b (counted_part (counted_evaluate q sizes (suc m) w u y (spend 3 2 (spend n r.steps t))) (spend 1 1))
      (CountedDone y (Some c) (spend n r.steps t))
  guard_done m s cs w u x y c n b r t le e =
      ap (λ (o : CountedOutcome). counted_caught o cs (counted_evaluate q sizes (suc m) w u)) (r.done (suc m) t le)
      ∙ ap (λ (d : Bool). counted_either d (counted_part (counted_evaluate q sizes (suc m) w u y (spend 3 2 (spend n r.steps t))) (spend 1 1))
      (CountedDone y (Some c) (spend n r.steps t))) e

  begin_handles : (place : ℕ) (s : Stmt) (cs : List ConditionOf) (w : Stmt) (u : StackSizes) (x y z : List ValueOf) (c : ConditionOf)
      (d : CurrentCondition) (n k : ℕ) → has_cond c cs ≡ true → RunsAfter q sizes u s x y (Some c) n → RunsAfter q sizes u w y z d k
      → RunsAfter q sizes u (Begin place s cs w) x z d (n + 3 + k + join_count d 1)
  begin_handles place s cs w u x y z c d n k e r l =
      from_bound (Begin place s cs w) u x z d (n + 3 + k + join_count d 1) (r.bound + l.bound) (r.steps + 2 + l.steps + join_count d 1) (λ m t le.
      guard_done m s cs w u x y c n true r t (omega arith) e
      ∙ ap (λ (a : Tally). counted_part (counted_evaluate q sizes (suc m) w u y a) (spend 1 1)) (spend_two 3 2 n r.steps t)
      ∙ arm_done (suc m) w u y z d k (n + 3) (r.steps + 2) 1 1 l t (omega arith))

  begin_stops : (place : ℕ) (s : Stmt) (cs : List ConditionOf) (w : Stmt) (u : StackSizes) (x y : List ValueOf) (c : ConditionOf) (n : ℕ)
      → has_cond c cs ≡ false → RunsAfter q sizes u s x y (Some c) n → RunsAfter q sizes u (Begin place s cs w) x y (Some c) n
  begin_stops place s cs w u x y c n e r =
      from_bound (Begin place s cs w) u x y (Some c) n r.bound r.steps (λ m t le. guard_done m s cs w u x y c n false r t (omega arith) e)

  -- ---- calls

  call_spends : (p : ℕ) (t : Tally) → call_spend q p t ≡ spend (call_count q p) (call_spend q p start_tally).steps t
  unfolding call_spend
  call_spends p t = spends_so_much _ _ t

  out_spends : (b : Bool) (t : Tally) → out_spend b t ≡ spend (raised_price b).0 (raised_price b).1 t
  unfolding out_spend
  out_spends b t = refl

  return_steps : ℕ → CurrentCondition → ℕ
  return_steps p None = steps_of event.EndProc
  return_steps p (Some Leave) = (raised_price false).1
  return_steps p (Some Routine) = (raised_price false).1
  return_steps p (Some Space) = (raised_price true).1
  return_steps p (Some (Declared i)) = (raised_price (nat_lt i (proc_at q p).conds)).1

  returns : (p : ℕ) (xs : List ℕ) (cs : List ConditionOf) (x y : List ValueOf) (c : CurrentCondition) (t : Tally)
      → counted_returned q p xs cs x (CountedDone y c t) ≡ CountedDone (copied_out xs y x) (passed q p cs c)
      (spend (return_count q p c) (return_steps p c) t)
  unfolding matching is_passed_on return_steps
  returns p xs cs x y None t = refl
  returns p xs cs x y (Some Leave) t = ap (CountedDone (copied_out xs y x) (Some Routine)) (out_spends false t)
  returns p xs cs x y (Some Routine) t = ap (CountedDone (copied_out xs y x) (Some Routine)) (out_spends false t)
  returns p xs cs x y (Some Space) t = ap (CountedDone (copied_out xs y x) (Some Space)) (out_spends true t)
  returns p xs cs x y (Some (Declared i)) t =
      ap (CountedDone (copied_out xs y x) (passed q p cs (Some (Declared i)))) (out_spends (nat_lt i (proc_at q p).conds) t)

  call_returns : (place p : ℕ) (xs : List ℕ) (cs : List ConditionOf) (u : StackSizes) (x y : List ValueOf) (c : CurrentCondition) (n : ℕ)
      → lack_of q sizes p u ≡ Nothing → RunsAfter q sizes (with_call q p u) (body_of q p) (copied_in q p xs x) y c n →
      RunsAfter q sizes u (Call place p xs cs) x (copied_out xs y x) (passed q p cs c) (call_count q p + n + return_count q p c)
  call_returns place p xs cs u x y c n e r =
      let steps = (call_spend q p start_tally).steps in
      from_bound (Call place p xs cs) u x (copied_out xs y x) (passed q p cs c) (call_count q p + n + return_count q p c) r.bound
      (steps + r.steps + return_steps p c) (λ m t le.
      ap (λ (l : Lack). counted_if_room l x t (counted_returned q p xs cs x
      (counted_evaluate q sizes m (body_of q p) (with_call q p u) (copied_in q p xs x) (call_spend q p t)))) e
      ∙ ap (λ (a : Tally). counted_returned q p xs cs x (counted_evaluate q sizes m (body_of q p) (with_call q p u) (copied_in q p xs x) a)) (call_spends p t)
      ∙ ap (counted_returned q p xs cs x) (r.done m (spend (call_count q p) steps t) le ∙ ap (CountedDone y c) (spend_two n r.steps (call_count q p) steps t))
      ∙ returns p xs cs x y c (spend (call_count q p + n) (steps + r.steps) t)
      ∙ ap (CountedDone (copied_out xs y x) (passed q p cs c)) (spend_two (return_count q p c) (return_steps p c) (call_count q p + n) (steps + r.steps) t))

  without_room : (place p : ℕ) (xs : List ℕ) (cs : List ConditionOf) (u : StackSizes) (x : List ValueOf) (n steps : ℕ) (l : Lack)
      → lack_of q sizes p u ≡ l → ((t : Tally) (o : CountedOutcome) → counted_if_room l x t o ≡ CountedDone x (Some Space) (spend n steps t))
      → RunsAfter q sizes u (Call place p xs cs) x x (Some Space) n
  without_room place p xs cs u x n steps l e f = from_bound (Call place p xs cs) u x x (Some Space) n 0 steps (λ m t le.
      let inner = counted_returned q p xs cs x (counted_evaluate q sizes m (body_of q p) (with_call q p u) (copied_in q p xs x) (call_spend q p t)) in
      ap (λ (k : Lack). counted_if_room k x t inner) e ∙ f t inner)

  -- ---- predefined procedures

  applies : (place : ℕ) (r : Predef) (args : List Arg) (u : StackSizes) (x y : List ValueOf) (c : CurrentCondition) (e : Effect)
      → predef_effect r (values_of x args) ≡ e → ((t : Tally) → counted_applied r args e x t ≡ CountedDone y c (predef_spend r e t))
      → RunsAfter q sizes u (Apply place r args) x y c (predef_count r e)
  unfolding predef_cost
  applies place r args u x y c e is f = from_bound (Apply place r args) u x y c (predef_count r e) 0 (predef_cost r e).1 (λ m t le.
      ap (λ (d : Effect). counted_applied r args d x t) is ∙ f t)

  pub takes_counts : TakesCounts q sizes
  takes_counts = record {
    skip = skip;
    no_op = no_op;
    signal = signal;
    seq_on = seq_on;
    seq_stops = seq_stops;
    if_true = if_true;
    if_false = if_false;
    loop_on = loop_on;
    loop_left = loop_left;
    loop_stops = loop_stops;
    begin_ends = begin_ends;
    begin_handles = begin_handles;
    begin_stops = begin_stops;
    call_returns = call_returns;
    call_without_temporary = λ place p xs cs u x e. without_room place p xs cs u x 15 7 Temporary e (λ t o. refl);
    call_without_control = λ place p xs cs u x e. without_room place p xs cs u x 26 11 Control e (λ t o. refl);
    writes = λ place r args u x v e. applies place r args u x (slice_set x (target_of args) v) None (Normal v) e (λ t. refl);
    fails = λ place r args u x e. applies place r args u x x (Some Routine) Fault e (λ t. refl);
    is_beyond = λ place r args u x e. applies place r args u x x (Some Routine) Beyond e (λ t. refl);
  }

-- The rules with counts, by the statement's form. Each is the rule of the same name without them, and says what is added to the number of
-- instructions that were taken before. The rules of the predefined procedures serve both: `predef_after ▸ add_rule ..`.
use Rattle.std.proofs.Common.{◌≡◌, ℕ, zero, suc, ◌+◌, ◌<◌, List, map, length, take, Bool, true, false, Some, None, refl, sym, ap, ◌∙◌, subst, slice_set, arith}
use Rattle.std.{proofs.Common.{◌⊎◌, inl, inr, ⊎_elim}, specs.Prelude.{nat_lt, ◌==◌}, proofs.lemmas.Bool.eqb-true}
use Rattle.stack_text.specs.Values.{ValueOf}
use Rattle.gypsy_syntax.{specs.declared.predef.Predef.Predef, specs.Programs.{ConditionOf, Leave, Routine, Space, Declared, Arg, Program, proc_at, body_of}}
use Rattle.gypsy_syntax.{specs.Programs.{Stmt, Skip, NoOp, Signal, Seq, Loop, If, Begin, Call, Apply}, specs.Predefined.predef_effect, specs.Effects.Effect}
use Rattle.gypsy_syntax.specs.Effects.{Normal, Fault, Beyond, no_value, value_at, is_true_value}
use Rattle.gypsy_syntax.specs.declared.predef.Predef.TheVariants as row
use Rattle.gypsy_space.{specs.Costs.{Tally, spend, start_tally, count_of, leaving, main_spend}, specs.Needs.{StackSizes, main_used, with_call, has_room}}
use Rattle.gypsy_semantics.specs.Calls.{CurrentCondition, has_cond, is_passed_on, values_of, target_of, copied_in, copied_out, main_start, main_formals}
use Rattle.gypsy_semantics.{specs.Calls.main_way, specs.Meaning.{Done, Unfinished, applied, evaluate}, specs.Counted.{CountedDone, uncounted, counted_main_end}}
use Rattle.gypsy_semantics.{specs.Counted.counted_meaning, proofs.CountLaws.meaning-uncounted, proofs.Rooms.nothing_lacks}
use Rattle.gypsy_logic.{specs.Ends.{Ends, Either, Given, opened, formals_of, passed, Means}, specs.Counts.{RunsAfter, join_count, call_count, return_count}}
use Rattle.gypsy_logic.specs.Counts.{end_count, predef_count, CountedCondition, CountedExit, EndsAfter, ThenAfter, JoinedAfter, HandledAfter, RoundAfter}
use Rattle.gypsy_logic.specs.Counts.{AgainAfter, StandsAfter, PaidAfter, ReturnedAfter, CountedOutcomeOf, MeetsAfter, GivesAfter, MainEndsAfter, MeansAfter}
use Rattle.gypsy_logic.{proofs.CountedTableLaws.takes_counts, proofs.Rules.{way_ended, copied_taken}}

module _ {q : Program} {sizes u : StackSizes} where
  -- a run of which something is said, of the number of instructions in all
  ended_after : (s : Stmt) (x y : List ValueOf) (k n m : ℕ) (c : CurrentCondition) (Q : CountedExit) → RunsAfter q sizes u s x y c n → m ≡ k + n
      → Q y c m → EndsAfter q sizes u s x k Q
  ended_after s x y k n m c Q r e h = record { vars = y; way = c; taken = n; runs = r; holds = subst (Q y c) e h }

  -- ---- statements without parts

  pub skip_after : {x : List ValueOf} {k : ℕ} {Q : CountedExit} → Q x None k → EndsAfter q sizes u Skip x k Q
  skip_after {x = x} {k = k} {Q = Q} h = ended_after Skip x x k 0 k None Q ((takes_counts q sizes).skip u x) (omega arith) h

  pub no_op_after : {place : ℕ} {x : List ValueOf} {k : ℕ} {Q : CountedExit} → Q x None (k + 1) → EndsAfter q sizes u (NoOp place) x k Q
  no_op_after {place = place} {x = x} h = record { vars = x; way = None; taken = 1; runs = (takes_counts q sizes).no_op place u x; holds = h }

  pub signal_after : {place : ℕ} {c : ConditionOf} {x : List ValueOf} {k : ℕ} {Q : CountedExit} → Q x (Some c) (k + 4)
      → EndsAfter q sizes u (Signal place c) x k Q
  signal_after {place = place} {c = c} {x = x} h = record { vars = x; way = Some c; taken = 4; runs = (takes_counts q sizes).signal place c u x; holds = h }

  -- ---- one after the other

  second_after : (a b : Stmt) (x y : List ValueOf) (k n : ℕ) (c : CurrentCondition) (Q : CountedExit) → RunsAfter q sizes u a x y c n
      → ThenAfter (λ z m. EndsAfter q sizes u b z m Q) Q y c (k + n) → EndsAfter q sizes u (Seq a b) x k Q
  second_after a b x y k n None Q r h = ended_after (Seq a b) x h.vars k (n + h.taken) (k + n + h.taken) h.way Q
      ((takes_counts q sizes).seq_on a b u x y h.vars h.way n h.taken r h.runs) (omega arith) h.holds
  second_after a b x y k n (Some c) Q r h = record { vars = y; way = Some c; taken = n; runs = (takes_counts q sizes).seq_stops a b u x y c n r; holds = h }

  pub seq_after : {a b : Stmt} {x : List ValueOf} {k : ℕ} {Q : CountedExit} → EndsAfter q sizes u a x k
      (ThenAfter (λ y m. EndsAfter q sizes u b y m Q) Q) → EndsAfter q sizes u (Seq a b) x k Q
  seq_after {a = a} {b = b} {x = x} {k = k} {Q = Q} h = second_after a b x h.vars k h.taken h.way Q h.runs h.holds

  -- ---- one or the other

  pub if_true_after : {place b : ℕ} {s w : Stmt} {x : List ValueOf} {k : ℕ} {Q : CountedExit} → is_true_value (value_at x b) ≡ true
      → EndsAfter q sizes u s x (k + 8) (JoinedAfter 2 Q) → EndsAfter q sizes u (If place b s w) x k Q
  if_true_after {place = place} {b = b} {s = s} {w = w} {x = x} {k = k} {Q = Q} e h =
      ended_after (If place b s w) x h.vars k (8 + h.taken + join_count h.way 2) (k + 8 + h.taken + join_count h.way 2) h.way Q
      ((takes_counts q sizes).if_true place b s w u x h.vars h.way h.taken e h.runs) (omega arith) h.holds

  pub if_false_after : {place b : ℕ} {s w : Stmt} {x : List ValueOf} {k : ℕ} {Q : CountedExit} → is_true_value (value_at x b) ≡ false
      → EndsAfter q sizes u w x (k + 9) (JoinedAfter 1 Q) → EndsAfter q sizes u (If place b s w) x k Q
  if_false_after {place = place} {b = b} {s = s} {w = w} {x = x} {k = k} {Q = Q} e h =
      ended_after (If place b s w) x h.vars k (9 + h.taken + join_count h.way 1) (k + 9 + h.taken + join_count h.way 1) h.way Q
      ((takes_counts q sizes).if_false place b s w u x h.vars h.way h.taken e h.runs) (omega arith) h.holds

  pub if_after : {place b : ℕ} {s w : Stmt} {x : List ValueOf} {k : ℕ} {Q : CountedExit}
      → (is_true_value (value_at x b) ≡ true → EndsAfter q sizes u s x (k + 8) (JoinedAfter 2 Q))
      → (is_true_value (value_at x b) ≡ false → EndsAfter q sizes u w x (k + 9) (JoinedAfter 1 Q)) → EndsAfter q sizes u (If place b s w) x k Q
  if_after {place = place} {b = b} {s = s} {w = w} {x = x} {k = k} {Q = Q} h l = pick (is_true_value (value_at x b)) refl
    where
      pick : (t : Bool) → is_true_value (value_at x b) ≡ t → EndsAfter q sizes u (If place b s w) x k Q
      pick true e = if_true_after e (h e)
      pick false e = if_false_after e (l e)

  -- ---- handlers

  arm_after : (place : ℕ) (s : Stmt) (cs : List ConditionOf) (w : Stmt) (x y : List ValueOf) (k n : ℕ) (c : CurrentCondition) (Q : CountedExit)
      → RunsAfter q sizes u s x y c n → HandledAfter cs (λ z m. EndsAfter q sizes u w z m (JoinedAfter 1 Q)) Q y c (k + n)
      → EndsAfter q sizes u (Begin place s cs w) x k Q
  arm_after place s cs w x y k n None Q r h =
      ended_after (Begin place s cs w) x y k (n + 2) (k + n + 2) None Q ((takes_counts q sizes).begin_ends place s cs w u x y n r) (omega arith) h
  arm_after place s cs w x y k n (Some c) Q r h = pick (has_cond c cs) refl h
    where
      pick : (t : Bool) → has_cond c cs ≡ t → Either t (EndsAfter q sizes u w y (k + n + 3) (JoinedAfter 1 Q)) (Q y (Some c) (k + n))
          → EndsAfter q sizes u (Begin place s cs w) x k Q
      pick true e l = ended_after (Begin place s cs w) x l.vars k (n + 3 + l.taken + join_count l.way 1) (k + n + 3 + l.taken + join_count l.way 1) l.way Q
          ((takes_counts q sizes).begin_handles place s cs w u x y l.vars c l.way n l.taken e r l.runs) (omega arith) l.holds
      pick false e l = record { vars = y; way = Some c; taken = n; runs = (takes_counts q sizes).begin_stops place s cs w u x y c n e r; holds = l }

  pub begin_after : {place : ℕ} {s : Stmt} {cs : List ConditionOf} {w : Stmt} {x : List ValueOf} {k : ℕ} {Q : CountedExit}
      → EndsAfter q sizes u s x k (HandledAfter cs (λ y m. EndsAfter q sizes u w y m (JoinedAfter 1 Q)) Q)
      → EndsAfter q sizes u (Begin place s cs w) x k Q
  begin_after {place = place} {s = s} {cs = cs} {w = w} {x = x} {k = k} {Q = Q} h = arm_after place s cs w x h.vars k h.taken h.way Q h.runs h.holds

  -- ---- loops

  module _ (place : ℕ) (s : Stmt) (I : ℕ → CountedCondition) (Q : CountedExit)
      (each : (n : ℕ) (x : List ValueOf) (k : ℕ) → I n x k → EndsAfter q sizes u s x (k + 1) (RoundAfter (AgainAfter I n) Q)) where
    rounds_after : (l n : ℕ) → n < l → (x : List ValueOf) (k : ℕ) → I n x k → EndsAfter q sizes u (Loop place s) x k Q
    rounds_after zero n less x k i = absurd (omega arith)
    rounds_after (suc l) n less x k i = let r = each n x k i in pick (λ m lt y j h. rounds_after l m lt y j h) r.vars r.taken r.way r.runs r.holds
      where
        pick : ((m : ℕ) → m < l → (y : List ValueOf) (j : ℕ) → I m y j → EndsAfter q sizes u (Loop place s) y j Q)
            → (y : List ValueOf) (t : ℕ) (c : CurrentCondition) → RunsAfter q sizes u s x y c t → RoundAfter (AgainAfter I n) Q y c (k + 1 + t)
            → EndsAfter q sizes u (Loop place s) x k Q
        pick next y t None r h =
            let o = next h.0 (omega (arith, h.1)) y (k + 1 + t + 1) h.2 in
            ended_after (Loop place s) x o.vars k (1 + t + 1 + o.taken) (k + 1 + t + 1 + o.taken) o.way Q
            ((takes_counts q sizes).loop_on place s u x y o.vars o.way t o.taken r o.runs) (omega arith) o.holds
        pick next y t (Some Leave) r h =
            ended_after (Loop place s) x y k (1 + t + 3) (k + 1 + t + 3) None Q ((takes_counts q sizes).loop_left place s u x y t r) (omega arith) h
        pick next y t (Some Routine) r h = ended_after (Loop place s) x y k (1 + t) (k + 1 + t) (Some Routine) Q
            ((takes_counts q sizes).loop_stops place s u x y Routine t refl r) (omega arith) h
        pick next y t (Some Space) r h = ended_after (Loop place s) x y k (1 + t) (k + 1 + t) (Some Space) Q
            ((takes_counts q sizes).loop_stops place s u x y Space t refl r) (omega arith) h
        pick next y t (Some (Declared j)) r h = ended_after (Loop place s) x y k (1 + t) (k + 1 + t) (Some (Declared j)) Q
            ((takes_counts q sizes).loop_stops place s u x y (Declared j) t refl r) (omega arith) h

  -- An invariant I n of the variables and of the number of instructions before a round, where n is the measure.
  pub loop_after : {place : ℕ} {s : Stmt} {x : List ValueOf} {k : ℕ} {Q : CountedExit} (I : ℕ → CountedCondition)
      → ((n : ℕ) (y : List ValueOf) (j : ℕ) → I n y j → EndsAfter q sizes u s y (j + 1) (RoundAfter (AgainAfter I n) Q)) → (n : ℕ) → I n x k
      → EndsAfter q sizes u (Loop place s) x k Q
  loop_after {place = place} {s = s} {x = x} {k = k} {Q = Q} I each n i = rounds_after place s I Q each (suc n) n (omega arith) x k i

  -- The same where the variables are written out: vars n a, from a state a with the measure n, with count n a instructions taken before.
  pub loop_over_after : {place : ℕ} {s : Stmt} {Q : CountedExit} (State : ℕ → Type 0) (vars : (n : ℕ) → State n → List ValueOf)
      (count : (n : ℕ) → State n → ℕ) → ((n : ℕ) (a : State n) → EndsAfter q sizes u s (vars n a) (count n a + 1)
      (RoundAfter (AgainAfter (StandsAfter State vars count) n) Q)) → (n : ℕ) (a : State n) →
      EndsAfter q sizes u (Loop place s) (vars n a) (count n a) Q
  loop_over_after {place = place} {s = s} {Q = Q} State vars count each n a =
      loop_after (StandsAfter State vars count)
      (λ m y j h.
      subst (λ (z : List ValueOf). EndsAfter q sizes u s z (j + 1) (RoundAfter (AgainAfter (StandsAfter State vars count) m) Q)) (sym h.1)
      (subst (λ (i : ℕ). EndsAfter q sizes u s (vars m h.0) (i + 1) (RoundAfter (AgainAfter (StandsAfter State vars count) m) Q)) (sym h.2) (each m h.0)))
      n (a, refl, refl)

  -- ---- for any statement

  -- consequence
  pub weaker_after : {s : Stmt} {x : List ValueOf} {k : ℕ} {Q R : CountedExit} → EndsAfter q sizes u s x k Q
      → ((y : List ValueOf) (c : CurrentCondition) (n : ℕ) → Q y c n → R y c n) → EndsAfter q sizes u s x k R
  weaker_after {k = k} h f = record { vars = h.vars; way = h.way; taken = h.taken; runs = h.runs; holds = f h.vars h.way (k + h.taken) h.holds }

  -- another number of instructions before it
  pub from_count : {s : Stmt} {x : List ValueOf} {k : ℕ} {Q : CountedExit} (j : ℕ) → k ≡ j → EndsAfter q sizes u s x j Q → EndsAfter q sizes u s x k Q
  from_count {s = s} {x = x} {k = k} {Q = Q} j e h = subst (λ (i : ℕ). EndsAfter q sizes u s x i Q) (sym e) h

-- ---- predefined procedures

count_is : (r : Predef) (v : ValueOf) → predef_count r (Normal v) ≡ predef_count r (Normal no_value)
count_is row.MgSimpleVariableAssignment v = refl
count_is row.MgSimpleConstantAssignment v = refl
count_is row.MgSimpleVariableEq v = refl
count_is row.MgSimpleConstantEq v = refl
count_is row.MgIntegerLe v = refl
count_is row.MgIntegerUnaryMinus v = refl
count_is row.MgIntegerAdd v = refl
count_is row.MgIntegerSubtract v = refl
count_is row.MgBooleanOr v = refl
count_is row.MgBooleanAnd v = refl
count_is row.MgBooleanNot v = refl
count_is row.MgIndexArray v = refl
count_is row.MgArrayElementAssignment v = refl
count_is row.MgIntegerMultiply v = refl

module _ {q : Program} {sizes u : StackSizes} where
  module _ (place : ℕ) (r : Predef) (args : List Arg) (x : List ValueOf) (k : ℕ) (Q : CountedExit) where
    -- where both failures take as many instructions, it doesn't matter which it is
    either_failure : (b : Bool) → (predef_count r Fault == predef_count r Beyond) ≡ b → Either b (Q x (Some Routine) (k + predef_count r Fault)) ⊥
        → (n : ℕ) → (n ≡ predef_count r Fault) ⊎ (n ≡ predef_count r Beyond) → RunsAfter q sizes u (Apply place r args) x x (Some Routine) n
        → EndsAfter q sizes u (Apply place r args) x k Q
    either_failure true e h n which runs =
        let same = eqb-true (predef_count r Fault) (predef_count r Beyond) e in
        record {
          vars = x;
          way = Some Routine;
          taken = n;
          runs = runs;
          holds = subst (λ (i : ℕ). Q x (Some Routine) (k + i))
              (⊎_elim (λ f. sym f) (λ f. same ∙ sym f) which) h;
        }
    either_failure false e h n which runs = absurd h

    paid : (e : Effect) → predef_effect r (values_of x args) ≡ e → (y : List ValueOf) (c : CurrentCondition) → applied args e x ≡ Done y c
        → PaidAfter r k Q y c → EndsAfter q sizes u (Apply place r args) x k Q
    paid (Normal v) is y None done h =
        let same : slice_set x (target_of args) v ≡ y = cc in
        record {
          vars = slice_set x (target_of args) v;
          way = None;
          taken = predef_count r (Normal v);
          runs = (takes_counts q sizes).writes place r args u x v is;
          holds = subst (λ (i : ℕ). Q (slice_set x (target_of args) v) None (k + i))
              (sym (count_is r v)) (subst (λ (z : List ValueOf). Q z None (k + predef_count r (Normal no_value))) (sym same) h);
        }
    paid (Normal v) is y (Some c) done h = absurd (let e : None ≡ Some c = cc in cc)
    paid Fault is y None done h = absurd (let e : Some Routine ≡ None = cc in cc)
    paid Fault is y (Some c) done h =
        let same : x ≡ y = cc in
        let which : Routine ≡ c = cc in
        either_failure (predef_count r Fault == predef_count r Beyond) refl
        (subst (λ (d : ConditionOf). Either (predef_count r Fault == predef_count r Beyond) (Q x (Some d) (k + predef_count r Fault)) ⊥) (sym which)
        (subst (λ (z : List ValueOf). PaidAfter r k Q z (Some c)) (sym same) h)) (predef_count r Fault) (inl refl)
        ((takes_counts q sizes).fails place r args u x is)
    paid Beyond is y None done h = absurd (let e : Some Routine ≡ None = cc in cc)
    paid Beyond is y (Some c) done h =
        let same : x ≡ y = cc in
        let which : Routine ≡ c = cc in
        either_failure (predef_count r Fault == predef_count r Beyond) refl
        (subst (λ (d : ConditionOf). Either (predef_count r Fault == predef_count r Beyond) (Q x (Some d) (k + predef_count r Fault)) ⊥) (sym which)
        (subst (λ (z : List ValueOf). PaidAfter r k Q z (Some c)) (sym same) h)) (predef_count r Beyond) (inr refl)
        ((takes_counts q sizes).is_beyond place r args u x is)

    paid_run : (n : ℕ) (y : List ValueOf) (c : CurrentCondition) → evaluate q sizes n (Apply place r args) u x ≡ Done y c → PaidAfter r k Q y c
        → EndsAfter q sizes u (Apply place r args) x k Q
    paid_run zero y c done h = absurd (let e : Unfinished ≡ Done y c = done in cc)
    paid_run (suc n) y c done h = paid (predef_effect r (values_of x args)) refl y c done h

  -- by the rule without counts
  pub predef_after : {place : ℕ} {r : Predef} {args : List Arg} {x : List ValueOf} {k : ℕ} {Q : CountedExit}
      → Ends q sizes u (Apply place r args) x (PaidAfter r k Q) → EndsAfter q sizes u (Apply place r args) x k Q
  predef_after {place = place} {r = r} {args = args} {x = x} {k = k} {Q = Q} h = paid_run place r args x k Q h.runs.bound h.vars h.way h.runs.done h.holds

-- where it is known how it fails
module _ {q : Program} {sizes u : StackSizes} {place : ℕ} {r : Predef} {args : List Arg} {x : List ValueOf} {k : ℕ} {Q : CountedExit} where
  pub fault_after : predef_effect r (values_of x args) ≡ Fault → Q x (Some Routine) (k + predef_count r Fault) → EndsAfter q sizes u (Apply place r args) x k Q
  fault_after e h = record { vars = x; way = Some Routine; taken = predef_count r Fault; runs = (takes_counts q sizes).fails place r args u x e; holds = h }

  pub beyond_after : predef_effect r (values_of x args) ≡ Beyond → Q x (Some Routine) (k + predef_count r Beyond)
      → EndsAfter q sizes u (Apply place r args) x k Q
  beyond_after e h =
      record { vars = x; way = Some Routine; taken = predef_count r Beyond; runs = (takes_counts q sizes).is_beyond place r args u x e; holds = h }

-- ---- calls of procedures

module _ {q : Program} {sizes u : StackSizes} where
  -- by the callee's body, where the stacks have room for the call
  pub call_after : {place p : ℕ} {xs : List ℕ} {cs : List ConditionOf} {x : List ValueOf} {k : ℕ} {Q : CountedExit} → has_room q sizes p u ≡ true
      → EndsAfter q sizes (with_call q p u) (body_of q p) (opened q p (map (value_at x) xs)) (k + call_count q p) (ReturnedAfter q p xs cs x Q)
      → EndsAfter q sizes u (Call place p xs cs) x k Q
  unfolding copied_in
  call_after {place = place} {p = p} {xs = xs} {cs = cs} {x = x} {k = k} {Q = Q} room h =
      ended_after (Call place p xs cs) x (copied_out xs h.vars x) k (call_count q p + h.taken + return_count q p h.way)
      (k + call_count q p + h.taken + return_count q p h.way) (passed q p cs h.way) Q
      ((takes_counts q sizes).call_returns place p xs cs u x h.vars h.way h.taken (nothing_lacks q sizes p u room) h.runs) (omega arith) h.holds

module _ {q : Program} {sizes : StackSizes} {p : ℕ} {Room : StackSizes → Type 0} where
  -- a contract for given values: what the body ends with, counted from its beginning
  pub meets_after : {v : List ValueOf} {Post : CountedOutcomeOf}
      → ((u : StackSizes) → Room u → EndsAfter q sizes (with_call q p u) (body_of q p) (opened q p v) 0 (λ y c n. Post v (formals_of q p y) c n))
      → MeetsAfter q sizes p (Given v Room) Post
  meets_after {v = v} {Post = Post} h = record {
    ends = λ u w given.
        subst (λ (w : List ValueOf). EndsAfter q sizes (with_call q p u) (body_of q p) (opened q p w) 0 (λ y c n. Post w (formals_of q p y) c n))
        (sym given.0) (h u given.1);
  }

  -- by a contract that says which values, which condition and which number of instructions come back
  pub given_after : {u : StackSizes} {place : ℕ} {xs : List ℕ} {cs : List ConditionOf} {x v w : List ValueOf} {c : CurrentCondition} {n k : ℕ}
      {Q : CountedExit} → MeetsAfter q sizes p (Given v Room) (GivesAfter w c n) → map (value_at x) xs ≡ v → length xs ≡ length (proc_at q p).formals
      → has_room q sizes p u ≡ true → Room u →
      Q (copied_out xs w x) (passed q p cs c) (k + call_count q p + n + return_count q p c) → EndsAfter q sizes u (Call place p xs cs) x k Q
  given_after {u = u} {place = place} {xs = xs} {cs = cs} {x = x} {v = v} {w = w} {c = c} {n = n} {k = k} {Q = Q} meets given same has room h =
      let b = meets.ends u (map (value_at x) xs) (given, room) in
      let copied : copied_out xs w x ≡ copied_out xs b.vars x =
      ap (λ (y : List ValueOf). copied_out xs y x) (sym b.holds.0) ∙ ap (λ (m : ℕ). copied_out xs (take m b.vars) x) (sym same) ∙ copied_taken xs b.vars x in
      let taken : n ≡ b.taken = omega (arith, b.holds.2) in
      call_after has record {
        vars = b.vars;
        way = b.way;
        taken = b.taken;
        runs = b.runs;
        holds =
            subst (λ (m : ℕ). Q (copied_out xs b.vars x) (passed q p cs b.way) (k + call_count q p + m + return_count q p b.way)) taken
            (subst (λ (d : CurrentCondition). Q (copied_out xs b.vars x) (passed q p cs d) (k + call_count q p + n + return_count q p d)) (sym b.holds.1)
            (subst (λ (y : List ValueOf). Q y (passed q p cs c) (k + call_count q p + n + return_count q p c)) copied h));
      }

-- ---- main

end_spends : (b : Bool) (t : Tally) → (main_spend b t).count ≡ t.count + count_of (leaving b)
unfolding main_spend spend
end_spends b t = refl

ending_spends : (q : Program) (c : ConditionOf) (t : Tally) → (main_spend (is_passed_on q q.main c) t).count ≡ t.count + end_count q (Some c)
unfolding is_passed_on
ending_spends q Leave t = end_spends false t
ending_spends q Routine t = end_spends false t
ending_spends q Space t = end_spends true t
ending_spends q (Declared i) t = end_spends (nat_lt i (proc_at q q.main).conds) t

module _ {q : Program} {sizes : StackSizes} {v : List ValueOf} where
  ends_main : (n taken steps : ℕ) (y : List ValueOf) (c : CurrentCondition) (Q : CountedExit)
      → counted_meaning q sizes v n ≡ counted_main_end q (CountedDone y c (spend taken steps start_tally)) → MainEndsAfter q Q y c (0 + taken)
      → MeansAfter q sizes v Q
  unfolding main_formals spend
  ends_main n taken steps y None Q done h =
      record { finals = main_formals q y; way = None; tally = spend 5 2 (spend taken steps start_tally); bound = n; done = done; holds = h }
  ends_main n taken steps y (Some c) Q done h = record {
    finals = main_formals q y;
    way = Some (main_way q c);
    tally = main_spend (is_passed_on q q.main c) (spend taken steps start_tally);
    bound = n;
    done = done;
    holds = subst (Q (formals_of q q.main y) (Some (main_way q c))) (sym (ending_spends q c (spend taken steps start_tally)))
        (subst (λ (d : CurrentCondition). Q (formals_of q q.main y) d (0 + taken + end_count q (Some c))) (way_ended q c) h);
  }

  pub main_after : {Q : CountedExit} → EndsAfter q sizes (main_used q) (body_of q q.main) (opened q q.main v) 0 (MainEndsAfter q Q) → MeansAfter q sizes v Q
  unfolding main_start
  main_after {Q = Q} h =
      ends_main h.runs.bound h.taken h.runs.steps h.vars h.way Q (ap (counted_main_end q) (h.runs.done h.runs.bound start_tally (omega arith))) h.holds

  -- what is said with counts holds without them
  pub without_counts : {Q : List ValueOf → CurrentCondition → Type 0} → MeansAfter q sizes v (λ y c n. Q y c) → Means q sizes v Q
  without_counts m = record {
    finals = m.finals;
    way = m.way;
    bound = m.bound;
    done = sym (meaning-uncounted q sizes v m.bound) ∙ ap uncounted m.done;
    holds = m.holds;
  }

-- What was spent before changes nothing of a step but what is spent after it.
use Rattle.std.proofs.Common.{◌≡◌, ℕ, ◌+◌, List, [], ◌∷◌, slice_set, Bool, true, false, Some, None, refl, ap, ◌∙◌, add_assoc, add-zero}
use Rattle.stack_text.specs.Values.{ValueOf}
use Rattle.gypsy_syntax.{specs.declared.predef.Predef.Predef, specs.Predefined.{predef_cost, predef_effect}, specs.Programs.{ConditionOf, Routine, Space, Arg}}
use Rattle.gypsy_syntax.{specs.Programs.{Program, body_of, Stmt, Skip, NoOp, Signal, Seq, Loop, If, Begin, Call, Apply}, specs.Effects.{Effect, Normal, Fault}}
use Rattle.gypsy_syntax.specs.Effects.{Beyond, value_at, is_true_value}
use Rattle.gypsy_space.{specs.Costs.{Tally, spend, start_tally, predef_spend, out_spend, main_spend}, specs.Needs.{StackSizes, lack_of, call_spend}}
use Rattle.gypsy_space.{specs.declared.need.Lack.Lack, specs.declared.need.Lack.TheVariants.{Nothing, Temporary, Control}}
use Rattle.gypsy_semantics.specs.Calls.{has_cond, is_leave, is_passed_on, matching, main_way, values_of, target_of, copied_in, copied_out, main_formals}
use Rattle.gypsy_semantics.specs.Machine.{Item, Do, Back, JoinThen, JoinOne, Guard, Out, Frame, Held, State, At, Move, Next, Ended, open_on, settle, stop_if}
use Rattle.gypsy_semantics.specs.Machine.{raise, either_move, apply_step, used, call_step, do_step, end_step, out_step, gypsy_step}

-- both together
abbrev pub plus : Tally → Tally → Tally
plus t u = record { count = t.count + u.count; steps = t.steps + u.steps }

abbrev pub add : Tally → State → State
add t (At p x w fs u) = At p x w fs (plus t u)

abbrev pub add_to : Tally → Move → Move
add_to t (Next g) = Next (add t g)
add_to t (Ended x c u) = Ended x c (plus t u)

pub plus-nothing : (t : Tally) → plus t start_tally ≡ t
plus-nothing t = λ i. record { count = add-zero t.count i; steps = add-zero t.steps i }

spend_apart : (i p : ℕ) (t u : Tally) → spend i p (plus t u) ≡ plus t (spend i p u)
unfolding spend
spend_apart i p t u = λ j. record { count = add_assoc t.count u.count i j; steps = add_assoc t.steps u.steps p j }

predef_apart : (r : Predef) (e : Effect) (t u : Tally) → predef_spend r e (plus t u) ≡ plus t (predef_spend r e u)
predef_apart r e t u = spend_apart (predef_cost r e).0 (predef_cost r e).1 t u

out_apart : (b : Bool) (t u : Tally) → out_spend b (plus t u) ≡ plus t (out_spend b u)
unfolding out_spend
out_apart true t u = spend_apart 14 7 t u
out_apart false t u = spend_apart 17 9 t u

main_apart : (b : Bool) (t u : Tally) → main_spend b (plus t u) ≡ plus t (main_spend b u)
unfolding main_spend
main_apart true t u = spend_apart 4 1 t u
main_apart false t u = spend_apart 7 3 t u

call_apart : (q : Program) (p : ℕ) (t u : Tally) → call_spend q p (plus t u) ≡ plus t (call_spend q p u)
unfolding call_spend
call_apart q p t u = spend_apart _ _ t u

module _ (t : Tally) where
  stop_apart : (b : Bool) (a r a' r' : State) → a ≡ add t a' → r ≡ add t r' → stop_if b a r ≡ add t (stop_if b a' r')
  stop_apart true a r a' r' e f = e
  stop_apart false a r a' r' e f = f

  -- the same state, with what is spent apart
  at_apart : (p : ℕ) (x : List ValueOf) (w : List Item) (fs : List Frame) (u v : Tally) → u ≡ plus t v → At p x w fs u ≡ add t (At p x w fs v)
  at_apart p x w fs u v e = ap (At p x w fs) e

  raise_apart : (c : ConditionOf) (p : ℕ) (x : List ValueOf) (w : List Item) (fs : List Frame) (u : Tally)
      → raise c p x w fs (plus t u) ≡ add t (raise c p x w fs u)
  raise_apart c p x [] fs u = refl
  raise_apart c p x (Do s ∷ w) fs u = raise_apart c p x w fs u
  raise_apart c p x (Back place s ∷ w) fs u =
      stop_apart (is_leave c) _ _ (At p x (settle w) fs (spend 3 2 u)) (raise c p x w fs u)
      (at_apart p x (settle w) fs (spend 3 2 (plus t u)) (spend 3 2 u) (spend_apart 3 2 t u)) (raise_apart c p x w fs u)
  raise_apart c p x (JoinThen place v ∷ w) fs u = raise_apart c p x w fs u
  raise_apart c p x (JoinOne place ∷ w) fs u = raise_apart c p x w fs u
  raise_apart c p x (Guard place cs v ∷ w) fs u =
      stop_apart (has_cond c cs) _ _ (At p x (open_on v (JoinOne place ∷ w)) fs (spend 3 2 u)) (raise c p x w fs u)
      (at_apart p x (open_on v (JoinOne place ∷ w)) fs (spend 3 2 (plus t u)) (spend 3 2 u) (spend_apart 3 2 t u)) (raise_apart c p x w fs u)
  raise_apart c p x (Out d ∷ w) fs u = raise_apart c p x w fs u

  -- a condition that is raised after a cost
  raised_apart : (c : ConditionOf) (p : ℕ) (x : List ValueOf) (w : List Item) (fs : List Frame) (u v : Tally) → u ≡ plus t v
      → Next (raise c p x w fs u) ≡ Next (add t (raise c p x w fs v))
  raised_apart c p x w fs u v e = ap Next (ap (raise c p x w fs) e ∙ raise_apart c p x w fs v)

  next_apart : (p : ℕ) (x : List ValueOf) (w : List Item) (fs : List Frame) (u v : Tally) → u ≡ plus t v → Next (At p x w fs u) ≡ Next (add t (At p x w fs v))
  next_apart p x w fs u v e = ap Next (at_apart p x w fs u v e)

  apply_apart : (r : Predef) (args : List Arg) (e : Effect) (p : ℕ) (x : List ValueOf) (w : List Item) (fs : List Frame) (u : Tally)
      → apply_step r args e p x w fs (plus t u) ≡ add_to t (apply_step r args e p x w fs u)
  apply_apart r args (Normal v) p x w fs u =
      next_apart p (slice_set x (target_of args) v) (settle w) fs (predef_spend r (Normal v) (plus t u)) (predef_spend r (Normal v) u)
      (predef_apart r (Normal v) t u)
  apply_apart r args Fault p x w fs u = raised_apart Routine p x w fs (predef_spend r Fault (plus t u)) (predef_spend r Fault u) (predef_apart r Fault t u)
  apply_apart r args Beyond p x w fs u = raised_apart Routine p x w fs (predef_spend r Beyond (plus t u)) (predef_spend r Beyond u) (predef_apart r Beyond t u)

  either_apart : (b : Bool) (a r a' r' : State) → a ≡ add t a' → r ≡ add t r' → either_move b (Next a) (Next r) ≡ add_to t (either_move b (Next a') (Next r'))
  either_apart true a r a' r' e f = ap Next e
  either_apart false a r a' r' e f = ap Next f

  called_apart : (q : Program) (l : Lack) (c : ℕ) (xs : List ℕ) (cs : List ConditionOf) (p : ℕ) (x : List ValueOf) (w : List Item) (fs : List Frame)
      (u : Tally) → call_step q l c xs cs p x w fs (plus t u) ≡ add_to t (call_step q l c xs cs p x w fs u)
  called_apart q Nothing c xs cs p x w fs u = next_apart c (copied_in q c xs x) (open_on (body_of q c) []) (Held p x w xs cs ∷ fs)
      (call_spend q c (plus t u)) (call_spend q c u) (call_apart q c t u)
  called_apart q Temporary c xs cs p x w fs u = raised_apart Space p x w fs (spend 15 7 (plus t u)) (spend 15 7 u) (spend_apart 15 7 t u)
  called_apart q Control c xs cs p x w fs u = raised_apart Space p x w fs (spend 26 11 (plus t u)) (spend 26 11 u) (spend_apart 26 11 t u)

  module _ (q : Program) (sizes : StackSizes) where
    do_apart : (s : Stmt) (p : ℕ) (x : List ValueOf) (w : List Item) (fs : List Frame) (u : Tally)
        → do_step q sizes s p x w fs (plus t u) ≡ add_to t (do_step q sizes s p x w fs u)
    do_apart Skip p x w fs u = refl
    do_apart (NoOp place) p x w fs u = next_apart p x (settle w) fs (spend 1 1 (plus t u)) (spend 1 1 u) (spend_apart 1 1 t u)
    do_apart (Signal place c) p x w fs u = raised_apart c p x w fs (spend 4 3 (plus t u)) (spend 4 3 u) (spend_apart 4 3 t u)
    do_apart (Seq a b) p x w fs u = refl
    do_apart (Loop place s) p x w fs u = next_apart p x (open_on s (Back place s ∷ w)) fs (spend 1 1 (plus t u)) (spend 1 1 u) (spend_apart 1 1 t u)
    do_apart (If place b s v) p x w fs u =
        either_apart (is_true_value (value_at x b)) _ _ (At p x (open_on s (JoinThen place v ∷ w)) fs (spend 8 3 u))
        (At p x (open_on v (JoinOne place ∷ w)) fs (spend 9 4 u))
        (at_apart p x (open_on s (JoinThen place v ∷ w)) fs (spend 8 3 (plus t u)) (spend 8 3 u) (spend_apart 8 3 t u))
        (at_apart p x (open_on v (JoinOne place ∷ w)) fs (spend 9 4 (plus t u)) (spend 9 4 u) (spend_apart 9 4 t u))
    do_apart (Begin place s cs v) p x w fs u = refl
    do_apart (Call place c xs cs) p x w fs u = called_apart q (lack_of q sizes c (used q p fs)) c xs cs p x w fs u
    do_apart (Apply place r args) p x w fs u = apply_apart r args (predef_effect r (values_of x args)) p x w fs u

    end_apart : (p : ℕ) (y : List ValueOf) (fs : List Frame) (u : Tally) → end_step q p y fs (plus t u) ≡ add_to t (end_step q p y fs u)
    end_apart p y [] u = ap (Ended (main_formals q y) None) (spend_apart 5 2 t u)
    end_apart p y (Held c x w xs cs ∷ fs) u = next_apart c (copied_out xs y x) (settle w) fs (spend 12 6 (plus t u)) (spend 12 6 u) (spend_apart 12 6 t u)

    out_from_apart : (d : ConditionOf) (p : ℕ) (y : List ValueOf) (fs : List Frame) (u : Tally)
        → out_step q d p y fs (plus t u) ≡ add_to t (out_step q d p y fs u)
    out_from_apart d p y [] u = ap (Ended (main_formals q y) (Some (main_way q d))) (main_apart (is_passed_on q q.main d) t u)
    out_from_apart d p y (Held c x w xs cs ∷ fs) u =
        raised_apart (matching q p cs d) c (copied_out xs y x) w fs (out_spend (is_passed_on q p d) (plus t u)) (out_spend (is_passed_on q p d) u)
        (out_apart (is_passed_on q p d) t u)

    pub step_apart : (g : State) → gypsy_step q sizes (add t g) ≡ add_to t (gypsy_step q sizes g)
    step_apart (At p x [] fs u) = end_apart p x fs u
    step_apart (At p x (Do s ∷ w) fs u) = do_apart s p x w fs u
    step_apart (At p x (Back place s ∷ w) fs u) = next_apart p x (open_on (Loop place s) w) fs (spend 1 1 (plus t u)) (spend 1 1 u) (spend_apart 1 1 t u)
    step_apart (At p x (JoinThen place v ∷ w) fs u) = next_apart p x (settle w) fs (spend 2 2 (plus t u)) (spend 2 2 u) (spend_apart 2 2 t u)
    step_apart (At p x (JoinOne place ∷ w) fs u) = next_apart p x (settle w) fs (spend 1 1 (plus t u)) (spend 1 1 u) (spend_apart 1 1 t u)
    step_apart (At p x (Guard place cs v ∷ w) fs u) = next_apart p x (settle w) fs (spend 2 2 (plus t u)) (spend 2 2 u) (spend_apart 2 2 t u)
    step_apart (At p x (Out c ∷ w) fs u) = out_from_apart c p x fs u

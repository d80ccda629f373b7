-- The step machine follows the counted meaning.
use Rattle.std.proofs.Common.{◌≡◌, ℕ, zero, suc, ◌≤◌, List, [], ◌∷◌, Bool, true, false, Some, None, refl, sym, ap, ◌∙◌, subst, ⊎_elim, arith}
use Rattle.std.proofs.lemmas.Bool.{cases_lt}
use Rattle.stack_text.specs.Values.{ValueOf}
use Rattle.gypsy_syntax.{specs.declared.predef.Predef.Predef, specs.Programs.{ConditionOf, Arg, Program, body_of, Stmt, Skip, NoOp, Signal, Seq, Loop, If}}
use Rattle.gypsy_syntax.{specs.Programs.{Begin, Call, Apply}, specs.Predefined.predef_effect, specs.Effects.{Effect, Normal, Fault, Beyond, value_at}}
use Rattle.gypsy_syntax.specs.Effects.{is_true_value}
use Rattle.gypsy_space.{specs.Costs.{Tally, spend, start_tally}, specs.Needs.{StackSizes, main_used, with_call, lack_of, call_spend}}
use Rattle.gypsy_space.{specs.declared.need.Lack.Lack, specs.declared.need.Lack.TheVariants.{Nothing, Temporary, Control}}
use Rattle.gypsy_semantics.{specs.Calls.{CurrentCondition, has_cond, is_leave, values_of, copied_in, main_start}, specs.Counted.{CountedOutcome, CountedDone}}
use Rattle.gypsy_semantics.specs.Counted.{CountedUnfinished, CountedMeans, counted_then, counted_part, counted_either, counted_caught, counted_round_end}
use Rattle.gypsy_semantics.specs.Counted.{counted_applied, counted_returned, counted_if_room, counted_evaluate, counted_main_end, counted_meaning}
use Rattle.gypsy_semantics.specs.Machine.{Item, Do, Back, JoinThen, JoinOne, Guard, Frame, Held, State, At, Move, Next, Ended, open_on, settle, stop_if, raise}
use Rattle.gypsy_semantics.{specs.Machine.{either_move, apply_step, used, call_step, gypsy_step, Ending, Over, Going, go_on, run, start}, specs.Agree.Agree}

-- a run that is over
abbrev pub IsOver : Ending → Type 0
IsOver (Over x c t) = Unit {0}
IsOver Going = ⊥

go_longer : (f h : State → Ending) → ((g : State) (o : Ending) → IsOver o → f g ≡ o → h g ≡ o) → (a : Move) (o : Ending) → IsOver o → go_on a f ≡ o
    → go_on a h ≡ o
go_longer f h l (Next g) o over e = l g o over e
go_longer f h l (Ended x c t) o over e = e

module _ (q : Program) (sizes : StackSizes) where
  -- the machine goes from one state to another, in no step or more
  record Comes (g h : State) : Type 0 where
    by : (k : ℕ) → (j : ℕ) × (k ≤ j) × (run q sizes j g ≡ run q sizes k h)

  -- what an outcome says of the machine at g, where the statement stands over the list w
  abbrev Runs : ℕ → ℕ → List Frame → State → List Item → CountedOutcome → Type 0
  Runs n p fs g w (CountedDone x None t) = Comes g (At p x (settle w) fs t)
  Runs n p fs g w (CountedDone x (Some c) t) = Comes g (raise c p x w fs t)
  Runs n p fs g w CountedUnfinished = (j : ℕ) × (n ≤ j) × (run q sizes j g ≡ Going)

  -- what a counted meaning says of the machine
  abbrev Follows : ℕ → CountedMeans → Type 0
  Follows n m = (s : Stmt) (p : ℕ) (x : List ValueOf) (t : Tally) (w : List Item) (fs : List Frame)
      → Runs n p fs (At p x (open_on s w) fs t) w (m s (used q p fs) x t)

  stays : (g : State) → Comes g g
  stays g = record { by = λ k. (k, omega arith, refl) }

  one_step : (g h : State) → gypsy_step q sizes g ≡ Next h → Comes g h
  one_step g h e = record { by = λ k. (suc k, omega arith, ap (λ m. go_on m (run q sizes k)) e) }

  comes_on : (g h i : State) → Comes g h → Comes h i → Comes g i
  comes_on g h i a b = record { by = λ k. let r = b.by k in let l = a.by r.0 in (l.0, omega (arith, l.1, r.1), l.2 ∙ r.2) }

  after : (n p : ℕ) (fs : List Frame) (g h : State) (w : List Item) (o : CountedOutcome) → Comes g h → Runs n p fs h w o → Runs n p fs g w o
  after n p fs g h w (CountedDone x None t) a r = comes_on g h _ a r
  after n p fs g h w (CountedDone x (Some c) t) a r = comes_on g h _ a r
  after n p fs g h w CountedUnfinished a r = let l = a.by r.0 in (l.0, omega (arith, l.1, r.1), l.2 ∙ r.2)

  -- a step counts as a round
  after_step : (n p : ℕ) (fs : List Frame) (g h : State) (w : List Item) (o : CountedOutcome) → gypsy_step q sizes g ≡ Next h → Runs n p fs h w o
      → Runs (suc n) p fs g w o
  after_step n p fs g h w (CountedDone x None t) e r = comes_on g h _ (one_step g h e) r
  after_step n p fs g h w (CountedDone x (Some c) t) e r = comes_on g h _ (one_step g h e) r
  after_step n p fs g h w CountedUnfinished e r = (suc r.0, omega (arith, r.1), ap (λ m. go_on m (run q sizes r.0)) e ∙ r.2)

  seq_runs : (n p : ℕ) (fs : List Frame) (g : State) (b : Stmt) (w : List Item) (o : CountedOutcome) (m : List ValueOf → Tally → CountedOutcome)
      → ((x : List ValueOf) (t : Tally) → Runs n p fs (At p x (open_on b w) fs t) w (m x t)) → Runs n p fs g (Do b ∷ w) o
      → Runs n p fs g w (counted_then o m)
  seq_runs n p fs g b w (CountedDone x None t) m rb r = after n p fs g _ w (m x t) r (rb x t)
  seq_runs n p fs g b w (CountedDone x (Some c) t) m rb r = r
  seq_runs n p fs g b w CountedUnfinished m rb r = r

  -- an item that only costs
  join_runs : (n p : ℕ) (fs : List Frame) (g : State) (i : Item) (w : List Item) (pay : Tally → Tally) (o : CountedOutcome)
      → ((x : List ValueOf) (t : Tally) → gypsy_step q sizes (At p x (settle (i ∷ w)) fs t) ≡ Next (At p x (settle w) fs (pay t)))
      → ((c : ConditionOf) (x : List ValueOf) (t : Tally) → raise c p x (i ∷ w) fs t ≡ raise c p x w fs t) → Runs n p fs g (i ∷ w) o
      → Runs n p fs g w (counted_part o pay)
  join_runs n p fs g i w pay (CountedDone x None t) st up r = comes_on g _ _ r (one_step _ _ (st x t))
  join_runs n p fs g i w pay (CountedDone x (Some c) t) st up r = subst (Comes g) (up c x t) r
  join_runs n p fs g i w pay CountedUnfinished st up r = r

  if_runs : (n p : ℕ) (b : Bool) (fs : List Frame) (g ga gb : State) (w : List Item) (oa ob : CountedOutcome)
      → gypsy_step q sizes g ≡ either_move b (Next ga) (Next gb) → Runs n p fs ga w oa → Runs n p fs gb w ob → Runs n p fs g w (counted_either b oa ob)
  if_runs n p true fs g ga gb w oa ob e ra rb = after n p fs g ga w oa (one_step g ga e) ra
  if_runs n p false fs g ga gb w oa ob e ra rb = after n p fs g gb w ob (one_step g gb e) rb

  guard_runs : (n p : ℕ) (fs : List Frame) (g : State) (place : ℕ) (cs : List ConditionOf) (v : Stmt) (w : List Item)
      (arm : List ValueOf → Tally → CountedOutcome) (o : CountedOutcome)
      → ((x : List ValueOf) (t : Tally) → Runs n p fs (At p x (open_on v (JoinOne place ∷ w)) fs t) (JoinOne place ∷ w) (arm x t))
      → Runs n p fs g (Guard place cs v ∷ w) o → Runs n p fs g w (counted_caught o cs arm)
  guard_runs n p fs g place cs v w arm (CountedDone x None t) ra r = comes_on g _ _ r (one_step _ _ refl)
  guard_runs n p fs g place cs v w arm (CountedDone x (Some c) t) ra r = pick (has_cond c cs) r
    where
      pick : (b : Bool) → Comes g (stop_if b (At p x (open_on v (JoinOne place ∷ w)) fs (spend 3 2 t)) (raise c p x w fs t))
          → Runs n p fs g w (counted_either b (counted_part (arm x (spend 3 2 t)) (spend 1 1)) (CountedDone x (Some c) t))
      pick true l = after n p fs g _ w _ l (join_runs n p fs _ (JoinOne place) w (spend 1 1) (arm x (spend 3 2 t)) (λ y u. refl) (λ d y u. refl)
          (ra x (spend 3 2 t)))
      pick false l = l
  guard_runs n p fs g place cs v w arm CountedUnfinished ra r = r

  -- a round, and the loop again at the next lower bound
  round_runs : (n p : ℕ) (fs : List Frame) (g : State) (place : ℕ) (s : Stmt) (w : List Item) (again : List ValueOf → Tally → CountedOutcome)
      (o : CountedOutcome) → ((x : List ValueOf) (t : Tally) → Runs n p fs (At p x (open_on (Loop place s) w) fs t) w (again x t))
      → Runs (suc n) p fs g (Back place s ∷ w) o → Runs (suc n) p fs g w (counted_round_end o again)
  round_runs n p fs g place s w again (CountedDone x None t) ra r = after (suc n) p fs g _ w _ r (after_step n p fs _ _ w _ refl (ra x (spend 1 1 t)))
  round_runs n p fs g place s w again (CountedDone x (Some c) t) ra r = pick (is_leave c) r
    where
      pick : (b : Bool) → Comes g (stop_if b (At p x (settle w) fs (spend 3 2 t)) (raise c p x w fs t))
          → Runs (suc n) p fs g w (counted_either b (CountedDone x None (spend 3 2 t)) (CountedDone x (Some c) t))
      pick true l = l
      pick false l = l
  round_runs n p fs g place s w again CountedUnfinished ra r = r

  apply_runs : (n p : ℕ) (r : Predef) (args : List Arg) (fs : List Frame) (g : State) (e : Effect) (x : List ValueOf) (w : List Item) (t : Tally)
      → gypsy_step q sizes g ≡ apply_step r args e p x w fs t → Runs n p fs g w (counted_applied r args e x t)
  apply_runs n p r args fs g (Normal v) x w t is = one_step g _ is
  apply_runs n p r args fs g Fault x w t is = one_step g _ is
  apply_runs n p r args fs g Beyond x w t is = one_step g _ is

  -- the callee's end, seen from the caller
  return_runs : (n p c : ℕ) (fs : List Frame) (x : List ValueOf) (w : List Item) (xs : List ℕ) (cs : List ConditionOf) (h : State) (o : CountedOutcome)
      → Runs n c (Held p x w xs cs ∷ fs) h [] o → Runs n p fs h w (counted_returned q c xs cs x o)
  return_runs n p c fs x w xs cs h (CountedDone y None t) r = comes_on h _ _ r (one_step _ _ refl)
  return_runs n p c fs x w xs cs h (CountedDone y (Some d) t) r = comes_on h _ _ r (one_step _ _ refl)
  return_runs n p c fs x w xs cs h CountedUnfinished r = r

  call_runs : (n p c : ℕ) (xs : List ℕ) (cs : List ConditionOf) (fs : List Frame) (g : State) (x : List ValueOf) (w : List Item) (t : Tally)
      (o : CountedOutcome) (l : Lack) → gypsy_step q sizes g ≡ call_step q l c xs cs p x w fs t →
      Runs n p fs (At c (copied_in q c xs x) (open_on (body_of q c) []) (Held p x w xs cs ∷ fs) (call_spend q c t)) w o
      → Runs (suc n) p fs g w (counted_if_room l x t o)
  call_runs n p c xs cs fs g x w t o Nothing e r = after_step n p fs g _ w o e r
  call_runs n p c xs cs fs g x w t o Temporary e r = one_step g _ e
  call_runs n p c xs cs fs g x w t o Control e r = one_step g _ e

  evaluate_follows : (n : ℕ) → Follows n (counted_evaluate q sizes n)
  evaluate_follows zero s p x t w fs = (0, omega arith, refl)
  evaluate_follows (suc n) Skip p x t w fs = stays _
  evaluate_follows (suc n) (NoOp place) p x t w fs = one_step _ _ refl
  evaluate_follows (suc n) (Signal place c) p x t w fs = one_step _ _ refl
  evaluate_follows (suc n) (Seq a b) p x t w fs =
      let u = used q p fs in
      seq_runs (suc n) p fs _ b w (counted_evaluate q sizes (suc n) a u x t) (counted_evaluate q sizes (suc n) b u)
      (λ y v. evaluate_follows (suc n) b p y v w fs) (evaluate_follows (suc n) a p x t (Do b ∷ w) fs)
  evaluate_follows (suc n) (Loop place s) p x t w fs =
      let u = used q p fs in
      let o = counted_evaluate q sizes (suc n) s u x (spend 1 1 t) in
      after (suc n) p fs _ _ w (counted_round_end o (counted_evaluate q sizes n (Loop place s) u)) (one_step _ _ refl)
      (round_runs n p fs _ place s w (counted_evaluate q sizes n (Loop place s) u) o (λ y v. evaluate_follows n (Loop place s) p y v w fs)
      (evaluate_follows (suc n) s p x (spend 1 1 t) (Back place s ∷ w) fs))
  evaluate_follows (suc n) (If place b s v) p x t w fs =
      let u = used q p fs in
      if_runs (suc n) p (is_true_value (value_at x b)) fs _ _ _ w _ _ refl
      (join_runs (suc n) p fs _ (JoinThen place v) w (spend 2 2) (counted_evaluate q sizes (suc n) s u x (spend 8 3 t)) (λ y z. refl) (λ d y z. refl)
      (evaluate_follows (suc n) s p x (spend 8 3 t) (JoinThen place v ∷ w) fs))
      (join_runs (suc n) p fs _ (JoinOne place) w (spend 1 1) (counted_evaluate q sizes (suc n) v u x (spend 9 4 t)) (λ y z. refl) (λ d y z. refl)
      (evaluate_follows (suc n) v p x (spend 9 4 t) (JoinOne place ∷ w) fs))
  evaluate_follows (suc n) (Begin place s cs v) p x t w fs =
      let u = used q p fs in
      guard_runs (suc n) p fs _ place cs v w (counted_evaluate q sizes (suc n) v u) (counted_evaluate q sizes (suc n) s u x t)
      (λ y z. evaluate_follows (suc n) v p y z (JoinOne place ∷ w) fs) (evaluate_follows (suc n) s p x t (Guard place cs v ∷ w) fs)
  evaluate_follows (suc n) (Call place c xs cs) p x t w fs =
      let u = used q p fs in
      call_runs n p c xs cs fs _ x w t _ (lack_of q sizes c u) refl
      (return_runs n p c fs x w xs cs _ (counted_evaluate q sizes n (body_of q c) (with_call q c u) (copied_in q c xs x) (call_spend q c t))
      (evaluate_follows n (body_of q c) c (copied_in q c xs x) (call_spend q c t) [] (Held p x w xs cs ∷ fs)))
  evaluate_follows (suc n) (Apply place r args) p x t w fs = apply_runs (suc n) p r args fs _ (predef_effect r (values_of x args)) x w t refl

  -- more steps change nothing of a run that is over
  pub longer : (m n : ℕ) → m ≤ n → (g : State) (o : Ending) → IsOver o → run q sizes m g ≡ o → run q sizes n g ≡ o
  longer zero n le g o over e = absurd (subst IsOver (sym e) over)
  longer (suc m) zero le g o over e = absurd (omega arith)
  longer (suc m) (suc n) le g o over e = go_longer (run q sizes m) (run q sizes n) (longer m n (omega arith)) (gypsy_step q sizes g) o over e

  -- so two ends of one run are the same
  pub one_end : (m n : ℕ) (g : State) (o p : Ending) → IsOver o → IsOver p → run q sizes m g ≡ o → run q sizes n g ≡ p → o ≡ p
  one_end m n g o p over_o over_p e f =
      ⊎_elim
      (λ lt. sym (longer m n (omega arith) g o over_o e) ∙ f)
      (λ le. sym e ∙ longer n m le g p over_p f)
      (cases_lt m n)

  -- the ending that an outcome of main promises
  abbrev IsMet : State → ℕ → CountedOutcome → Type 0
  IsMet g n (CountedDone x c t) = (j : ℕ) × (run q sizes j g ≡ Over x c t)
  IsMet g n CountedUnfinished = (j : ℕ) × (n ≤ j) × (run q sizes j g ≡ Going)

  main_met : (g : State) (n : ℕ) (o : CountedOutcome) → Runs n q.main [] g [] o → IsMet g n (counted_main_end q o)
  main_met g n (CountedDone x None t) r = let l = r.by 1 in (l.0, l.2)
  main_met g n (CountedDone x (Some c) t) r = let l = r.by 1 in (l.0, l.2)
  main_met g n CountedUnfinished r = r

  met : (v : List ValueOf) (n : ℕ) → IsMet (start q v) n (counted_meaning q sizes v n)
  met v n = main_met (start q v) n (counted_evaluate q sizes n (body_of q q.main) (main_used q) (main_start q v) start_tally)
      (evaluate_follows n (body_of q q.main) q.main (main_start q v) start_tally [] [])

  -- a run of the machine that is over, and the counted meaning at as many rounds
  over_too : (g : State) (j : ℕ) (x : List ValueOf) (c : CurrentCondition) (t : Tally) (o : CountedOutcome) → run q sizes j g ≡ Over x c t
      → IsMet g (suc j) o → o ≡ CountedDone x c t
  over_too g j x c t (CountedDone y d u) e m = grind (arith, one_end j m.0 g (Over x c t) (Over y d u) tt tt e m.1)
  over_too g j x c t CountedUnfinished e m =
      absurd (subst IsOver (sym (longer j m.0 (omega (arith, m.1)) g (Over x c t) tt e) ∙ m.2) tt)

pub agree : (q : Program) (sizes : StackSizes) (v : List ValueOf) → Agree q sizes v
agree q sizes v = record {
  ended = λ j x c t e. over_too q sizes (start q v) j x c t (counted_meaning q sizes v (suc j)) e (met q sizes v (suc j));
  done = λ n x c t e. subst (IsMet q sizes (start q v) n) e (met q sizes v n);
}

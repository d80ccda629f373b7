-- Each step keeps what every state of a program that fits has.
use Rattle.std.proofs.Common.{◌≡◌, ℕ, zero, suc, List, [], ◌∷◌, ◌++◌, map, length, take, get_or, slice_set, nat_lt, if◌then◌else◌, Bool, true, false, Some}
use Rattle.std.proofs.Common.{refl, ap, sym, ◌∙◌, subst, ltb-true}
use Rattle.stack_text.{specs.declared.shape.Shape.Shape, specs.Values.ValueOf}
use Rattle.gypsy_syntax.{specs.declared.predef.Predef.Predef, specs.Programs.{ConditionOf, Leave, Routine, Space, Declared, Arg, Proc, Program, proc_at}}
use Rattle.gypsy_syntax.{specs.Programs.{body_of, shapes_of, conds_of, Stmt, Skip, NoOp, Signal, Seq, Loop, If, Begin, Call, Apply}, specs.ProgramFits.Each}
use Rattle.gypsy_syntax.{specs.ProgramFits.{CondFits, ActualsFit, CallFits, StmtFits, ProgramFits}, specs.ValuesFit.{ValueFits, VarsFit}}
use Rattle.gypsy_syntax.{specs.Predefined.predef_effect, specs.Effects.{Effect, Normal, Fault, Beyond, value_at, is_true_value}}
use Rattle.gypsy_space.{specs.Costs.{Tally, spend, predef_spend, out_spend}, specs.Needs.{StackSizes, lack_of}, specs.declared.need.Lack.Lack}
use Rattle.gypsy_space.specs.declared.need.Lack.TheVariants.{Nothing, Temporary, Control}
use Rattle.gypsy_semantics.specs.Calls.{has_cond, is_passed_on, matching, main_way, values_of, copied_in, copied_out, main_start, main_formals}
use Rattle.gypsy_semantics.specs.Machine.{Item, Do, Back, JoinThen, JoinOne, Guard, Out, Frame, Held, State, At, Next, opens, open_on, settle, stop_if, raise}
use Rattle.gypsy_semantics.{specs.Machine.{either_move, apply_step, used, call_step, do_step, end_step, out_step, gypsy_step, start}, specs.Kept.in_loop}
use Rattle.gypsy_semantics.{specs.Kept.{RaisedFits, WorkFits, FramesFit, StateFits, EndFits, MoveFits}, proofs.EffectLaws.{value_fits, set_fits, apply_fits}}

-- Variables.

pub vars_join : (ss : List Shape) (shapes : List Shape) (y x : List ValueOf) → VarsFit ss y → VarsFit shapes x → VarsFit (ss ++ shapes) (y ++ x)
vars_join [] shapes [] x h f = f
vars_join [] shapes (v ∷ y) x h f = absurd h
vars_join (s ∷ ss) shapes [] x h f = absurd h
vars_join (s ∷ ss) shapes (v ∷ y) x h f = (h.0, h.1, vars_join ss shapes y x h.2 f)

pub locals_fit : (locals : List ValueOf) → Each ValueFits locals → VarsFit (map (λ (v : ValueOf). v.shape) locals) locals
locals_fit [] h = tt
locals_fit (v ∷ locals) h = (refl, h.0, locals_fit locals h.1)

actuals_copied : (shapes formals : List Shape) (xs : List ℕ) (x : List ValueOf) → ActualsFit shapes formals xs → VarsFit shapes x
    → VarsFit formals (map (value_at x) xs)
actuals_copied shapes [] [] x f h = tt
actuals_copied shapes [] (a ∷ xs) x f h = absurd f
actuals_copied shapes (s ∷ formals) [] x f h = absurd f
actuals_copied shapes (s ∷ formals) (a ∷ xs) x f h =
    let v = value_fits shapes x a s h f.0 in
    (v.0, v.1, actuals_copied shapes formals xs x f.1 h)

pub copies_back : (shapes formals rest : List Shape) (xs : List ℕ) (y x : List ValueOf) → ActualsFit shapes formals xs → VarsFit (formals ++ rest) y
    → VarsFit shapes x → VarsFit shapes (copied_out xs y x)
copies_back shapes [] rest [] y x f g h = h
copies_back shapes [] rest (a ∷ xs) y x f g h = absurd f
copies_back shapes (s ∷ formals) rest [] y x f g h = absurd f
copies_back shapes (s ∷ formals) rest (a ∷ xs) [] x f g h = absurd g
copies_back shapes (s ∷ formals) rest (a ∷ xs) (v ∷ y) x f g h =
    copies_back shapes formals rest xs y (slice_set x a v) f.1 g.2 (set_fits shapes x a v h (f.0 ∙ ap Some (sym g.0)) g.1)

front_fits : (formals rest : List Shape) (x : List ValueOf) → VarsFit (formals ++ rest) x → VarsFit formals (take (length formals) x)
front_fits [] rest x h = tt
front_fits (s ∷ formals) rest [] h = absurd h
front_fits (s ∷ formals) rest (v ∷ x) h = (h.0, h.1, front_fits formals rest x h.2)

-- Conditions.

-- what a statement may raise is raised
raised_of : (b : Bool) (n : ℕ) (c : ConditionOf) → CondFits b n c → RaisedFits b n c
raised_of b n Leave h = h
raised_of b n Routine h = h
raised_of b n Space h = absurd h
raised_of b n (Declared i) h = h

actual_raised : (b : Bool) (n : ℕ) (cs : List ConditionOf) (i : ℕ) → Each (CondFits b n) cs → RaisedFits b n (get_or cs i Routine)
actual_raised b n [] i h = tt
actual_raised b n (c ∷ cs) zero h = raised_of b n c h.0
actual_raised b n (c ∷ cs) (suc i) h = actual_raised b n cs i h.1

matched : (q : Program) (p : ℕ) (b : Bool) (n : ℕ) (cs : List ConditionOf) (d : ConditionOf) → Each (CondFits b n) cs → RaisedFits b n (matching q p cs d)
unfolding matching
matched q p b n cs Leave h = tt
matched q p b n cs Routine h = tt
matched q p b n cs Space h = tt
matched q p b n cs (Declared i) h = pick (nat_lt i (proc_at q p).conds)
  where
    pick : (t : Bool) → RaisedFits b n (if t then get_or cs i Routine else Routine)
    pick true = actual_raised b n cs i h
    pick false = tt

main_ends : (q : Program) (d : ConditionOf) → EndFits q (Some (main_way q d))
unfolding main_way is_passed_on
main_ends q Leave = tt
main_ends q Routine = tt
main_ends q Space = tt
main_ends q (Declared i) = pick (nat_lt i (proc_at q q.main).conds) refl
  where
    pick : (t : Bool) → nat_lt i (proc_at q q.main).conds ≡ t → EndFits q (Some (if t then Declared i else Routine))
    pick true e = ltb-true i (proc_at q q.main).conds e
    pick false e = tt

module _ (q : Program) (sizes : StackSizes) (fits : ProgramFits q) where
  -- Work.

  opens_fits : (p : Proc) (s : Stmt) (w ws : List Item) → StmtFits q (shapes_of p) (conds_of p) (in_loop w) s → WorkFits q p w → WorkFits q p ws
      → WorkFits q p (opens s w ws)
  opens_fits p Skip w ws f h g = g
  opens_fits p (NoOp place) w ws f h g = (f, h)
  opens_fits p (Signal place c) w ws f h g = (f, h)
  opens_fits p (Seq a b) w ws f h g = opens_fits p a (Do b ∷ w) (opens b w ws) f.0 (f.1, h) (opens_fits p b w ws f.1 h g)
  opens_fits p (Loop place s) w ws f h g = (f, h)
  opens_fits p (If place b s v) w ws f h g = (f, h)
  opens_fits p (Begin place s cs v) w ws f h g =
      opens_fits p s (Guard place cs v ∷ w) (Guard place cs v ∷ w) f.1 (f.0, f.2, h) (f.0, f.2, h)
  opens_fits p (Call place c xs cs) w ws f h g = (f, h)
  opens_fits p (Apply place r args) w ws f h g = (f, h)

  settle_fits : (p : Proc) (w : List Item) → WorkFits q p w → WorkFits q p (settle w)
  settle_fits p [] h = tt
  settle_fits p (Do s ∷ w) h = opens_fits p s w (settle w) h.0 h.1 (settle_fits p w h.1)
  settle_fits p (Back place s ∷ w) h = h
  settle_fits p (JoinThen place v ∷ w) h = h
  settle_fits p (JoinOne place ∷ w) h = h
  settle_fits p (Guard place cs v ∷ w) h = h
  settle_fits p (Out c ∷ w) h = h

  open_fits : (p : Proc) (s : Stmt) (w : List Item) → StmtFits q (shapes_of p) (conds_of p) (in_loop w) s → WorkFits q p w → WorkFits q p (open_on s w)
  open_fits p s w f h = opens_fits p s w (settle w) f h (settle_fits p w h)

  raise_fits : (c : ConditionOf) (p : ℕ) (x : List ValueOf) (w : List Item) (fs : List Frame) (t : Tally)
      → RaisedFits (in_loop w) (conds_of (proc_at q p)) c → VarsFit (shapes_of (proc_at q p)) x → WorkFits q (proc_at q p) w → FramesFit q p fs
      → StateFits q (raise c p x w fs t)
  raise_fits c p x [] fs t f v h g = (v, (f, refl), g)
  raise_fits c p x (Do s ∷ w) fs t f v h g = raise_fits c p x w fs t f v h.1 g
  raise_fits Leave p x (Back place s ∷ w) fs t f v h g = (v, settle_fits (proc_at q p) w h.1, g)
  raise_fits Routine p x (Back place s ∷ w) fs t f v h g = raise_fits Routine p x w fs t tt v h.1 g
  raise_fits Space p x (Back place s ∷ w) fs t f v h g = raise_fits Space p x w fs t tt v h.1 g
  raise_fits (Declared i) p x (Back place s ∷ w) fs t f v h g = raise_fits (Declared i) p x w fs t f v h.1 g
  raise_fits c p x (JoinThen place u ∷ w) fs t f v h g = raise_fits c p x w fs t f v h g
  raise_fits c p x (JoinOne place ∷ w) fs t f v h g = raise_fits c p x w fs t f v h g
  raise_fits c p x (Guard place cs u ∷ w) fs t f v h g = pick (has_cond c cs) (raise_fits c p x w fs t f v h.2 g)
    where
      pick : (b : Bool) → StateFits q (raise c p x w fs t) → StateFits q
          (stop_if b (At p x (open_on u (JoinOne place ∷ w)) fs (spend 3 2 t)) (raise c p x w fs t))
      pick true r = (v, open_fits (proc_at q p) u (JoinOne place ∷ w) h.1 h.2, g)
      pick false r = r
  raise_fits c p x (Out d ∷ w) fs t f v h g = raise_fits c p x w fs t f v (subst (WorkFits q (proc_at q p)) (sym h.1) tt) g

  -- Steps.

  apply_keeps : (place k : ℕ) (r : Predef) (args : List Arg) (e : Effect) (p : ℕ) (x : List ValueOf) (w : List Item) (fs : List Frame) (t : Tally)
      → predef_effect r (values_of x args) ≡ e → StmtFits q (shapes_of (proc_at q p)) (conds_of (proc_at q p)) (in_loop w) (Apply place r args)
      → VarsFit (shapes_of (proc_at q p)) x → WorkFits q (proc_at q p) w → FramesFit q p fs → MoveFits q (apply_step r args e p x w fs t)
  apply_keeps place k r args (Normal u) p x w fs t e f v h g =
      (apply_fits (shapes_of (proc_at q p)) x f.0 r args u v f.1 e, settle_fits (proc_at q p) w h, g)
  apply_keeps place k r args Fault p x w fs t e f v h g = raise_fits Routine p x w fs (predef_spend r Fault t) tt v h g
  apply_keeps place k r args Beyond p x w fs t e f v h g = raise_fits Routine p x w fs (predef_spend r Beyond t) tt v h g

  callee_vars : (p : ℕ) (shapes : List Shape) (xs : List ℕ) (x : List ValueOf) → ActualsFit shapes (proc_at q p).formals xs → VarsFit shapes x
      → VarsFit (shapes_of (proc_at q p)) (copied_in q p xs x)
  unfolding copied_in
  callee_vars p shapes xs x f v =
      let c = proc_at q p in
      vars_join c.formals (map (λ (u : ValueOf). u.shape) c.locals) (map (value_at x) xs) c.locals (actuals_copied shapes c.formals xs x f v)
      (locals_fit c.locals (fits.procs p).locals)

  call_keeps : (l : Lack) (c : ℕ) (xs : List ℕ) (cs : List ConditionOf) (p : ℕ) (x : List ValueOf) (w : List Item) (fs : List Frame) (t : Tally)
      → CallFits q (shapes_of (proc_at q p)) (conds_of (proc_at q p)) (in_loop w) c xs cs → VarsFit (shapes_of (proc_at q p)) x
      → WorkFits q (proc_at q p) w → FramesFit q p fs → MoveFits q (call_step q l c xs cs p x w fs t)
  call_keeps Nothing c xs cs p x w fs t f v h g =
      (callee_vars c (shapes_of (proc_at q p)) xs x f.actuals v, open_fits (proc_at q c) (body_of q c) [] (fits.procs c).body tt, (f, v, h, g))
  call_keeps Temporary c xs cs p x w fs t f v h g = raise_fits Space p x w fs (spend 15 7 t) tt v h g
  call_keeps Control c xs cs p x w fs t f v h g = raise_fits Space p x w fs (spend 26 11 t) tt v h g

  do_keeps : (s : Stmt) (p : ℕ) (x : List ValueOf) (w : List Item) (fs : List Frame) (t : Tally)
      → StmtFits q (shapes_of (proc_at q p)) (conds_of (proc_at q p)) (in_loop w) s → VarsFit (shapes_of (proc_at q p)) x → WorkFits q (proc_at q p) w
      → FramesFit q p fs → MoveFits q (do_step q sizes s p x w fs t)
  do_keeps Skip p x w fs t f v h g = (v, settle_fits (proc_at q p) w h, g)
  do_keeps (NoOp place) p x w fs t f v h g = (v, settle_fits (proc_at q p) w h, g)
  do_keeps (Signal place c) p x w fs t f v h g = raise_fits c p x w fs (spend 4 3 t) (raised_of (in_loop w) (conds_of (proc_at q p)) c f) v h g
  do_keeps (Seq a b) p x w fs t f v h g = (v, open_fits (proc_at q p) (Seq a b) w f h, g)
  do_keeps (Loop place s) p x w fs t f v h g = (v, open_fits (proc_at q p) s (Back place s ∷ w) f (f, h), g)
  do_keeps (If place b s u) p x w fs t f v h g = pick (is_true_value (value_at x b))
    where
      pick : (b : Bool) → MoveFits q (either_move b (Next (At p x (open_on s (JoinThen place u ∷ w)) fs (spend 8 3 t)))
          (Next (At p x (open_on u (JoinOne place ∷ w)) fs (spend 9 4 t))))
      pick true = (v, open_fits (proc_at q p) s (JoinThen place u ∷ w) f.1 h, g)
      pick false = (v, open_fits (proc_at q p) u (JoinOne place ∷ w) f.2 h, g)
  do_keeps (Begin place s cs u) p x w fs t f v h g = (v, open_fits (proc_at q p) (Begin place s cs u) w f h, g)
  do_keeps (Call place c xs cs) p x w fs t f v h g = call_keeps (lack_of q sizes c (used q p fs)) c xs cs p x w fs t f v h g
  do_keeps (Apply place r args) p x w fs t f v h g = apply_keeps place 0 r args (predef_effect r (values_of x args)) p x w fs t refl f v h g

  main_vars : (p : ℕ) (x : List ValueOf) → p ≡ q.main → VarsFit (shapes_of (proc_at q p)) x → VarsFit (proc_at q q.main).formals (main_formals q x)
  unfolding main_formals
  main_vars p x e v =
      let c = proc_at q q.main in
      front_fits c.formals (map (λ (u : ValueOf). u.shape) c.locals) x (subst (λ i. VarsFit (shapes_of (proc_at q i)) x) e v)

  end_keeps : (p : ℕ) (y : List ValueOf) (fs : List Frame) (t : Tally) → VarsFit (shapes_of (proc_at q p)) y → FramesFit q p fs
      → MoveFits q (end_step q p y fs t)
  end_keeps p y [] t v g = (main_vars p y g v, tt)
  end_keeps p y (Held c x w xs cs ∷ fs) t v g = (
    copies_back (shapes_of (proc_at q c)) (proc_at q p).formals (map (λ (u : ValueOf). u.shape) (proc_at q p).locals) xs y x g.0.actuals v g.1,
    settle_fits (proc_at q c) w g.2,
    g.3,
  )

  out_keeps : (d : ConditionOf) (p : ℕ) (y : List ValueOf) (fs : List Frame) (t : Tally) → VarsFit (shapes_of (proc_at q p)) y → FramesFit q p fs
      → MoveFits q (out_step q d p y fs t)
  out_keeps d p y [] t v g = (main_vars p y g v, main_ends q d)
  out_keeps d p y (Held c x w xs cs ∷ fs) t v g =
      raise_fits (matching q p cs d) c (copied_out xs y x) w fs (out_spend (is_passed_on q p d) t)
      (matched q p (in_loop w) (conds_of (proc_at q c)) cs d g.0.conds)
      (copies_back (shapes_of (proc_at q c)) (proc_at q p).formals (map (λ (u : ValueOf). u.shape) (proc_at q p).locals) xs y x g.0.actuals v g.1) g.2
      g.3

  pub step_keeps : (g : State) → StateFits q g → MoveFits q (gypsy_step q sizes g)
  step_keeps (At p x [] fs t) h = end_keeps p x fs t h.0 h.2
  step_keeps (At p x (Do s ∷ w) fs t) h = do_keeps s p x w fs t h.1.0 h.0 h.1.1 h.2
  step_keeps (At p x (Back place s ∷ w) fs t) h = (h.0, open_fits (proc_at q p) (Loop place s) w h.1.0 h.1.1, h.2)
  step_keeps (At p x (JoinThen place v ∷ w) fs t) h = (h.0, settle_fits (proc_at q p) w h.1, h.2)
  step_keeps (At p x (JoinOne place ∷ w) fs t) h = (h.0, settle_fits (proc_at q p) w h.1, h.2)
  step_keeps (At p x (Guard place cs v ∷ w) fs t) h = (h.0, settle_fits (proc_at q p) w h.1.2, h.2)
  step_keeps (At p x (Out c ∷ w) fs t) h = out_keeps c p x fs t h.0 h.2

  pub start_fits : (v : List ValueOf) → VarsFit (proc_at q q.main).formals v → StateFits q (start q v)
  unfolding main_start
  start_fits v h =
      let c = proc_at q q.main in (
        vars_join c.formals (map (λ (u : ValueOf). u.shape) c.locals) v c.locals h (locals_fit c.locals (fits.procs q.main).locals),
        open_fits c (body_of q q.main) [] (fits.procs q.main).body tt,
        refl,
      )

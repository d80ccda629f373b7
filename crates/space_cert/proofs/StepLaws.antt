-- Each step keeps states covered.
use Rattle.std.{proofs.Common.{◌≡◌, ℕ, List, [], ◌∷◌, Bool, true, false, Option, Some, None, refl, subst, sym}, specs.Option.IsSome}
use Rattle.std.proofs.lemmas.List.Elements.{All-head}
use Rattle.stack_text.specs.Values.{ValueOf}
use Rattle.gypsy_syntax.{specs.declared.predef.Predef.Predef, specs.Programs.{ConditionOf, Routine, Arg, Program, body_of, Stmt, Skip, NoOp, Signal, Seq, Loop}}
use Rattle.gypsy_syntax.{specs.Programs.{If, Begin, Call, Apply}, specs.Effects.{Effect, Normal, Fault, Beyond, value_at, is_true_value}}
use Rattle.gypsy_space.{specs.Costs.{Tally, spend, predef_spend}, specs.Needs.{StackSizes, lack_of, with_call}, specs.declared.need.Lack.TheVariants.Nothing}
use Rattle.gypsy_semantics.{specs.Calls.{has_cond, is_leave}, specs.Machine.{Item, Do, Back, JoinThen, JoinOne, Guard, Out, Frame, Held, State, At, Move, Next}}
use Rattle.gypsy_semantics.specs.Machine.{Ended, opens, open_on, settle, stop_if, raise, either_move, apply_step, used, call_step, do_step, end_step, out_step}
use Rattle.gypsy_semantics.specs.Machine.{gypsy_step, start}
use Rattle.space_cert.{specs.Covers.{Bounds, bound_at, callees, CoversCall, CoversCalls, IsCertificate, Covers}, specs.CoveredStates.WorkCovered}
use Rattle.space_cert.{specs.CoveredStates.{ActivationCovered, WaitingCovered, StateCovered}, specs.Never.HasCallRoom, proofs.AllLaws.{all_left, all_right}}
use Rattle.space_cert.proofs.CoversLaws.{bound_there, lacks_nothing, left, main_within}

abbrev pub MoveCovered : Program → Bounds → StackSizes → Move → Type 0
MoveCovered q bs sizes (Next g) = StateCovered q bs sizes g
MoveCovered q bs sizes (Ended x c t) = Unit {0}

module _ (q : Program) (bs : Bounds) (b : StackSizes) where
  opens_covered : (s : Stmt) (w ws : List Item) → CoversCalls q bs b s → WorkCovered q bs b w → WorkCovered q bs b ws → WorkCovered q bs b (opens s w ws)
  opens_covered Skip w ws f h g = g
  opens_covered (NoOp place) w ws f h g = (f, h)
  opens_covered (Signal place c) w ws f h g = (f, h)
  opens_covered (Seq a c) w ws f h g =
      let fa = all_left (CoversCall q bs b) (callees a) (callees c) f in
      let fc = all_right (CoversCall q bs b) (callees a) (callees c) f in
      opens_covered a (Do c ∷ w) (opens c w ws) fa (fc, h) (opens_covered c w ws fc h g)
  opens_covered (Loop place s) w ws f h g = (f, h)
  opens_covered (If place i s v) w ws f h g = (f, h)
  opens_covered (Begin place s cs v) w ws f h g =
      let fs = all_left (CoversCall q bs b) (callees s) (callees v) f in
      let fv = all_right (CoversCall q bs b) (callees s) (callees v) f in
      opens_covered s (Guard place cs v ∷ w) (Guard place cs v ∷ w) fs (fv, h) (fv, h)
  opens_covered (Call place c xs cs) w ws f h g = (f, h)
  opens_covered (Apply place r args) w ws f h g = (f, h)

  pub settle_covered : (w : List Item) → WorkCovered q bs b w → WorkCovered q bs b (settle w)
  settle_covered [] h = tt
  settle_covered (Do s ∷ w) h = opens_covered s w (settle w) h.0 h.1 (settle_covered w h.1)
  settle_covered (Back place s ∷ w) h = h
  settle_covered (JoinThen place v ∷ w) h = h
  settle_covered (JoinOne place ∷ w) h = h
  settle_covered (Guard place cs v ∷ w) h = h
  settle_covered (Out c ∷ w) h = h

  pub open_covered : (s : Stmt) (w : List Item) → CoversCalls q bs b s → WorkCovered q bs b w → WorkCovered q bs b (open_on s w)
  open_covered s w f h = opens_covered s w (settle w) f h (settle_covered w h)

module _ (q : Program) (bs : Bounds) (sizes : StackSizes) where
  -- the same activation with other work
  with_work : {p : ℕ} {w : List Item} {u : StackSizes} (k : ActivationCovered q bs sizes p w u) (v : List Item) → WorkCovered q bs k.bound v
      → ActivationCovered q bs sizes p v u
  with_work k v h = record { bound = k.bound; known = k.known; work = h; within = k.within }

  raise_covered : (c : ConditionOf) (p : ℕ) (x : List ValueOf) (w : List Item) (fs : List Frame) (t : Tally)
      → ActivationCovered q bs sizes p w (used q p fs) → WaitingCovered q bs sizes fs → StateCovered q bs sizes (raise c p x w fs t)
  raise_covered c p x [] fs t k g = (with_work k (Out c ∷ []) tt, g)
  raise_covered c p x (Do s ∷ w) fs t k g = raise_covered c p x w fs t (with_work k w k.work.1) g
  raise_covered c p x (Back place s ∷ w) fs t k g = pick (is_leave c) (raise_covered c p x w fs t (with_work k w k.work.1) g)
    where
      pick : (i : Bool) → StateCovered q bs sizes (raise c p x w fs t) → StateCovered q bs sizes
          (stop_if i (At p x (settle w) fs (spend 3 2 t)) (raise c p x w fs t))
      pick true r = (with_work k (settle w) (settle_covered q bs k.bound w k.work.1), g)
      pick false r = r
  raise_covered c p x (JoinThen place v ∷ w) fs t k g = raise_covered c p x w fs t (with_work k w k.work) g
  raise_covered c p x (JoinOne place ∷ w) fs t k g = raise_covered c p x w fs t (with_work k w k.work) g
  raise_covered c p x (Guard place cs v ∷ w) fs t k g = pick (has_cond c cs) (raise_covered c p x w fs t (with_work k w k.work.1) g)
    where
      pick : (i : Bool) → StateCovered q bs sizes (raise c p x w fs t) → StateCovered q bs sizes
          (stop_if i (At p x (open_on v (JoinOne place ∷ w)) fs (spend 3 2 t)) (raise c p x w fs t))
      pick true r = (with_work k (open_on v (JoinOne place ∷ w)) (open_covered q bs k.bound v (JoinOne place ∷ w) k.work.0 k.work.1), g)
      pick false r = r
  raise_covered c p x (Out d ∷ w) fs t k g = raise_covered c p x w fs t (with_work k w k.work) g

  apply_covered : (r : Predef) (args : List Arg) (e : Effect) (p : ℕ) (x : List ValueOf) (w : List Item) (fs : List Frame) (t : Tally)
      → ActivationCovered q bs sizes p w (used q p fs) → WaitingCovered q bs sizes fs → MoveCovered q bs sizes (apply_step r args e p x w fs t)
  apply_covered r args (Normal v) p x w fs t k g = (with_work k (settle w) (settle_covered q bs k.bound w k.work), g)
  apply_covered r args Fault p x w fs t k g = raise_covered Routine p x w fs (predef_spend r Fault t) k g
  apply_covered r args Beyond p x w fs t k g = raise_covered Routine p x w fs (predef_spend r Beyond t) k g

  end_covered : (p : ℕ) (y : List ValueOf) (fs : List Frame) (t : Tally) → WaitingCovered q bs sizes fs → MoveCovered q bs sizes (end_step q p y fs t)
  end_covered p y [] t g = tt
  end_covered p y (Held c x w xs cs ∷ fs) t g = (with_work g.0 (settle w) (settle_covered q bs g.0.bound w g.0.work), g.1)

  out_covered : (d : ConditionOf) (p : ℕ) (y : List ValueOf) (fs : List Frame) (t : Tally) → WaitingCovered q bs sizes fs
      → MoveCovered q bs sizes (out_step q d p y fs t)
  out_covered d p y [] t g = tt
  out_covered d p y (Held c x w xs cs ∷ fs) t g = raise_covered _ c _ w fs _ g.0 g.1

module _ (q : Program) (bs : Bounds) (sizes : StackSizes) (cert : IsCertificate q bs) where
  -- a call in the work of an activation
  call_room : (place c : ℕ) (xs : List ℕ) (cs : List ConditionOf) (p : ℕ) (w : List Item) (u : StackSizes)
      → ActivationCovered q bs sizes p (Do (Call place c xs cs) ∷ w) u → lack_of q sizes c u ≡ Nothing
  call_room place c xs cs p w u k =
      let there = bound_there q bs k.bound c (bound_at bs c) refl (All-head (CoversCall q bs k.bound) c [] k.work.0) in
      lacks_nothing q sizes c u k.bound there.bound (cert.each c there.bound there.known).own there.within k.within

  callee_covered : (place c : ℕ) (xs : List ℕ) (cs : List ConditionOf) (p : ℕ) (w : List Item) (u : StackSizes)
      → ActivationCovered q bs sizes p (Do (Call place c xs cs) ∷ w) u → ActivationCovered q bs sizes c (open_on (body_of q c) []) (with_call q c u)
  callee_covered place c xs cs p w u k =
      let there = bound_there q bs k.bound c (bound_at bs c) refl (All-head (CoversCall q bs k.bound) c [] k.work.0) in
      let each = cert.each c there.bound there.known in
      record {
        bound = there.bound;
        known = there.known;
        work = open_covered q bs there.bound (body_of q c) [] each.calls tt;
        within = left q sizes c u k.bound there.bound each.own there.within k.within;
      }

  do_covered : (s : Stmt) (p : ℕ) (x : List ValueOf) (w : List Item) (fs : List Frame) (t : Tally)
      → ActivationCovered q bs sizes p (Do s ∷ w) (used q p fs) → WaitingCovered q bs sizes fs → MoveCovered q bs sizes (do_step q sizes s p x w fs t)
  do_covered Skip p x w fs t k g = (with_work q bs sizes k (settle w) (settle_covered q bs k.bound w k.work.1), g)
  do_covered (NoOp place) p x w fs t k g = (with_work q bs sizes k (settle w) (settle_covered q bs k.bound w k.work.1), g)
  do_covered (Signal place c) p x w fs t k g = raise_covered q bs sizes c p x w fs (spend 4 3 t) (with_work q bs sizes k w k.work.1) g
  do_covered (Seq a c) p x w fs t k g = (with_work q bs sizes k (open_on (Seq a c) w) (open_covered q bs k.bound (Seq a c) w k.work.0 k.work.1), g)
  do_covered (Loop place s) p x w fs t k g = (with_work q bs sizes k _ (open_covered q bs k.bound s (Back place s ∷ w) k.work.0 k.work), g)
  do_covered (If place i s v) p x w fs t k g = pick (is_true_value (value_at x i))
    where
      pick : (e : Bool) → MoveCovered q bs sizes
          (either_move e (Next (At p x (open_on s (JoinThen place v ∷ w)) fs (spend 8 3 t)))
          (Next (At p x (open_on v (JoinOne place ∷ w)) fs (spend 9 4 t))))
      pick true =
          let fs' = all_left (CoversCall q bs k.bound) (callees s) (callees v) k.work.0 in
          (with_work q bs sizes k _ (open_covered q bs k.bound s (JoinThen place v ∷ w) fs' k.work.1), g)
      pick false =
          let fv = all_right (CoversCall q bs k.bound) (callees s) (callees v) k.work.0 in
          (with_work q bs sizes k _ (open_covered q bs k.bound v (JoinOne place ∷ w) fv k.work.1), g)
  do_covered (Begin place s cs v) p x w fs t k g = (with_work q bs sizes k _ (open_covered q bs k.bound (Begin place s cs v) w k.work.0 k.work.1), g)
  do_covered (Call place c xs cs) p x w fs t k g =
      subst (λ r. MoveCovered q bs sizes (call_step q r c xs cs p x w fs t)) (sym (call_room place c xs cs p w (used q p fs) k))
      (callee_covered place c xs cs p w _ k, (with_work q bs sizes k w k.work.1, g))
  do_covered (Apply place r args) p x w fs t k g = apply_covered q bs sizes r args _ p x w fs t (with_work q bs sizes k w k.work.1) g

  pub step_covered : (g : State) → StateCovered q bs sizes g → MoveCovered q bs sizes (gypsy_step q sizes g)
  step_covered (At p x [] fs t) h = end_covered q bs sizes p x fs t h.1
  step_covered (At p x (Do s ∷ w) fs t) h = do_covered s p x w fs t h.0 h.1
  step_covered (At p x (Back place s ∷ w) fs t) h = (with_work q bs sizes h.0 _ (open_covered q bs h.0.bound (Loop place s) w h.0.work.0 h.0.work.1), h.1)
  step_covered (At p x (JoinThen place v ∷ w) fs t) h = (with_work q bs sizes h.0 (settle w) (settle_covered q bs h.0.bound w h.0.work), h.1)
  step_covered (At p x (JoinOne place ∷ w) fs t) h = (with_work q bs sizes h.0 (settle w) (settle_covered q bs h.0.bound w h.0.work), h.1)
  step_covered (At p x (Guard place cs v ∷ w) fs t) h = (with_work q bs sizes h.0 (settle w) (settle_covered q bs h.0.bound w h.0.work.1), h.1)
  step_covered (At p x (Out c ∷ w) fs t) h = out_covered q bs sizes c p x fs t h.1

  pub call_on_top : (g : State) → StateCovered q bs sizes g → HasCallRoom q sizes g
  call_on_top (At p x (Do (Call place c xs cs) ∷ w) fs t) h = call_room place c xs cs p w (used q p fs) h.0
  call_on_top g h = tt

-- main's bounds, as they are known
pub record MainBound (q : Program) (bs : Bounds) : Type 0 where
  pub bound : StackSizes
  pub known : bound_at bs q.main ≡ Some bound

pub main_bound : (q : Program) (bs : Bounds) (o : Option StackSizes) → bound_at bs q.main ≡ o → IsSome o → MainBound q bs
main_bound q bs None e h = cc
main_bound q bs (Some b) e h = record { bound = b; known = e }

module _ (q : Program) (bs : Bounds) (sizes : StackSizes) (covers : Covers q bs sizes) where
  pub start_covered : (v : List ValueOf) → StateCovered q bs sizes (start q v)
  start_covered v =
      let main = main_bound q bs (bound_at bs q.main) refl covers.certificate.main in
      let work = open_covered q bs main.bound (body_of q q.main) [] (covers.certificate.each q.main main.bound main.known).calls tt in
      (record { bound = main.bound; known = main.known; work = work; within = main_within q bs sizes covers main.bound main.known }, tt)

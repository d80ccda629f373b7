-- Where no statement names spaceerror and each call has room, no step raises it.
use Rattle.std.proofs.Common.{◌≡◌, ℕ, zero, suc, List, [], ◌∷◌, Bool, true, false, nat_lt, if◌then◌else◌, get_or, Some, None, subst, sym, ap, ◌∙◌}
use Rattle.stack_text.{specs.declared.shape.Shape.Shape, specs.Values.ValueOf}
use Rattle.gypsy_syntax.{specs.declared.predef.Predef.Predef, specs.Programs.{ConditionOf, Leave, Routine, Space, Declared, Arg, Program, proc_at, body_of}}
use Rattle.gypsy_syntax.{specs.Programs.{shapes_of, conds_of, Stmt, Skip, NoOp, Signal, Seq, Loop, If, Begin, Call, Apply}, specs.ProgramFits.{Each, CondFits}}
use Rattle.gypsy_syntax.{specs.ProgramFits.{StmtFits, ProgramFits}, specs.Predefined.predef_effect, specs.Effects.{Effect, Normal, Fault, Beyond, value_at}}
use Rattle.gypsy_syntax.specs.Effects.{is_true_value}
use Rattle.gypsy_space.{specs.Costs.{Tally, spend, predef_spend}, specs.Needs.StackSizes}
use Rattle.gypsy_semantics.{specs.Calls.{has_cond, is_leave, is_passed_on, main_way, matching, values_of}, specs.Machine.{Item, Do, Back, JoinThen, JoinOne}}
use Rattle.gypsy_semantics.specs.Machine.{Guard, Out, Frame, Held, State, At, Next, opens, open_on, settle, stop_if, raise, either_move, apply_step, call_step}
use Rattle.gypsy_semantics.specs.Machine.{do_step, end_step, out_step, gypsy_step}
use Rattle.space_cert.{specs.Never.{HasCallRoom, raised, raised_for, raised_after}, specs.Internal.Omits.{IsOther, OmitsSpace, WorkOmitsSpace}}
use Rattle.space_cert.specs.Internal.Omits.{WaitingOmitsSpace, StateOmitsSpace, MoveOmitsSpace}

-- In a program that fits.

cond_omits : (b : Bool) (n : ℕ) (c : ConditionOf) → CondFits b n c → IsOther c
cond_omits b n Leave h = tt
cond_omits b n Routine h = tt
cond_omits b n Space h = h
cond_omits b n (Declared i) h = tt

conds_omit : (b : Bool) (n : ℕ) (cs : List ConditionOf) → Each (CondFits b n) cs → Each IsOther cs
conds_omit b n [] h = tt
conds_omit b n (c ∷ cs) h = (cond_omits b n c h.0, conds_omit b n cs h.1)

statement_omits : (q : Program) (shapes : List Shape) (n : ℕ) (b : Bool) (s : Stmt) → StmtFits q shapes n b s → OmitsSpace s
statement_omits q shapes n b Skip h = tt
statement_omits q shapes n b (NoOp place) h = tt
statement_omits q shapes n b (Signal place c) h = cond_omits b n c h
statement_omits q shapes n b (Seq s w) h = (statement_omits q shapes n b s h.0, statement_omits q shapes n b w h.1)
statement_omits q shapes n b (Loop place s) h = statement_omits q shapes n true s h
statement_omits q shapes n b (If place i s w) h = (statement_omits q shapes n b s h.1, statement_omits q shapes n b w h.2)
statement_omits q shapes n b (Begin place s cs w) h = (statement_omits q shapes n b s h.1, statement_omits q shapes n b w h.2)
statement_omits q shapes n b (Call place p xs cs) h = conds_omit b n cs h.conds
statement_omits q shapes n b (Apply place r args) h = tt

pub body_omits : (q : Program) → ProgramFits q → (p : ℕ) → OmitsSpace (body_of q p)
body_omits q fits p = statement_omits q (shapes_of (proc_at q p)) (conds_of (proc_at q p)) false (body_of q p) (fits.procs p).body

-- On the list of work.

opens_omits : (s : Stmt) (w ws : List Item) → OmitsSpace s → WorkOmitsSpace w → WorkOmitsSpace ws → WorkOmitsSpace (opens s w ws)
opens_omits Skip w ws f h g = g
opens_omits (NoOp place) w ws f h g = (f, h)
opens_omits (Signal place c) w ws f h g = (f, h)
opens_omits (Seq a b) w ws f h g = opens_omits a (Do b ∷ w) (opens b w ws) f.0 (f.1, h) (opens_omits b w ws f.1 h g)
opens_omits (Loop place s) w ws f h g = (f, h)
opens_omits (If place i s v) w ws f h g = (f, h)
opens_omits (Begin place s cs v) w ws f h g = opens_omits s (Guard place cs v ∷ w) (Guard place cs v ∷ w) f.0 (f.1, h) (f.1, h)
opens_omits (Call place c xs cs) w ws f h g = (f, h)
opens_omits (Apply place r args) w ws f h g = (f, h)

settle_omits : (w : List Item) → WorkOmitsSpace w → WorkOmitsSpace (settle w)
settle_omits [] h = tt
settle_omits (Do s ∷ w) h = opens_omits s w (settle w) h.0 h.1 (settle_omits w h.1)
settle_omits (Back place s ∷ w) h = h
settle_omits (JoinThen place v ∷ w) h = h
settle_omits (JoinOne place ∷ w) h = h
settle_omits (Guard place cs v ∷ w) h = h
settle_omits (Out c ∷ w) h = h

pub open_omits : (s : Stmt) (w : List Item) → OmitsSpace s → WorkOmitsSpace w → WorkOmitsSpace (open_on s w)
open_omits s w f h = opens_omits s w (settle w) f h (settle_omits w h)

-- What is raised.

raise_omits : (c : ConditionOf) (p : ℕ) (x : List ValueOf) (w : List Item) (fs : List Frame) (t : Tally) → IsOther c → WorkOmitsSpace w
    → WaitingOmitsSpace fs → StateOmitsSpace (raise c p x w fs t)
raise_omits c p x [] fs t o h g = ((o, tt), g)
raise_omits c p x (Do s ∷ w) fs t o h g = raise_omits c p x w fs t o h.1 g
raise_omits c p x (Back place s ∷ w) fs t o h g = pick (is_leave c) (raise_omits c p x w fs t o h.1 g)
  where
    pick : (i : Bool) → StateOmitsSpace (raise c p x w fs t) → StateOmitsSpace (stop_if i (At p x (settle w) fs (spend 3 2 t)) (raise c p x w fs t))
    pick true r = (settle_omits w h.1, g)
    pick false r = r
raise_omits c p x (JoinThen place v ∷ w) fs t o h g = raise_omits c p x w fs t o h g
raise_omits c p x (JoinOne place ∷ w) fs t o h g = raise_omits c p x w fs t o h g
raise_omits c p x (Guard place cs v ∷ w) fs t o h g = pick (has_cond c cs) (raise_omits c p x w fs t o h.1 g)
  where
    pick : (i : Bool) → StateOmitsSpace (raise c p x w fs t) → StateOmitsSpace
        (stop_if i (At p x (open_on v (JoinOne place ∷ w)) fs (spend 3 2 t)) (raise c p x w fs t))
    pick true r = (open_omits v (JoinOne place ∷ w) h.0 h.1, g)
    pick false r = r
raise_omits c p x (Out d ∷ w) fs t o h g = raise_omits c p x w fs t o h.1 g

actual_omits : (cs : List ConditionOf) (i : ℕ) → Each IsOther cs → IsOther (get_or cs i Routine)
actual_omits [] i h = tt
actual_omits (c ∷ cs) zero h = h.0
actual_omits (c ∷ cs) (suc i) h = actual_omits cs i h.1

pub matching_omits : (q : Program) (p : ℕ) (cs : List ConditionOf) (d : ConditionOf) → Each IsOther cs → IsOther d → IsOther (matching q p cs d)
unfolding matching
matching_omits q p cs Leave h o = tt
matching_omits q p cs Routine h o = tt
matching_omits q p cs Space h o = o
matching_omits q p cs (Declared i) h o = pick (nat_lt i (proc_at q p).conds)
  where
    pick : (b : Bool) → IsOther (if b then get_or cs i Routine else Routine)
    pick true = actual_omits cs i h
    pick false = tt

pub main_omits : (q : Program) (c : ConditionOf) → IsOther c → IsOther (main_way q c)
unfolding main_way
main_omits q c o = pick (is_passed_on q q.main c)
  where
    pick : (b : Bool) → IsOther (if b then c else Routine)
    pick true = o
    pick false = tt

-- A step.

apply_omits : (r : Predef) (args : List Arg) (e : Effect) (p : ℕ) (x : List ValueOf) (w : List Item) (fs : List Frame) (t : Tally) → WorkOmitsSpace w
    → WaitingOmitsSpace fs → MoveOmitsSpace (apply_step r args e p x w fs t)
apply_omits r args (Normal v) p x w fs t h g = (settle_omits w h, g)
apply_omits r args Fault p x w fs t h g = raise_omits Routine p x w fs (predef_spend r Fault t) tt h g
apply_omits r args Beyond p x w fs t h g = raise_omits Routine p x w fs (predef_spend r Beyond t) tt h g

end_omits : (q : Program) (p : ℕ) (y : List ValueOf) (fs : List Frame) (t : Tally) → WaitingOmitsSpace fs → MoveOmitsSpace (end_step q p y fs t)
end_omits q p y [] t g = tt
end_omits q p y (Held c x w xs cs ∷ fs) t g = (settle_omits w g.0, g.2)

out_omits : (q : Program) (d : ConditionOf) (p : ℕ) (y : List ValueOf) (fs : List Frame) (t : Tally) → IsOther d → WaitingOmitsSpace fs
    → MoveOmitsSpace (out_step q d p y fs t)
out_omits q d p y [] t o g = main_omits q d o
out_omits q d p y (Held c x w xs cs ∷ fs) t o g = raise_omits _ c _ w fs _ (matching_omits q p cs d g.1 o) g.0 g.2

module _ (q : Program) (sizes : StackSizes) (bodies : (p : ℕ) → OmitsSpace (body_of q p)) where
  do_omits : (s : Stmt) (p : ℕ) (x : List ValueOf) (w : List Item) (fs : List Frame) (t : Tally) → HasCallRoom q sizes (At p x (Do s ∷ w) fs t)
      → OmitsSpace s → WorkOmitsSpace w → WaitingOmitsSpace fs → MoveOmitsSpace (do_step q sizes s p x w fs t)
  do_omits Skip p x w fs t r f h g = (settle_omits w h, g)
  do_omits (NoOp place) p x w fs t r f h g = (settle_omits w h, g)
  do_omits (Signal place c) p x w fs t r f h g = raise_omits c p x w fs (spend 4 3 t) f h g
  do_omits (Seq a b) p x w fs t r f h g = (open_omits (Seq a b) w f h, g)
  do_omits (Loop place s) p x w fs t r f h g = (open_omits s (Back place s ∷ w) f (f, h), g)
  do_omits (If place i s v) p x w fs t r f h g = pick (is_true_value (value_at x i))
    where
      pick : (e : Bool) → MoveOmitsSpace (either_move e (Next (At p x (open_on s (JoinThen place v ∷ w)) fs (spend 8 3 t)))
          (Next (At p x (open_on v (JoinOne place ∷ w)) fs (spend 9 4 t))))
      pick true = (open_omits s (JoinThen place v ∷ w) f.0 h, g)
      pick false = (open_omits v (JoinOne place ∷ w) f.1 h, g)
  do_omits (Begin place s cs v) p x w fs t r f h g = (open_omits (Begin place s cs v) w f h, g)
  do_omits (Call place c xs cs) p x w fs t r f h g =
      subst (λ l. MoveOmitsSpace (call_step q l c xs cs p x w fs t)) (sym r) (open_omits (body_of q c) [] (bodies c) tt, (h, f, g))
  do_omits (Apply place r args) p x w fs t room f h g = apply_omits r args (predef_effect r (values_of x args)) p x w fs t h g

  pub step_omits : (g : State) → HasCallRoom q sizes g → StateOmitsSpace g → MoveOmitsSpace (gypsy_step q sizes g)
  step_omits (At p x [] fs t) r h = end_omits q p x fs t h.1
  step_omits (At p x (Do s ∷ w) fs t) r h = do_omits s p x w fs t r h.0.0 h.0.1 h.1
  step_omits (At p x (Back place s ∷ w) fs t) r h = (open_omits (Loop place s) w h.0.0 h.0.1, h.1)
  step_omits (At p x (JoinThen place v ∷ w) fs t) r h = (settle_omits w h.0, h.1)
  step_omits (At p x (JoinOne place ∷ w) fs t) r h = (settle_omits w h.0, h.1)
  step_omits (At p x (Guard place cs v ∷ w) fs t) r h = (settle_omits w h.0.1, h.1)
  step_omits (At p x (Out c ∷ w) fs t) r h = out_omits q c p x fs t h.0.0 h.1

-- The condition that a step raises.

none_apart : None ≡ Some Space → ⊥
none_apart e = cc

other_apart : (c : ConditionOf) → IsOther c → Some c ≡ Some Space → ⊥
other_apart Leave o e = cc
other_apart Routine o e = cc
other_apart Space o e = o
other_apart (Declared i) o e = cc

after_apart : (e : Effect) → raised_after e ≡ Some Space → ⊥
after_apart (Normal v) i = none_apart i
after_apart Fault i = other_apart Routine tt i
after_apart Beyond i = other_apart Routine tt i

pub raises_other : (q : Program) (sizes : StackSizes) (g : State) → HasCallRoom q sizes g → StateOmitsSpace g → raised q sizes g ≡ Some Space → ⊥
raises_other q sizes (At p x (Do (Signal place c) ∷ w) fs t) r h e = other_apart c h.0.0 e
raises_other q sizes (At p x (Do (Call place c xs cs) ∷ w) fs t) r h e = none_apart (sym (ap raised_for r) ∙ e)
raises_other q sizes (At p x (Do (Apply place row args) ∷ w) fs t) r h e = after_apart (predef_effect row (values_of x args)) e
raises_other q sizes (At p x (Out d ∷ w) (Held c y v xs cs ∷ fs) t) r h e = other_apart (matching q p cs d) (matching_omits q p cs d h.1.1 h.0.0) e
raises_other q sizes g r h e = none_apart e

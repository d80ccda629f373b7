-- Each step keeps the words that are left.
use Rattle.std.proofs.Common.{◌≡◌, ℕ, ◌+◌, ◌≤◌, max, List, [], ◌∷◌, length, leb-true, not, ◌&&◌, if◌then◌else◌, Bool, true, false, refl, arith}
use Rattle.stack_text.specs.Values.{ValueOf}
use Rattle.gypsy_syntax.{specs.declared.predef.Predef.Predef, specs.Programs.{ConditionOf, Routine, Space, Arg, Proc, Program, proc_at, body_of, Stmt, Skip}}
use Rattle.gypsy_syntax.{specs.Programs.{NoOp, Signal, Seq, Loop, If, Begin, Call, Apply}, specs.Predefined.predef_effect, specs.Effects.{Effect, Normal}}
use Rattle.gypsy_syntax.specs.Effects.{Fault, Beyond, value_at, is_true_value}
use Rattle.gypsy_space.{specs.Costs.{Tally, spend, predef_spend, out_spend}, specs.Needs.{StackSizes, temp_need, ctrl_need, local_words, frame_of, main_need}}
use Rattle.gypsy_space.{specs.Needs.{with_call, call_need, has_room, has_temp_room, has_ctrl_room, lack_of}, specs.declared.need.Lack.Lack}
use Rattle.gypsy_space.specs.declared.need.Lack.TheVariants.{Nothing, Temporary, Control}
use Rattle.gypsy_semantics.{specs.Calls.{has_cond, is_leave, is_passed_on, matching, values_of, copied_out}, specs.Machine.{Item, Do, Back, JoinThen, JoinOne}}
use Rattle.gypsy_semantics.specs.Machine.{Guard, Out, Frame, Held, State, At, Next, opens, open_on, settle, stop_if, raise, either_move, apply_step, used}
use Rattle.gypsy_semantics.{specs.Machine.{call_step, do_step, end_step, out_step, gypsy_step, start}, specs.Room.{Covers, CoversWork, HasWords, HaveWords}}
use Rattle.gypsy_semantics.specs.Room.{StateRoom, MoveRoom}

-- a call that lacks nothing has room on each stack
pub rooms : (temp ctrl : Bool) → (if not temp then Temporary else if not ctrl then Control else Nothing) ≡ Nothing → (temp ≡ true) × (ctrl ≡ true)
rooms true true e = (refl, refl)
rooms true false e = absurd cc
rooms false ctrl e = absurd cc

-- a call with room lacks nothing
pub nothing_lacks : (q : Program) (sizes : StackSizes) (p : ℕ) (u : StackSizes) → has_room q sizes p u ≡ true → lack_of q sizes p u ≡ Nothing
unfolding has_room lack_of
nothing_lacks q sizes p u e = by_room (has_temp_room q sizes p u) (has_ctrl_room q sizes p u) e
  where
    by_room : (temp ctrl : Bool) → (temp && ctrl) ≡ true → (if not temp then Temporary else if not ctrl then Control else Nothing) ≡ Nothing
    by_room true true f = refl
    by_room true false f = absurd cc
    by_room false ctrl f = absurd cc

body_covered : (p : Proc) → Covers p p.body
body_covered p = (omega arith, omega arith)

opens_room : (p : Proc) (s : Stmt) (w ws : List Item) → Covers p s → CoversWork p w → CoversWork p ws → CoversWork p (opens s w ws)
opens_room p Skip w ws f h g = g
opens_room p (NoOp place) w ws f h g = (f, h)
opens_room p (Signal place c) w ws f h g = (f, h)
opens_room p (Seq a b) w ws f h g =
    let fa : Covers p a = (omega (arith, f.0), omega (arith, f.1)) in
    let fb : Covers p b = (omega (arith, f.0), omega (arith, f.1)) in
    opens_room p a (Do b ∷ w) (opens b w ws) fa (fb, h) (opens_room p b w ws fb h g)
opens_room p (Loop place s) w ws f h g = (f, h)
opens_room p (If place b s v) w ws f h g = (f, h)
opens_room p (Begin place s cs v) w ws f h g =
    let fs : Covers p s = (omega (arith, f.0), omega (arith, f.1)) in
    let fv : Covers p v = (omega (arith, f.0), omega (arith, f.1)) in
    opens_room p s (Guard place cs v ∷ w) (Guard place cs v ∷ w) fs (fv, h) (fv, h)
opens_room p (Call place c xs cs) w ws f h g = (f, h)
opens_room p (Apply place r args) w ws f h g = (f, h)

settle_room : (p : Proc) (w : List Item) → CoversWork p w → CoversWork p (settle w)
settle_room p [] h = tt
settle_room p (Do s ∷ w) h = opens_room p s w (settle w) h.0 h.1 (settle_room p w h.1)
settle_room p (Back place s ∷ w) h = h
settle_room p (JoinThen place v ∷ w) h = h
settle_room p (JoinOne place ∷ w) h = h
settle_room p (Guard place cs v ∷ w) h = h
settle_room p (Out c ∷ w) h = h

open_room : (p : Proc) (s : Stmt) (w : List Item) → Covers p s → CoversWork p w → CoversWork p (open_on s w)
open_room p s w f h = opens_room p s w (settle w) f h (settle_room p w h)

module _ (q : Program) (sizes : StackSizes) where
  raise_room : (c : ConditionOf) (p : ℕ) (x : List ValueOf) (w : List Item) (fs : List Frame) (t : Tally) → CoversWork (proc_at q p) w
      → HaveWords q sizes p fs → StateRoom q sizes (raise c p x w fs t)
  raise_room c p x [] fs t h g = (tt, g)
  raise_room c p x (Do s ∷ w) fs t h g = raise_room c p x w fs t h.1 g
  raise_room c p x (Back place s ∷ w) fs t h g = pick (is_leave c) (raise_room c p x w fs t h.1 g)
    where
      pick : (b : Bool) → StateRoom q sizes (raise c p x w fs t) → StateRoom q sizes (stop_if b (At p x (settle w) fs (spend 3 2 t)) (raise c p x w fs t))
      pick true r = (settle_room (proc_at q p) w h.1, g)
      pick false r = r
  raise_room c p x (JoinThen place u ∷ w) fs t h g = raise_room c p x w fs t h g
  raise_room c p x (JoinOne place ∷ w) fs t h g = raise_room c p x w fs t h g
  raise_room c p x (Guard place cs u ∷ w) fs t h g = pick (has_cond c cs) (raise_room c p x w fs t h.1 g)
    where
      pick : (b : Bool) → StateRoom q sizes (raise c p x w fs t) → StateRoom q sizes
          (stop_if b (At p x (open_on u (JoinOne place ∷ w)) fs (spend 3 2 t)) (raise c p x w fs t))
      pick true r = (open_room (proc_at q p) u (JoinOne place ∷ w) h.0 h.1, g)
      pick false r = r
  raise_room c p x (Out d ∷ w) fs t h g = raise_room c p x w fs t h g

  -- a call that has room leaves the words that its callee needs
  room_left : (p : ℕ) (u : StackSizes) → lack_of q sizes p u ≡ Nothing → HasWords q sizes p (with_call q p u)
  unfolding lack_of with_call call_need
  room_left p u e =
      let c = proc_at q p in
      let l = local_words c in
      let k = rooms (has_temp_room q sizes p u) (has_ctrl_room q sizes p u) e in
      let temp : u.temp + max (l + length c.locals + length c.formals) (l + temp_need c) ≤ sizes.temp =
      leb-true (u.temp + max (l + length c.locals + length c.formals) (l + temp_need c)) sizes.temp k.0 in
      let ctrl : u.ctrl + (frame_of c + ctrl_need c) ≤ sizes.ctrl = leb-true (u.ctrl + (frame_of c + ctrl_need c)) sizes.ctrl k.1 in
      (more u.temp (local_words c) (temp_need c) (l + length c.locals + length c.formals) sizes.temp temp, omega (arith, ctrl))
    where
      more : (a l n m s : ℕ) → a + max m (l + n) ≤ s → a + l + n ≤ s
      more a l n m s h = omega (arith, h)

  call_room : (l : Lack) (c : ℕ) (xs : List ℕ) (cs : List ConditionOf) (p : ℕ) (x : List ValueOf) (w : List Item) (fs : List Frame) (t : Tally)
      → lack_of q sizes c (used q p fs) ≡ l → CoversWork (proc_at q p) w → HaveWords q sizes p fs → MoveRoom q sizes (call_step q l c xs cs p x w fs t)
  call_room Nothing c xs cs p x w fs t e h g =
      (open_room (proc_at q c) (body_of q c) [] (body_covered (proc_at q c)) tt, (room_left c (used q p fs) e, h, g))
  call_room Temporary c xs cs p x w fs t e h g = raise_room Space p x w fs (spend 15 7 t) h g
  call_room Control c xs cs p x w fs t e h g = raise_room Space p x w fs (spend 26 11 t) h g

  apply_room : (r : Predef) (args : List Arg) (e : Effect) (p : ℕ) (x : List ValueOf) (w : List Item) (fs : List Frame) (t : Tally)
      → CoversWork (proc_at q p) w → HaveWords q sizes p fs → MoveRoom q sizes (apply_step r args e p x w fs t)
  apply_room r args (Normal u) p x w fs t h g = (settle_room (proc_at q p) w h, g)
  apply_room r args Fault p x w fs t h g = raise_room Routine p x w fs (predef_spend r Fault t) h g
  apply_room r args Beyond p x w fs t h g = raise_room Routine p x w fs (predef_spend r Beyond t) h g

  do_room : (s : Stmt) (p : ℕ) (x : List ValueOf) (w : List Item) (fs : List Frame) (t : Tally) → Covers (proc_at q p) s → CoversWork (proc_at q p) w
      → HaveWords q sizes p fs → MoveRoom q sizes (do_step q sizes s p x w fs t)
  do_room Skip p x w fs t f h g = (settle_room (proc_at q p) w h, g)
  do_room (NoOp place) p x w fs t f h g = (settle_room (proc_at q p) w h, g)
  do_room (Signal place c) p x w fs t f h g = raise_room c p x w fs (spend 4 3 t) h g
  do_room (Seq a b) p x w fs t f h g = (open_room (proc_at q p) (Seq a b) w f h, g)
  do_room (Loop place s) p x w fs t f h g = (open_room (proc_at q p) s (Back place s ∷ w) f (f, h), g)
  do_room (If place b s u) p x w fs t f h g = pick (is_true_value (value_at x b))
    where
      left : Covers (proc_at q p) s
      left = (omega (arith, f.0), omega (arith, f.1))

      right : Covers (proc_at q p) u
      right = (omega (arith, f.0), omega (arith, f.1))

      pick : (b : Bool) → MoveRoom q sizes (either_move b (Next (At p x (open_on s (JoinThen place u ∷ w)) fs (spend 8 3 t)))
          (Next (At p x (open_on u (JoinOne place ∷ w)) fs (spend 9 4 t))))
      pick true = (open_room (proc_at q p) s (JoinThen place u ∷ w) left h, g)
      pick false = (open_room (proc_at q p) u (JoinOne place ∷ w) right h, g)
  do_room (Begin place s cs u) p x w fs t f h g = (open_room (proc_at q p) (Begin place s cs u) w f h, g)
  do_room (Call place c xs cs) p x w fs t f h g = call_room (lack_of q sizes c (used q p fs)) c xs cs p x w fs t refl h g
  do_room (Apply place r args) p x w fs t f h g = apply_room r args (predef_effect r (values_of x args)) p x w fs t h g

  end_room : (p : ℕ) (y : List ValueOf) (fs : List Frame) (t : Tally) → HaveWords q sizes p fs → MoveRoom q sizes (end_step q p y fs t)
  end_room p y [] t g = tt
  end_room p y (Held c x w xs cs ∷ fs) t g = (settle_room (proc_at q c) w g.1, g.2)

  out_room : (d : ConditionOf) (p : ℕ) (y : List ValueOf) (fs : List Frame) (t : Tally) → HaveWords q sizes p fs → MoveRoom q sizes (out_step q d p y fs t)
  out_room d p y [] t g = tt
  out_room d p y (Held c x w xs cs ∷ fs) t g =
      raise_room (matching q p cs d) c (copied_out xs y x) w fs (out_spend (is_passed_on q p d) t) g.1 g.2

  pub step_room : (g : State) → StateRoom q sizes g → MoveRoom q sizes (gypsy_step q sizes g)
  step_room (At p x [] fs t) h = end_room p x fs t h.1
  step_room (At p x (Do s ∷ w) fs t) h = do_room s p x w fs t h.0.0 h.0.1 h.1
  step_room (At p x (Back place s ∷ w) fs t) h = (open_room (proc_at q p) (Loop place s) w h.0.0 h.0.1, h.1)
  step_room (At p x (JoinThen place v ∷ w) fs t) h = (settle_room (proc_at q p) w h.0, h.1)
  step_room (At p x (JoinOne place ∷ w) fs t) h = (settle_room (proc_at q p) w h.0, h.1)
  step_room (At p x (Guard place cs v ∷ w) fs t) h = (settle_room (proc_at q p) w h.0.1, h.1)
  step_room (At p x (Out c ∷ w) fs t) h = out_room c p x fs t h.1

  pub start_room : (v : List ValueOf) → (main_need q).temp ≤ sizes.temp → (main_need q).ctrl ≤ sizes.ctrl → StateRoom q sizes (start q v)
  unfolding main_need
  start_room v a b = (open_room (proc_at q q.main) (body_of q q.main) [] (body_covered (proc_at q q.main)) tt, (a, b))

-- Larger stacks change no run in which spaceerror is never raised.
use Rattle.std.{proofs.Common.{◌≡◌, ◌+◌, ℕ, zero, suc, List, [], ◌∷◌, true, not, if◌then◌else◌, refl, sym, ap, ◌∙◌, arith}, proofs.lemmas.Bool.le-leb}
use Rattle.std.proofs.lemmas.Bool.{leb-true}
use Rattle.stack_text.specs.Values.{ValueOf}
use Rattle.gypsy_syntax.specs.Programs.{Program, Stmt, Call}
use Rattle.gypsy_space.{specs.Costs.Tally, specs.Needs.{StackSizes, call_need, has_temp_room, has_ctrl_room, lack_of}}
use Rattle.gypsy_space.specs.declared.need.Lack.TheVariants.{Nothing, Temporary, Control}
use Rattle.gypsy_semantics.{specs.Calls.CurrentCondition, specs.Machine.{Item, Do, Frame, State, At, Move, Next, Ended, used, call_step, do_step, gypsy_step}}
use Rattle.gypsy_semantics.{specs.Machine.{go_on, run, start}, specs.Views.Moments.{moved_on, moment}, proofs.Runs.agree, proofs.Rooms.rooms}
use Rattle.space_cert.{specs.Covers.IsAtMost, specs.Larger.{EndsWith, LargerStacksChangeNothing, CoveredRunsAreTheSame}, specs.Never.{Visits, First, Later}}
use Rattle.space_cert.{specs.Never.HasCallRoom, proofs.NeverLaws.never}

module _ (q : Program) (s t : StackSizes) (most : IsAtMost s t) where
  -- a call that has room has it on larger stacks
  more_room : (p : ℕ) (u : StackSizes) → lack_of q s p u ≡ Nothing → lack_of q t p u ≡ Nothing
  unfolding lack_of
  more_room p u e =
      let both = rooms (has_temp_room q s p u) (has_ctrl_room q s p u) e in
      let temp : has_temp_room q t p u ≡ true = le-leb (u.temp + (call_need q p).temp) t.temp (omega (arith, leb-true)) in
      let ctrl : has_ctrl_room q t p u ≡ true = le-leb (u.ctrl + (call_need q p).ctrl) t.ctrl (omega (arith, leb-true)) in
      λ i. if not (temp i) then Temporary else if not (ctrl i) then Control else Nothing

  -- a step looks at the sizes where a call is made
  do_same : (a : Stmt) (p : ℕ) (x : List ValueOf) (w : List Item) (fs : List Frame) (u : Tally) → HasCallRoom q s (At p x (Do a ∷ w) fs u)
      → do_step q s a p x w fs u ≡ do_step q t a p x w fs u
  do_same (Call place c xs cs) p x w fs u h = ap (λ l. call_step q l c xs cs p x w fs u) (h ∙ sym (more_room c (used q p fs) h))
  do_same a p x w fs u h = refl

  step_same : (g : State) → HasCallRoom q s g → gypsy_step q s g ≡ gypsy_step q t g
  step_same (At p x (Do a ∷ w) fs u) h = do_same a p x w fs u h
  step_same (At p x [] fs u) h = refl
  step_same (At p x (i ∷ w) fs u) h = refl

  module _ (v : List ValueOf) (room : (g : State) → Visits q s v g → HasCallRoom q s g) where
    moment_same : (j : ℕ) (g : State) → Visits q s v g → moment q s j g ≡ moment q t j g
    moment_same zero g k = refl
    moment_same (suc j) g k =
        by_move (gypsy_step q s g) refl (λ h l. moment_same j h l) ∙ ap (λ (m : Move). moved_on m (moment q t j)) (step_same g (room g k))
      where
        by_move : (m : Move) → gypsy_step q s g ≡ m → ((h : State) → Visits q s v h → moment q s j h ≡ moment q t j h)
            → moved_on m (moment q s j) ≡ moved_on m (moment q t j)
        by_move (Next h) e later = later h (Later k e)
        by_move (Ended x c u) e later = refl

    run_same : (j : ℕ) (g : State) → Visits q s v g → run q s j g ≡ run q t j g
    run_same zero g k = refl
    run_same (suc j) g k =
        by_move (gypsy_step q s g) refl (λ h l. run_same j h l) ∙ ap (λ (m : Move). go_on m (run q t j)) (step_same g (room g k))
      where
        by_move : (m : Move) → gypsy_step q s g ≡ m → ((h : State) → Visits q s v h → run q s j h ≡ run q t j h) → go_on m (run q s j) ≡ go_on m (run q t j)
        by_move (Next h) e later = later h (Later k e)
        by_move (Ended x c u) e later = refl

-- where both have the same run, the meaning is done with one where it is with the other
carried : (q : Program) (s t : StackSizes) (v : List ValueOf) → ((j : ℕ) → run q s j (start q v) ≡ run q t j (start q v))
    → (x : List ValueOf) (c : CurrentCondition) (u : Tally) → EndsWith q s v x c u → EndsWith q t v x c u
carried q s t v same x c u e =
    let over = (agree q s v).done e.0 x c u e.1 in
    (suc over.0, (agree q t v).ended over.0 x c u (sym (same over.0) ∙ over.1))

pub larger_same : LargerStacksChangeNothing
larger_same q s t v never most =
    let same : (j : ℕ) → run q s j (start q v) ≡ run q t j (start q v) = λ j. run_same q s t most v never.calls j (start q v) (First refl) in
    record {
      moments = λ j. moment_same q s t most v never.calls j (start q v) (First refl);
      ends = λ x c u. (carried q s t v same x c u, carried q t s v (λ j. sym (same j)) x c u);
    }

pub covered_same : CoveredRunsAreTheSame
covered_same q bs s t v fits covers most = larger_same q s t v (never q bs s covers fits v) most

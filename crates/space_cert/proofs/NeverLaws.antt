-- A run that a certificate covers never sets spaceerror.
use Rattle.std.proofs.Common.{◌≡◌, ℕ, zero, suc, List, [], refl, subst, sym}
use Rattle.stack_text.specs.Values.{ValueOf}
use Rattle.gypsy_syntax.{specs.Programs.{Program, body_of}, specs.ProgramFits.ProgramFits}
use Rattle.gypsy_space.specs.Needs.{StackSizes}
use Rattle.gypsy_semantics.specs.Machine.{State, Move, Next, Ended, Ending, Over, Going, gypsy_step, go_on, run, start}
use Rattle.space_cert.{specs.Covers.{Bounds, Covers}, specs.CoveredStates.StateCovered, specs.Never.{Visits, First, Later, NeverSpaceError}}
use Rattle.space_cert.{specs.Internal.Omits.{StateOmitsSpace, WayIsOther, MoveOmitsSpace}, proofs.StepLaws.{MoveCovered, start_covered, step_covered}}
use Rattle.space_cert.{proofs.StepLaws.call_on_top, proofs.OmitLaws.{body_omits, open_omits, step_omits, raises_other}, proofs.MeaningLaws.never_meant}

abbrev EndIsOther : Ending → Type 0
EndIsOther (Over x c t) = WayIsOther c
EndIsOther Going = Unit {0}

module _ (q : Program) (bs : Bounds) (sizes : StackSizes) (covers : Covers q bs sizes) (fits : ProgramFits q) where
  -- a state with both
  record IsSafe (g : State) : Type 0 where
    covered : StateCovered q bs sizes g
    omits : StateOmitsSpace g

  start_safe : (v : List ValueOf) → IsSafe (start q v)
  start_safe v = record { covered = start_covered q bs sizes covers v; omits = (open_omits (body_of q q.main) [] (body_omits q fits q.main) tt, tt) }

  step_safe : (g h : State) → IsSafe g → gypsy_step q sizes g ≡ Next h → IsSafe h
  step_safe g h s e = record {
    covered = subst (MoveCovered q bs sizes) e (step_covered q bs sizes covers.certificate g s.covered);
    omits = subst MoveOmitsSpace e (step_omits q sizes (body_omits q fits) g (call_on_top q bs sizes covers.certificate g s.covered) s.omits);
  }

  visits_safe : (v : List ValueOf) (g : State) → Visits q sizes v g → IsSafe g
  visits_safe v g (First e) = subst IsSafe (sym e) (start_safe v)
  visits_safe v g (Later {g = f} k e) = step_safe f g (visits_safe v f k) e

  step_other : (n : ℕ) (g : State) → IsSafe g → (m : Move) → gypsy_step q sizes g ≡ m → ((h : State) → IsSafe h → EndIsOther (run q sizes n h))
      → EndIsOther (go_on m (run q sizes n))
  step_other n g s (Next h) e later = later h (step_safe g h s e)
  step_other n g s (Ended x c t) e later =
      subst MoveOmitsSpace e (step_omits q sizes (body_omits q fits) g (call_on_top q bs sizes covers.certificate g s.covered) s.omits)

  run_other : (n : ℕ) (g : State) → IsSafe g → EndIsOther (run q sizes n g)
  run_other zero g s = tt
  run_other (suc n) g s = step_other n g s (gypsy_step q sizes g) refl (λ h k. run_other n h k)

  pub never : (v : List ValueOf) → NeverSpaceError q sizes v
  never v = record {
    calls = λ g k. call_on_top q bs sizes covers.certificate g (visits_safe v g k).covered;
    steps = λ g k. let s = visits_safe v g k in raises_other q sizes g (call_on_top q bs sizes covers.certificate g s.covered) s.omits;
    ends = λ n x t e. subst EndIsOther e (run_other n (start q v) (start_safe v));
    means = λ n x e. never_meant q bs sizes covers fits v n x e;
  }

-- Runs in a window and in a wider one, and a run that goes on after another.
use Rattle.std.proofs.Common.{◌≡◌, ℕ, zero, suc, ◌+◌, ◌<◌, ◌≤◌, ◌==◌, List, Bool, true, false, if◌then◌else◌, Result, Ok, Err, refl, ap, subst, ◌∙◌, arith}
use Rattle.fm_machine.{specs.State.Fm, specs.Step.{fm_step, then_on}, specs.Run.{fm_run, pc_of, Avoids}, specs.Outcome.{IsOutcome, RunOutcome, outcome}}
use Rattle.fm_machine.{specs.Outcome.{one_later, after_one, stepped_on}, specs.declared.fault.Outside.Outside, specs.declared.processor.Run.Run}
use Rattle.fm_machine.proofs.RunLaws.{run_then, avoids_then, outcome_is, outcome_only}
use Rattle.fm_machine.specs.declared.processor.Run.TheVariants as run
use Rattle.fm_turns.{specs.Windows.{widened, widened_end, IsBehind, IsInside, StaysInsideFrom}, proofs.WindowLaws.{step_wider, KeepsWindow, step_kept}}

-- ---- what a run keeps

kept_twice : (s t u : Fm) → KeepsWindow s t → KeepsWindow t u → KeepsWindow s u
kept_twice s t u p q = record { base = q.base ∙ p.base; memory = q.memory ∙ p.memory }

run_kept : (k : ℕ) (s t : Fm) → fm_run k s ≡ Ok t → KeepsWindow s t
unfolding fm_run
run_kept zero s t h = let same : s ≡ t = cc in subst (KeepsWindow s) same record { base = refl; memory = refl }
run_kept (suc k) s t h = by (λ u. run_kept k u t) (fm_step s) refl h
  where
    by : ((u : Fm) → fm_run k u ≡ Ok t → KeepsWindow u t) → (r : Result Fm Outside) → fm_step s ≡ r → then_on r (fm_run k) ≡ Ok t → KeepsWindow s t
    by on (Ok u) e g = kept_twice s u t (step_kept s u e) (on u g)
    by on (Err x) e g = absurd cc

end_kept : (s t : Fm) (pc budget : ℕ) (r : Run) → IsOutcome s pc budget r t → KeepsWindow s t
end_kept s t pc budget (run.Ended k) h = run_kept k s t h.1.reached
end_kept s t pc budget run.Spent h = run_kept budget s t h.0
end_kept s t pc budget (run.Outside a k) h = run_kept k s t h.1

-- a run keeps its window
pub outcome_kept : (budget pc : ℕ) (s : Fm) → KeepsWindow s (outcome budget pc s).state
outcome_kept budget pc s = end_kept s (outcome budget pc s).state pc budget (outcome budget pc s).run (outcome_is s pc budget)

-- ---- a run that goes on

-- the same end, after so many steps
abbrev pub later_run : ℕ → Run → Run
later_run m (run.Ended k) = run.Ended (m + k)
later_run m run.Spent = run.Spent
later_run m (run.Outside a k) = run.Outside a (m + k)

fewer : (s : Fm) (pc j k : ℕ) → j ≤ k → Avoids s pc k → Avoids s pc j
fewer s pc j k le h i u lt g = h i u (omega arith) g

is_later : (s t u : Fm) (pc m n : ℕ) (r : Run) → IsOutcome s pc m run.Spent t → IsOutcome t pc n r u → IsOutcome s pc (m + n) (later_run m r) u
is_later s t u pc m n (run.Ended k) h g = (
  omega (arith, g.0),
  record {
    reached = run_then m k s t u h.0 g.1.reached;
    there = g.1.there;
    before = avoids_then s t pc m k h.0 (fewer s pc m (m + 1) (omega arith) h.1) g.1.before;
  },
)
is_later s t u pc m n run.Spent h g =
    let more : m + (n + 1) ≡ m + n + 1 = omega arith in
    (run_then m n s t u h.0 g.0, subst (Avoids s pc) more (avoids_then s t pc m (n + 1) h.0 (fewer s pc m (m + 1) (omega arith) h.1) g.1))
is_later s t u pc m n (run.Outside a k) h g =
    let more : m + (k + 1) ≡ m + k + 1 = omega arith in (
      omega (arith, g.0),
      run_then m k s t u h.0 g.1,
      g.2,
      subst (Avoids s pc) more
          (avoids_then s t pc m (k + 1) h.0 (fewer s pc m (m + 1) (omega arith) h.1) g.3),
    )

-- where a run was spent, a run with a larger budget goes on from its state
pub outcome_later : (s t : Fm) (pc m n : ℕ) → outcome m pc s ≡ record { run = run.Spent; state = t }
    → outcome (m + n) pc s ≡ record { run = later_run m (outcome n pc t).run; state = (outcome n pc t).state }
outcome_later s t pc m n e =
    let h : IsOutcome s pc m run.Spent t = subst (λ (o : RunOutcome). IsOutcome s pc m o.run o.state) e (outcome_is s pc m) in
    outcome_only s pc (m + n) (later_run m (outcome n pc t).run) (outcome n pc t).state
    (is_later s t (outcome n pc t).state pc m n (outcome n pc t).run h (outcome_is t pc n))

-- where a run ended, it ends so with every larger budget
pub outcome_ended : (s t : Fm) (pc m n k : ℕ) → m ≤ n → outcome m pc s ≡ record { run = run.Ended k; state = t }
    → outcome n pc s ≡ record { run = run.Ended k; state = t }
outcome_ended s t pc m n k le e =
    let h : IsOutcome s pc m (run.Ended k) t = subst (λ (o : RunOutcome). IsOutcome s pc m o.run o.state) e (outcome_is s pc m) in
    outcome_only s pc n (run.Ended k) t (omega (arith, h.0), h.1)

-- a run that ended was made within its budget
pub ended_within : (s : Fm) (pc budget k : ℕ) → (outcome budget pc s).run ≡ run.Ended k → k ≤ budget
ended_within s pc budget k e =
    let h : IsOutcome s pc budget (run.Ended k) (outcome budget pc s).state =
    subst (λ (r : Run). IsOutcome s pc budget r (outcome budget pc s).state) e (outcome_is s pc budget) in
    h.0

-- where a run was spent, the next one doesn't end at once
pub not_at_once : (s t : Fm) (pc m n k : ℕ) → outcome m pc s ≡ record { run = run.Spent; state = t } → (outcome n pc t).run ≡ run.Ended k → 0 < k
not_at_once s t pc m n zero e g =
    let h : IsOutcome s pc m run.Spent t = subst (λ (o : RunOutcome). IsOutcome s pc m o.run o.state) e (outcome_is s pc m) in
    let d : IsOutcome t pc n (run.Ended 0) (outcome n pc t).state = subst (λ (r : Run). IsOutcome t pc n r (outcome n pc t).state) g (outcome_is t pc n) in
    let reached : fm_run (m + 0) s ≡ Ok (outcome n pc t).state = run_then m 0 s t (outcome n pc t).state h.0 d.1.reached in
    absurd (h.1 (m + 0) (outcome n pc t).state (omega arith) reached d.1.there)
not_at_once s t pc m n (suc k) e g = omega arith

-- ---- a wider window

inside_later : (r : Run) → IsInside (one_later r) → IsInside r
inside_later (run.Ended k) h = tt
inside_later run.Spent h = tt
inside_later (run.Outside a k) h = absurd h

abbrev at_once : Fm → RunOutcome
at_once s = record { run = run.Ended 0; state = s }

module _ (base : ℕ) (before after : List ℕ) (pc : ℕ) where
  -- a run that stays in the window is the same run in the wider one, and leaves the words before and after
  pub outcome_wider : (budget : ℕ) (s : Fm) → IsBehind base before s → IsInside (outcome budget pc s).run
      → outcome budget pc (widened base before after s) ≡ widened_end base before after (outcome budget pc s)
  unfolding outcome
  outcome_wider zero s at h = by (pc_of s == pc)
    where
      by : (b : Bool) → let at_end : RunOutcome = record { run = run.Ended 0; state = s } in let at_none : RunOutcome = record { run = run.Spent; state = s } in
          (if b then widened_end base before after at_end else widened_end base before after at_none)
          ≡ widened_end base before after (if b then at_end else at_none)
      by true = refl
      by false = refl
  outcome_wider (suc budget) s at h = by (λ t. outcome_wider budget t) (pc_of s == pc) (fm_step s) refl h
    where
      by : ((t : Fm) → IsBehind base before t → IsInside (outcome budget pc t).run
          → outcome budget pc (widened base before after t) ≡ widened_end base before after (outcome budget pc t))
          → (b : Bool) (r : Result Fm Outside) → fm_step s ≡ r → IsInside (if b then at_once s else stepped_on s r (outcome budget pc)).run
          → (if b then at_once (widened base before after s) else stepped_on (widened base before after s) (fm_step (widened base before after s))
          (outcome budget pc)) ≡ widened_end base before after (if b then at_once s else stepped_on s r (outcome budget pc))
      by on true r e g = refl
      by on false (Ok t) e g =
          let kept = step_kept s t e in
          let next = on t (kept.base ∙ at) (inside_later (outcome budget pc t).run g) in
          ap (λ x. stepped_on (widened base before after s) x (outcome budget pc)) (step_wider base before after s t at e) ∙ ap after_one next
      by on false (Err x) e g = absurd g

-- ---- runs that stay inside

-- they don't leave the window within any budget
pub stays_within : (s : Fm) (pc budget : ℕ) → StaysInsideFrom s pc → IsInside (outcome budget pc s).run
stays_within s pc budget stays = by (outcome budget pc s).run (outcome_is s pc budget)
  where
    by : (r : Run) → IsOutcome s pc budget r (outcome budget pc s).state → IsInside r
    by (run.Ended k) h = tt
    by run.Spent h = tt
    by (run.Outside a k) h = stays k (outcome budget pc s).state record { address = a } h.1 h.3 h.2

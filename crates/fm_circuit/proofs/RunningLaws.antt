-- The board follows a run of its machine.
use Rattle.std.proofs.Common.{◌≡◌, ℕ, zero, suc, ◌+◌, ◌-◌, ◌*◌, ◌<◌, ◌≤◌, Result, Ok, Err, refl, ap, sym, subst, ◌∙◌, arith, ⊎_elim}
use Rattle.std.{proofs.lemmas.Bool.cases_lt, specs.Prelude.slice_index}
use Rattle.fm_machine.{specs.State.Fm, specs.Step.{then_on, fm_step}, specs.Run.{fm_run, pc_of, Avoids}, proofs.RunLaws.{run_on, run_none}}
use Rattle.fm_machine.specs.declared.fault.Outside.{Outside}
use Rattle.fm_circuit.{specs.Processor.driver_of, specs.Phases.fetch, specs.Board.{Board, cycles, reset_cycle}, specs.Following.{HasWords, StandsFor, IsAt}}
use Rattle.fm_circuit.{specs.Following.{phase_of, if_ok, step_cycles, run_cycles}, specs.Laws.{Makes, Made, Runs, Ends, Begins, Ceases}}
use Rattle.fm_circuit.{proofs.PassLaws.cycles_add, proofs.FollowLaws.{steps, faults}}

pub runs : Runs
unfolding fm_run run_cycles cycles
runs b s zero t stands words e =
    let same : s ≡ t = cc in
    record { there = subst (λ u. StandsFor b u) same stands; few = omega arith; words = subst (λ u. HasWords u) same words }
runs b s (suc k) t stands words e = by_step (λ c u p q r. runs c u k t p q r) (fm_step s) refl e
  where
    by_step : ((c : Board) (u : Fm) → StandsFor c u → HasWords u → fm_run k u ≡ Ok t → Made c u k t) → (r : Result Fm Outside) → fm_step s ≡ r
        → then_on r (fm_run k) ≡ Ok t → Made b s (suc k) t
    by_step again (Ok u) h g =
        let made = steps b s u stands words h in
        let few = made.few in
        let rest = again (cycles (step_cycles s) b) u made.there made.words g in
        let fewer = rest.few in
        let n : run_cycles (suc k) s ≡ step_cycles s + run_cycles k u = ap (λ r. step_cycles s + if_ok r (run_cycles k)) h in
        record {
          there = subst (λ c. StandsFor c t) (sym (ap (λ n. cycles n b) n ∙ cycles_add (step_cycles s) (run_cycles k u) b)) rest.there;
          few = subst (λ n. n ≤ 8 * suc k) (sym n) (omega arith);
          words = rest.words;
        }
    by_step again (Err f) h g = absurd (let no : Err f ≡ Ok t = g in cc)

-- the board stands for a machine at the machine's address
pub at_address : (b : Board) (s : Fm) → StandsFor b s → (phase_of b ≡ fetch) × (slice_index b.kept.file 15 ≡ pc_of s)
at_address b s stands = (ap phase_of stands.is, ap (λ c. slice_index c.kept.file 15) stands.is)

-- before the end of a run that avoids an address the board isn't there
pub avoided : (k : ℕ) (b : Board) (s t : Fm) (pc : ℕ) → StandsFor b s → HasWords s → fm_run k s ≡ Ok t → Avoids s pc k → (j : ℕ) → j < run_cycles k s
    → ¬ (IsAt pc (cycles j b))
unfolding fm_run run_cycles cycles
avoided zero b s t pc stands words e avoids j lt is = absurd (omega arith)
avoided (suc k) b s t pc stands words e avoids j lt is = by_step (λ c u p q r a. avoided k c u t pc p q r a) (fm_step s) refl e
  where
    Again : Type 0
    Again = (c : Board) (u : Fm) → StandsFor c u → HasWords u → fm_run k u ≡ Ok t → Avoids u pc k → (j : ℕ) → j < run_cycles k u → ¬ (IsAt pc (cycles j c))

    by_step : Again → (r : Result Fm Outside) → fm_step s ≡ r → then_on r (fm_run k) ≡ Ok t → ⊥
    by_step again (Err f) h g = let no : Err f ≡ Ok t = g in cc
    by_step again (Ok u) h g = ⊎_elim (λ below. here j below is) (λ past. later past) (cases_lt j (step_cycles s))
      where
        made : Makes b s u
        made = steps b s u stands words h

        here : (j : ℕ) → j < step_cycles s → IsAt pc (cycles j b) → ⊥
        here zero below is = avoids 0 s (omega arith) (run_none s) (sym (at_address b s stands).1 ∙ is.1)
        here (suc j) below is = made.busy (suc j) (omega arith) below is.0

        later : step_cycles s ≤ j → ⊥
        later past =
            let n : run_cycles (suc k) s ≡ step_cycles s + run_cycles k u = ap (λ r. step_cycles s + if_ok r (run_cycles k)) h in
            let sum : step_cycles s + (j - step_cycles s) ≡ j = omega arith in
            let same : cycles j b ≡ cycles (j - step_cycles s) (cycles (step_cycles s) b) =
            ap (λ n. cycles n b) (sym sum) ∙ cycles_add (step_cycles s) (j - step_cycles s) b in
            again (cycles (step_cycles s) b) u made.there made.words g (λ i v below r. avoids (suc i) v (omega arith) (run_on i s u v h r))
            (j - step_cycles s) (omega (arith, n, lt)) (subst (λ c. IsAt pc c) same is)

pub ends : Ends
ends b s pc k t stands words first =
    let made = runs b s k t stands words first.reached in
    let at = at_address (cycles (run_cycles k s) b) t made.there in
    record {
      made = made;
      there = (at.0, at.1 ∙ first.there);
      before = avoided k b s t pc stands words first.reached first.before;
    }

pub begins : Begins
unfolding reset_cycle driver_of
begins b =
    record { ir = 0; x = 0; y = 0; at = 0; read = (reset_cycle b).read; outside = (reset_cycle b).outside; is = refl }

pub ceases : Ceases
ceases b s k t e stands words r h = let made = runs b s k t stands words r in faults (cycles (run_cycles k s) b) t e made.there made.words h

-- Each run of Piton is one of the processor, from its placed words.
use Rattle.std.{proofs.Common.{◌≡◌, ℕ, zero, suc, ◌+◌, ◌-◌, ◌<◌, ◌≤◌, Ok, Err, List, [], ◌∷◌, refl, sym, ap, ◌∙◌, subst, arith}, specs.Prelude.{◌^◌, IsOk}}
use Rattle.std.specs.Prelude.{Result}
use Rattle.fm_machine.{specs.State.Fm, specs.Run.{fm_run, Avoids}, specs.declared.fault.Outside.Outside}
use Rattle.fm_machine.specs.Step as machine_step
use Rattle.fm_machine.proofs.RunLaws as machine
use Rattle.fm_code.proofs.RunLaws.{arrives_then, arrives_at_once}
use Rattle.piton_check.{specs.Instruction.SystemView, specs.PitonChecking.{CheckedOf, IsChecked}, specs.Sound.IsSound}
use Rattle.piton_semantics.{specs.State.{Frame, PitonState}, specs.Views.then_on, specs.InstructionRows.Row, specs.Step.{piton_step, piton_run, step_cost}}
use Rattle.piton_semantics.{specs.Step.{run_cost, cost_after}, specs.StateView.started, specs.Fits.{IsPlace, IsState, system_in}, specs.Placed.placed}
use Rattle.piton_semantics.{specs.Placed.{final_pc_of, end_of, addresses_of, loaded}, specs.Stands.{address_from, Stands, Simulates}, proofs.KeepLaws.step_kept}
use Rattle.piton_semantics.{proofs.RunLaws.run_kept, proofs.SeenLaws.opening_seen, proofs.SoundLaws.{known, words_known}, proofs.SizeLaws.code_ends}
use Rattle.piton_semantics.{proofs.OpeningLaws.opening_stands, proofs.ReadyLaws.{place_below, end_fits}, proofs.StepViewLaws.{refused, by_ok}}
use Rattle.piton_semantics.proofs.StepLaws.{step_simulated}
use Rattle.piton_linker.specs.Theorem.{RunsOnProcessor, PitonRunsOnProcessor}

module _ (s : SystemView) (sound : IsSound s) (fits_in : end_of s < 2 ^ 32) where
  -- so many steps of Piton are as many instructions as they cost
  whole_run : (k : ℕ) (m : Fm) (p q : PitonState) → IsState s p → Stands s m p → piton_run s k p ≡ Ok q → Simulates s (run_cost s k p) m q
  unfolding piton_run run_cost cost_after then_on
  whole_run zero m p q is h e = by_ok p q (Simulates s 0 m) e record { comes = arrives_at_once h.is }
  whole_run (suc k) m p q is h e =
      by_step (piton_step s p) refl e (λ u p1 is1 h1 e1. whole_run k u p1 q is1 h1 e1)
    where
      by_step : (r : Row) → piton_step s p ≡ r → then_on r (piton_run s k) ≡ Ok q
          → ((u : Fm) (p1 : PitonState) → IsState s p1 → Stands s u p1 → piton_run s k p1 ≡ Ok q → Simulates s (run_cost s k p1) u q)
          → Simulates s (step_cost s p + cost_after s (run_cost s k) r) m q
      by_step (Err x) step g later = refused x q g
      by_step (Ok p1) step g later =
          let a = step_simulated s sound fits_in m p p1 is h step in
          let b = later a.comes.state p1 (step_kept s p p1 (known s sound) is step) record { is = a.comes.laid } g in
          record { comes = arrives_then a.comes b.comes }

-- a run that is made is made up to each count
part_of_run : (k n : ℕ) (m t : Fm) → k ≤ n → fm_run n m ≡ Ok t → IsOk (fm_run k m)
part_of_run k n m t le h = by_part (fm_run k m) (sym (machine.run_add k (n - k) m) ∙ ap (λ j. fm_run j m) (omega arith) ∙ h)
  where
    by_part : (r : Result Fm Outside) → machine_step.then_on r (fm_run (n - k)) ≡ Ok t → IsOk r
    by_part (Ok u) e = refl
    by_part (Err x) e = absurd cc

-- a state that has not halted is at a place of its code
halted_from : (s : SystemView) (p : PitonState) (fs : List Frame) → IsPlace s p.program p.place → address_from (addresses_of s) p fs ≡ final_pc_of s → fs ≡ []
halted_from s p [] is e = refl
halted_from s p (f ∷ fs) is e = absurd (omega (arith, place_below s p.program p.place is))

pub piton_runs : PitonRunsOnProcessor
piton_runs s sound small stack j p initial ran =
    let facts = known s sound in
    let fits_in = end_fits s sound.low_base small in
    let begin = started s stack in
    let seen = opening_seen s stack facts (subst (λ n. n ≤ s.temp) (sym initial.as_long) sound.stack_fits) (words_known s stack initial.words) in
    let run = whole_run s sound fits_in j (loaded s stack) begin p seen.state (opening_stands s stack facts initial.as_long) ran in
    let there = run.comes.laid in
    let kept = run_kept s j begin p facts seen.state ran in
    let cost = run_cost s j begin in
    record {
      state = run.comes.state;
      runs = run.comes.runs;
      inside = λ k le. part_of_run k cost (loaded s stack) run.comes.state le run.comes.runs;
      stands = record { is = there };
      halted = (λ e. there.r15_is ∙ ap (address_from (addresses_of s) p) e, λ e. halted_from s p p.frames kept.place (sym there.r15_is ∙ e));
      before = subst (λ pc. Avoids (loaded s stack) pc cost) (code_ends s) run.comes.avoids;
    }

-- the same of a checked system
pub checked_runs : (c : CheckedOf) → IsChecked c → (placed (system_in c)).size ≤ 2 ^ 20 → RunsOnProcessor (system_in c)
checked_runs c h small = piton_runs (system_in c) h.sound small

pub checked_end : (c : CheckedOf) → IsChecked c → (placed (system_in c)).size ≤ 2 ^ 20 → end_of (system_in c) + 2 < 2 ^ 32
checked_end c h small = let low = h.sound.low_base in omega arith

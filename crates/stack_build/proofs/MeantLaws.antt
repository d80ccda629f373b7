-- What a run of an image ends with is what its source means.
use Rattle.std.{proofs.Common.{◌≡◌, ◌+◌, ◌≤◌, ◌⊎◌, inl, inr, ⊎_elim, ℕ, suc, List, Ok, refl, sym, ap, subst, ◌∙◌, arith}, specs.Prelude.{◌<◌, option_map}}
use Rattle.std.proofs.lemmas.Bool.{cases_lt}
use Rattle.stack_text.specs.Values.{ValueOf}
use Rattle.fm_machine.{specs.State.Fm, specs.Run.{fm_run, pc_of, IsFirst}, specs.Outcome.{IsOutcome, RunOutcome, outcome}, specs.declared.processor.Run.Run}
use Rattle.fm_machine.proofs.RunLaws.{outcome_is, outcome_only}
use Rattle.fm_machine.specs.declared.processor.Run.TheVariants as run
use Rattle.fm_image.specs.Image.{ImageOf}
use Rattle.fm_loader.specs.Loaded.{loaded}
use Rattle.display_maps.specs.Reading.{reading}
use Rattle.gypsy_syntax.{specs.Resolved.program_of, specs.Sources.SourceOf}
use Rattle.gypsy_space.{specs.Costs.Tally, specs.Needs.StackSizes}
use Rattle.gypsy_semantics.{specs.Calls.CurrentCondition, specs.Counted.{CountedOutcome, CountedDone, counted_meaning, uncounted, tally_of}, specs.Machine.At}
use Rattle.gypsy_semantics.{specs.Machine.{Move, Next, Ended, start}, specs.Meaning.{MeaningOutcome, Done, Unfinished, meaning}}
use Rattle.gypsy_semantics.{proofs.CountLaws.meaning-uncounted, proofs.Runs.agree}
use Rattle.gypsy_codegen.{specs.Moments.moment_from, proofs.MomentLaws.{moment_over, counts_grow}}
use Rattle.stack_build.{specs.Implements.{meaning_shown, FitsFormals, Finishes, Implements}, specs.ComesTo.ComesTo, specs.Moments.{ArrivesAt, KeepsMoments}}
use Rattle.stack_build.{specs.Meant.{IsMeant, EndsAsMeant, NeverOutside, EndlessAsMeant, KeptMeansOnly}, proofs.MomentLaws.run_up_to}

-- a run comes to an address first after one count alone, and in one state
pub first_once : (m : Fm) (pc k j : ℕ) (s t : Fm) → IsFirst m pc k s → IsFirst m pc j t → (k ≡ j) × (s ≡ t)
first_once m pc k j s t f g =
    ⊎_elim (λ lt. absurd (g.before k s lt f.reached f.there))
    (λ le. ⊎_elim (λ lt. absurd (f.before j t lt g.reached g.there))
    (λ le'.
    let same : k ≡ j = omega (arith, le, le') in
    let first : fm_run j m ≡ Ok s = ap (λ n. fm_run n m) (sym same) ∙ f.reached in
    let second : fm_run j m ≡ Ok t = g.reached in
    let state : s ≡ t = cc in
    (same, state)) (cases_lt j k)) (cases_lt k j)

-- where the step machine has ended, the meaning is done with the same
finishes : (s : SourceOf) (sizes : StackSizes) (v : List ValueOf) (j : ℕ) (x : List ValueOf) (c : CurrentCondition) (t : Tally)
    → moment_from (program_of s) sizes v j ≡ Ended x c t → Finishes s sizes v x c t.count
finishes s sizes v j x c t e =
    let q = program_of s in
    let counted : counted_meaning q sizes v (suc j) ≡ CountedDone x c t = (agree q sizes v).ended j x c t (moment_over q sizes j (start q v) x c t e) in
    record {
      bound = suc j;
      done = sym (meaning-uncounted q sizes v (suc j)) ∙ ap uncounted counted;
      counted = ap (λ (o : CountedOutcome). option_map (λ (t : Tally). t.count) (tally_of o)) counted;
    }

module _ (image : ImageOf) (s : SourceOf) (sizes : StackSizes) (keeps : KeepsMoments image s sizes) where
  ends : EndsAsMeant image s sizes
  ends v count state fits first = by_moment (moment_from (program_of s) sizes v count) refl (keeps v count fits)
    where
      by_moment : (m : Move) → moment_from (program_of s) sizes v count ≡ m → ArrivesAt s sizes image v m → IsMeant s sizes image v count state
      by_moment (Next (At p x w fs t)) e a =
          absurd (a.goes_on count state (counts_grow (program_of s) sizes v count (At p x w fs t) e) first.reached first.there)
      by_moment (Ended x c t) e a =
          let comes : ComesTo image v t.count (meaning_shown s x c) = a.comes in
          let same = first_once (loaded image v) image.final_pc t.count count comes.state state comes.first first in
          record {
            finals = x;
            way = c;
            finishes = subst (Finishes s sizes v x c) same.0 (finishes s sizes v count x c t e);
            reads = ap (reading image) (sym same.1) ∙ comes.reads;
          }

  -- at a count before the final program counter is reached, or where it never is, the budget is spent
  spent : (v : List ValueOf) (budget : ℕ) (u : Fm) → fm_run budget (loaded image v) ≡ Ok u
      → ((i : ℕ) (t : Fm) → i < budget + 1 → fm_run i (loaded image v) ≡ Ok t → pc_of t ≡ image.final_pc → ⊥)
      → (outcome budget image.final_pc (loaded image v)).run ≡ run.Spent
  spent v budget u runs avoids =
      let is : IsOutcome (loaded image v) image.final_pc budget run.Spent u = (runs, avoids) in
      ap (λ (o : RunOutcome). o.run) (outcome_only (loaded image v) image.final_pc budget run.Spent u is)

  inside : NeverOutside image s
  inside v budget fits = by_moment (moment_from (program_of s) sizes v budget) refl (keeps v budget fits)
    where
      by_moment : (m : Move) → moment_from (program_of s) sizes v budget ≡ m → ArrivesAt s sizes image v m
          → ((count : ℕ) × (count ≤ budget) × ((outcome budget image.final_pc (loaded image v)).run ≡ run.Ended count))
          ⊎ ((outcome budget image.final_pc (loaded image v)).run ≡ run.Spent)
      by_moment (Next (At p x w fs t)) e a =
          let enough : budget ≤ t.count = counts_grow (program_of s) sizes v budget (At p x w fs t) e in
          let r = run_up_to budget t.count (loaded image v) a.state enough a.reached in
          inr (spent v budget r.0 r.1 (λ i u lt. a.goes_on i u (omega (arith, lt, enough))))
      by_moment (Ended x c t) e a =
          let first : IsFirst (loaded image v) image.final_pc t.count a.comes.state = a.comes.first in
          ⊎_elim (λ below.
          let r = run_up_to budget t.count (loaded image v) a.comes.state (omega (arith, below)) first.reached in
          inr (spent v budget r.0 r.1 (λ i u lt. first.before i u (omega (arith, lt, below)))))
          (λ within.
          let is : IsOutcome (loaded image v) image.final_pc budget (run.Ended t.count) a.comes.state = (within, first) in
          inl (t.count, within, ap (λ (o : RunOutcome). o.run) (outcome_only (loaded image v) image.final_pc budget (run.Ended t.count) a.comes.state is)))
          (cases_lt budget t.count)

  endless : EndlessAsMeant image s sizes
  endless v budget fits never =
      ⊎_elim (λ ended.
      let o : RunOutcome = outcome budget image.final_pc (loaded image v) in
      let is : IsOutcome (loaded image v) image.final_pc budget (run.Ended ended.0) o.state =
      subst (λ (r : Run). IsOutcome (loaded image v) image.final_pc budget r o.state) ended.2 (outcome_is (loaded image v) image.final_pc budget) in
      let meant : IsMeant s sizes image v ended.0 o.state = ends v ended.0 o.state fits is.1 in
      absurd (no_end (meaning (program_of s) sizes v meant.finishes.bound) meant.finals meant.way (never meant.finishes.bound) meant.finishes.done))
      (λ spent. spent) (inside v budget fits)
    where
      no_end : (m : MeaningOutcome) (x : List ValueOf) (c : CurrentCondition) → m ≡ Unfinished → m ≡ Done x c → ⊥
      no_end m x c never done = let both : Unfinished ≡ Done x c = sym never ∙ done in absurd cc

-- where the budget is spent, the meaning isn't done within it
pub not_within : (image : ImageOf) (s : SourceOf) (sizes : StackSizes) → Implements image s sizes → (v : List ValueOf) → FitsFormals s v → (budget : ℕ)
    → (outcome budget image.final_pc (loaded image v)).run ≡ run.Spent
    → (finals : List ValueOf) (way : CurrentCondition) (count : ℕ) → Finishes s sizes v finals way count → budget < count
not_within image s sizes does v fits budget spent finals way count fin =
    ⊎_elim (λ beyond. beyond) (λ within.
    let end = does v finals way count fits fin in
    let ended : (outcome budget image.final_pc (loaded image v)).run ≡ run.Ended count =
    ap (λ (o : RunOutcome). o.run) (outcome_only (loaded image v) image.final_pc budget (run.Ended count) end.state (within, end.first)) in
    let both : run.Spent ≡ run.Ended count = sym spent ∙ ended in
    absurd cc) (cases_lt budget count)

pub means_only : KeptMeansOnly
means_only image s sizes keeps = record { ends = ends image s sizes keeps; inside = inside image s sizes keeps; endless = endless image s sizes keeps }

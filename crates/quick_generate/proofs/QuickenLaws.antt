-- What is stored of a source does what the source means.
use Rattle.std.{proofs.Common.{◌≡◌, ◌+◌, ◌≤◌, ◌<◌, ◌⊎◌, inl, inr, ⊎_elim, ℕ, List, Some, Ok, refl, sym, ap, subst, ◌∙◌, arith}, specs.Prelude.option_map}
use Rattle.std.proofs.lemmas.Bool.{cases_lt}
use Rattle.stack_text.specs.Values.{ValueOf}
use Rattle.fm_machine.{specs.State.Fm, specs.Run.{fm_run, Avoids, IsFirst}, specs.Outcome.{IsOutcome, RunOutcome, outcome}, specs.declared.processor.Run.Run}
use Rattle.fm_machine.proofs.RunLaws.{outcome_is, outcome_only}
use Rattle.fm_machine.specs.declared.processor.Run.TheVariants as run
use Rattle.fm_image.specs.Image.{ImageOf}
use Rattle.fm_loader.specs.Loaded.{loaded}
use Rattle.gypsy_syntax.{specs.Resolved.program_of, specs.Sources.SourceOf, specs.Programs.proc_at}
use Rattle.gypsy_check.specs.Accepted.{IsAccepted}
use Rattle.gypsy_space.{specs.Costs.Tally, specs.Needs.StackSizes}
use Rattle.gypsy_semantics.{specs.Calls.CurrentCondition, specs.Counted.{CountedOutcome, CountedDone, CountedUnfinished, counted_meaning, instruction_count}}
use Rattle.gypsy_semantics.{specs.Counted.{uncounted, tally_of}, specs.Meaning.{MeaningOutcome, Done, Unfinished, meaning}, specs.Views.Moments.NeverEnds}
use Rattle.gypsy_semantics.{proofs.CountLaws.meaning-uncounted, proofs.LendingLaws.as_many}
use Rattle.stack_build.{specs.Build.{BuiltOf, Builds}, specs.Implements.FitsFormals, specs.Meant.{KeptMeansOnly, NeverOutside}, proofs.MomentLaws.run_up_to}
use Rattle.quick_build.{specs.QuickImage.{quick_image, most_nested}, specs.QuickImplements.{CanBeQuick, QuickImagesEndAsMeant, QuickImagesGoOn}}
use Rattle.quick_build.specs.QuickImplements.{QuickImagesImplement, QuickProgramsAreNoSlower, bound_for, program_cost}
use Rattle.quick_gypsy.specs.InLineRuns.{CanLine}
use Rattle.quick_generate.specs.DoesQuickly.{DoesQuickly, IsMeantWithin}

-- 1. Counts and outcomes.

-- a meaning that is done has a count
pub counted : (s : SourceOf) (sizes : StackSizes) (v x : List ValueOf) (c : CurrentCondition) (n : ℕ) → meaning (program_of s) sizes v n ≡ Done x c
    → (count : ℕ) × (instruction_count (program_of s) sizes v n ≡ Some count)
counted s sizes v x c n done = by_outcome (counted_meaning (program_of s) sizes v n) refl
  where
    by_outcome : (o : CountedOutcome) → counted_meaning (program_of s) sizes v n ≡ o
        → (count : ℕ) × (instruction_count (program_of s) sizes v n ≡ Some count)
    by_outcome (CountedDone y d t) e = (t.count, ap (λ (o : CountedOutcome). option_map (λ (t : Tally). t.count) (tally_of o)) e)
    by_outcome CountedUnfinished e =
        absurd (let same : Unfinished ≡ Done x c = sym (ap uncounted e) ∙ meaning-uncounted (program_of s) sizes v n ∙ done in cc)

-- a run that goes on beyond the budget
spent : (image : ImageOf) (v : List ValueOf) (budget steps : ℕ) (state : Fm) → budget < steps → fm_run steps (loaded image v) ≡ Ok state
    → Avoids (loaded image v) image.final_pc steps → (outcome budget image.final_pc (loaded image v)).run ≡ run.Spent
spent image v budget steps state beyond runs avoids =
    let r = run_up_to budget steps (loaded image v) state (omega (arith, beyond)) runs in
    let is : IsOutcome (loaded image v) image.final_pc budget run.Spent r.0 = (r.1, λ i u lt. avoids i u (omega (arith, lt, beyond))) in
    ap (λ (o : RunOutcome). o.run) (outcome_only (loaded image v) image.final_pc budget run.Spent r.0 is)

-- a run that comes to the end within the budget
ended : (image : ImageOf) (v : List ValueOf) (budget steps : ℕ) (state : Fm) → steps ≤ budget → IsFirst (loaded image v) image.final_pc steps state
    → (outcome budget image.final_pc (loaded image v)).run ≡ run.Ended steps
ended image v budget steps state within first =
    ap (λ (o : RunOutcome). o.run) (outcome_only (loaded image v) image.final_pc budget (run.Ended steps) state (within, first))

-- 2. A plain image.

module _ (means_only : KeptMeansOnly) (s : SourceOf) (sizes : StackSizes) (made : BuiltOf) (builds : Builds s sizes made) where
  pub plain_does : DoesQuickly made.image s sizes
  plain_does =
      let only = means_only made.image s sizes builds.moments in
      record {
        comes = λ v x c count fits fin. record { steps = count; few = omega arith; comes = builds.implements v x c count fits fin };
        ends = λ v steps state fits first.
            let m = only.ends v steps state fits first in
            record { finals = m.finals; way = m.way; count = steps; finishes = m.finishes; few = omega arith; reads = m.reads };
        inside = only.inside;
        unfinished = builds.unfinished;
      }

-- where the source never ends, the meaning is done at no bound
never_done : (s : SourceOf) (sizes : StackSizes) (made : BuiltOf) → Builds s sizes made → (v x : List ValueOf) (c : CurrentCondition)
    (bound count : ℕ) → FitsFormals s v → NeverEnds (program_of s) sizes v
    → meaning (program_of s) sizes v bound ≡ Done x c → instruction_count (program_of s) sizes v bound ≡ Some count → ⊥
never_done s sizes made builds v x c bound count fits never done counted =
    let comes = builds.implements v x c count fits record { bound = bound; done = done; counted = counted } in
    let end = ended made.image v count count comes.state (omega arith) comes.first in
    let both : run.Spent ≡ run.Ended count = sym (builds.unfinished v count fits never) ∙ end in
    absurd cc

-- 3. A quick image.

module _ (implements : QuickImagesImplement) (no_slower : QuickProgramsAreNoSlower) (end_as_meant : QuickImagesEndAsMeant) (go_on : QuickImagesGoOn)
    (vs : List ℕ) (s : SourceOf) (base end : ℕ) (sizes : StackSizes) (accepted : IsAccepted s) (can : CanBeQuick vs s sizes base end) where
  abbrev image : ImageOf
  image = quick_image vs s sizes base end

  can_line : (v : List ValueOf) → FitsFormals s v → CanLine (program_of s) sizes most_nested v
  can_line v fits =
      record { fits = accepted.fits; nests = can.nests; number = sym (as_many (proc_at (program_of s) (program_of s).main).formals v fits) }

  quick_inside : NeverOutside image s
  quick_inside v budget fits = by_meaning (meaning (program_of s) sizes v (bound_for (budget + 1))) refl
    where
      by_meaning : (o : MeaningOutcome) → meaning (program_of s) sizes v (bound_for (budget + 1)) ≡ o
          → ((count : ℕ) × (count ≤ budget) × ((outcome budget image.final_pc (loaded image v)).run ≡ run.Ended count))
          ⊎ ((outcome budget image.final_pc (loaded image v)).run ≡ run.Spent)
      by_meaning (Done x c) done =
          let steps : ℕ = program_cost vs (program_of s) sizes end v (bound_for (budget + 1)) in
          let comes = implements vs s base end sizes v x c (bound_for (budget + 1)) accepted can fits done in
          let first : IsFirst (loaded image v) image.final_pc steps comes.state = comes.first in
          ⊎_elim (λ beyond. inr (spent image v budget steps comes.state beyond first.reached first.before))
          (λ within. inl (steps, within, ended image v budget steps comes.state within first)) (cases_lt budget steps)
      by_meaning Unfinished unfinished =
          let g = go_on vs s base end sizes v (budget + 1) accepted can fits unfinished in
          let beyond : budget < g.steps = let least = g.least in omega (arith, least) in
          inr (spent image v budget g.steps g.state beyond g.runs g.avoids)

  quick_ends : (v : List ValueOf) (steps : ℕ) (state : Fm) → FitsFormals s v → IsFirst (loaded image v) image.final_pc steps state
      → IsMeantWithin s sizes image v steps state
  quick_ends v steps state fits first =
      let m = end_as_meant vs s base end sizes v steps state accepted can fits first in
      let n = counted s sizes v m.finals m.way (bound_for (steps + 1)) m.done in
      let slower : program_cost vs (program_of s) sizes end v (bound_for (steps + 1)) ≤ n.0 =
      no_slower vs (program_of s) end sizes v (bound_for (steps + 1)) n.0 (can_line v fits) n.1 in
      let cost : program_cost vs (program_of s) sizes end v (bound_for (steps + 1)) ≡ steps = m.counted in
      record {
        finals = m.finals;
        way = m.way;
        count = n.0;
        finishes = record { bound = bound_for (steps + 1); done = m.done; counted = n.1 };
        few = omega (arith, slower, cost);
        reads = m.reads;
      }

  pub quick_does : (made : BuiltOf) → Builds s sizes made → DoesQuickly image s sizes
  quick_does made builds = record {
    comes = λ v x c count fits fin. record {
      steps = program_cost vs (program_of s) sizes end v fin.bound;
      few = no_slower vs (program_of s) end sizes v fin.bound count (can_line v fits) fin.counted;
      comes = implements vs s base end sizes v x c fin.bound accepted can fits fin.done;
    };
    ends = quick_ends;
    inside = quick_inside;
    unfinished = λ v budget fits never.
        let o : RunOutcome = outcome budget image.final_pc (loaded image v) in
        ⊎_elim (λ over.
        let is : IsOutcome (loaded image v) image.final_pc budget (run.Ended over.0) o.state =
        subst (λ (r : Run). IsOutcome (loaded image v) image.final_pc budget r o.state) over.2 (outcome_is (loaded image v) image.final_pc budget) in
        let m = quick_ends v over.0 o.state fits is.1 in
        absurd (never_done s sizes made builds v m.finals m.way m.finishes.bound m.count fits never m.finishes.done m.finishes.counted))
        (λ spent. spent) (quick_inside v budget fits);
  }

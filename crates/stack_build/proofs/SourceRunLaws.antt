-- What a run of a source on values tells is what the source means.
use Rattle.std.proofs.Common.{◌≡◌, ⊎_elim, ℕ, List, Result, Ok, Err, IfOk, refl, sym, ap, subst, ◌∙◌, arith}
use Rattle.stack_text.specs.Gives as common
use Rattle.stack_text.{specs.Results.◌>>=◌, specs.Values.ValueOf}
use Rattle.fm_machine.{specs.Outcome.{IsOutcome, RunOutcome, outcome}, specs.declared.processor.Run.Run, proofs.RunLaws.outcome_is}
use Rattle.fm_machine.specs.declared.processor.Run.TheVariants as run
use Rattle.fm_image.specs.Image.{ImageOf}
use Rattle.fm_loader.{specs.declared.fault.ValuesFault.ValuesFault, specs.declared.fault.ValuesFault.TheVariants.{Refused, Memory}, specs.Loaded.loaded}
use Rattle.fm_loader.{specs.Rules.fault_of as values_rule, specs.Values.values_in}
use Rattle.display_maps.{specs.declared.ending.Ending.Ending, specs.Endings.{ending_of, run_with, run_on}}
use Rattle.gypsy_space.specs.Needs.{StackSizes, stack_sizes}
use Rattle.stack_build.{specs.declared.fault.BuildFault.BuildFault, specs.declared.start_fault.StartFault.StartFault}
use Rattle.stack_build.{specs.declared.start_fault.StartFault.TheVariants.Values, specs.Build.{BuiltOf, BuildsText, built}, specs.Implements.Implements}
use Rattle.stack_build.{specs.Joined.{BuiltImplements, BuiltTakesValues}, specs.Meant.{KeptMeansOnly, IsMeant}, specs.Moments.KeepsMoments}
use Rattle.stack_build.{specs.SourceRuns.{source_run, SourceOnValues, TellsMeaning, SourceRunsTellMeaning}, specs.Starts.{start_fault_of, values_fault}}
use Rattle.stack_build.{specs.Starts.{or_build, or_values}, proofs.MeantLaws.not_within, proofs.SlotLaws.image_takes}

-- a run of an image that keeps to the source, on the values
module _ (meant : KeptMeansOnly) (text values_text : List ℕ) (sizes : StackSizes) (budget : ℕ) (image : ImageOf) (on : SourceOnValues text values_text)
    (does : Implements image on.source sizes) (keeps : KeepsMoments image on.source sizes) where
  tells : (r : Run) → (outcome budget image.final_pc (loaded image on.values)).run ≡ r
      → TellsMeaning text sizes values_text budget (ending_of image r (outcome budget image.final_pc (loaded image on.values)).state)
  unfolding ending_of
  tells (run.Ended count) ended =
      let o : RunOutcome = outcome budget image.final_pc (loaded image on.values) in
      let is : IsOutcome (loaded image on.values) image.final_pc budget (run.Ended count) o.state =
      subst (λ (r : Run). IsOutcome (loaded image on.values) image.final_pc budget r o.state) ended
      (outcome_is (loaded image on.values) image.final_pc budget) in
      let m : IsMeant on.source sizes image on.values count o.state = (meant image on.source sizes keeps).ends on.values count o.state on.fits is.1 in
      record { on = on; finals = m.finals; way = m.way; finishes = m.finishes; within = is.0; reads = m.reads }
  tells run.Spent spent = record { on = on; beyond = not_within image on.source sizes does on.values on.fits budget spent }
  tells (run.Outside address count) outside =
      ⊎_elim (λ ended. let both : run.Outside address count ≡ run.Ended ended.0 = sym outside ∙ ended.2 in absurd cc)
      (λ spent. let both : run.Outside address count ≡ run.Spent = sym outside ∙ spent in absurd cc)
      ((meant image on.source sizes keeps).inside on.values budget on.fits)

pub source_runs_tell : BuiltImplements → BuiltTakesValues → KeptMeansOnly → SourceRunsTellMeaning
unfolding source_run
source_runs_tell implement take meant text ctrl temp values_text budget short =
    by_built (built text ctrl temp 0) refl (implement text ctrl temp 0 short (omega arith))
  where
    by_values : (b : BuiltOf) → built text ctrl temp 0 ≡ Ok b → BuildsText text ctrl temp b
        → (found : Result (List ValueOf) (ℕ × ℕ)) → values_in b.image.slots values_text ≡ found
        → IfOk (or_values found >>= λ values. Ok (run_with b.image values budget)) (TellsMeaning text (stack_sizes ctrl temp) values_text budget)
    by_values b made builds (Ok values) gives =
        let sizes : StackSizes = stack_sizes ctrl temp in
        let on : SourceOnValues text values_text =
        record {
          source = builds.source;
          read = builds.read;
          values = values;
          given = sym (image_takes builds.source sizes builds.builds.base values_text)
              ∙ ap (λ (i : ImageOf). values_in i.slots values_text) (sym builds.builds.is) ∙ gives;
          fits = take text ctrl temp 0 builds.source b values_text values short (omega arith) builds.read made gives;
        } in
        tells meant text values_text sizes budget b.image on builds.builds.implements builds.builds.moments
        (outcome budget b.image.final_pc (loaded b.image values)).run refl
    by_values b made builds (Err fault) gives = tt

    by_built : (found : Result BuiltOf BuildFault) → built text ctrl temp 0 ≡ found → IfOk found (BuildsText text ctrl temp)
        → IfOk (or_build found >>= λ built. or_values (values_in built.image.slots values_text) >>= λ values. Ok (run_with built.image values budget))
        (TellsMeaning text (stack_sizes ctrl temp) values_text budget)
    by_built (Ok b) made builds = by_values b made builds (values_in b.image.slots values_text) refl
    by_built (Err fault) made builds = tt

-- an ending, or the rule that values break as a fault of the start
abbrev start_or_fault : Result Ending (ℕ × ℕ) → Result Ending StartFault
start_or_fault (Ok ending) = Ok ending
start_or_fault (Err fault) = Err (Values fault.0 fault.1)

as_start : (image : ImageOf) (budget : ℕ) (found : Result (List ValueOf) (ℕ × ℕ))
    → (or_values found >>= λ values. Ok (run_with image values budget)) ≡ start_or_fault (found >>= λ values. Ok (run_with image values budget))
as_start image budget (Ok values) = refl
as_start image budget (Err fault) = refl

-- what a run of what was built tells
abbrev run_of : Result BuiltOf BuildFault → List ℕ → ℕ → Result Ending StartFault
run_of found values_text budget =
    or_build found >>= λ built. or_values (values_in built.image.slots values_text) >>= λ values. Ok (run_with built.image values budget)

run_is : (text values_text : List ℕ) (ctrl temp budget : ℕ) (b : BuiltOf) → built text ctrl temp 0 ≡ Ok b
    → source_run text (stack_sizes ctrl temp) values_text budget ≡ start_or_fault (run_on b.image values_text budget)
unfolding source_run run_on
run_is text values_text ctrl temp budget b made =
    ap (λ (r : Result BuiltOf BuildFault). run_of r values_text budget) made ∙ as_start b.image budget (values_in b.image.slots values_text)

-- what is built, and how it ends on the values
pub run_told : (text values_text : List ℕ) (ctrl temp budget : ℕ) (b : BuiltOf) (ending : Ending) → built text ctrl temp 0 ≡ Ok b
    → run_on b.image values_text budget ≡ Ok ending → source_run text (stack_sizes ctrl temp) values_text budget ≡ Ok ending
run_told text values_text ctrl temp budget b ending made ends = run_is text values_text ctrl temp budget b made ∙ ap start_or_fault ends

-- values that break a rule are refused with it
pub run_refused : (text values_text : List ℕ) (ctrl temp budget : ℕ) (b : BuiltOf) (error : ValuesFault) → built text ctrl temp 0 ≡ Ok b
    → common.Fails (values_rule error) (run_on b.image values_text budget)
    → common.Fails (start_fault_of (values_fault error)) (source_run text (stack_sizes ctrl temp) values_text budget)
run_refused text values_text ctrl temp budget b (Refused rule place) made fails =
    run_is text values_text ctrl temp budget b made ∙ ap start_or_fault fails
run_refused text values_text ctrl temp budget b Memory made fails = tt

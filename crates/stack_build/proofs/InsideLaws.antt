-- A run of an image that keeps to its source at every moment stays inside the window.
use Rattle.std.{proofs.Common.{◌≡◌, ◌+◌, List, Bool, true, false, cond, Result, Ok, Err, refl, sym, ap, subst, ◌∙◌, ⊎_elim}, specs.Prelude.{◌^◌, IsOk, nat_lt}}
use Rattle.std.proofs.lemmas.Bool.{cases_lt}
use Rattle.stack_text.{specs.Results.◌>>=◌, specs.Values.ValueOf}
use Rattle.fm_machine.{specs.State.Fm, specs.Run.fm_run, specs.declared.fault.Outside.Outside, proofs.RunLaws.run_more}
use Rattle.fm_image.specs.Image.{ImageOf}
use Rattle.fm_loader.specs.Loaded.{loaded}
use Rattle.piton_syntax.specs.Systems.{SystemOf}
use Rattle.gypsy_syntax.{specs.Resolved.program_of, specs.Sources.SourceOf}
use Rattle.gypsy_space.specs.Needs.{StackSizes, stack_sizes}
use Rattle.gypsy_semantics.specs.Machine.{At, Move, Next, Ended}
use Rattle.gypsy_codegen.{specs.Generation.generation, specs.declared.fault.GenFault.GenFault, specs.Moments.moment_from, proofs.MomentLaws.counts_grow}
use Rattle.stack_build.{specs.declared.fault.BuildFault.BuildFault, specs.declared.fault.BuildFault.TheVariants.Words as TooManyWords, specs.Build.BuiltOf}
use Rattle.stack_build.{specs.Build.{accepted_source, generated_by, built_with, placed_size, linked_of, source_built, built, BuildsText}, specs.Image.image_of}
use Rattle.stack_build.{specs.Implements.FitsFormals, specs.Inside.{RunsInside, BuiltAtBase, BuiltRunsInside}, specs.Joined.BuiltImplements}
use Rattle.stack_build.specs.Moments.{ArrivesAt, KeepsMoments}

-- a run that is refused at a count was not made up to it
not_refused : (r : Result Fm Outside) (e : Outside) → r ≡ Err e → IsOk r → ⊥
not_refused (Ok t) e is ok = absurd cc
not_refused (Err x) e is ok = absurd cc

-- Each step costs an instruction at least, so after enough of them the machine has come past the count, or to the end.
pub keeps_inside : (s : SourceOf) (sizes : StackSizes) (image : ImageOf) → KeepsMoments image s sizes → (values : List ValueOf) → FitsFormals s values
    → RunsInside image values
keeps_inside s sizes image keeps values fits k m e runs avoids out =
    by_moment (moment_from (program_of s) sizes values (k + 1)) refl (keeps values (k + 1) fits)
  where
    refused : fm_run (k + 1) (loaded image values) ≡ Err e
    refused = run_more k (loaded image values) m (Err e) runs out

    by_moment : (move : Move) → moment_from (program_of s) sizes values (k + 1) ≡ move → ArrivesAt s sizes image values move → ⊥
    by_moment (Next (At p x w fs t)) is arrives =
        not_refused (fm_run (k + 1) (loaded image values)) e refused
        (arrives.inside (k + 1) (counts_grow (program_of s) sizes values (k + 1) (At p x w fs t) is))
    by_moment (Ended x c t) is arrives =
        ⊎_elim (λ below. avoids t.count arrives.comes.state below arrives.comes.first.reached arrives.comes.first.there)
        (λ past. not_refused (fm_run (k + 1) (loaded image values)) e refused (arrives.inside (k + 1) past)) (cases_lt t.count (k + 1))

-- what is built of a text has its window at the base
pub built_at_base : BuiltAtBase
unfolding built source_built linked_of image_of
built_at_base text ctrl temp base b = by_source (accepted_source text)
  where
    by_size : (s : SourceOf) (system : SystemOf) (large : Bool)
        → cond large (Err (TooManyWords (placed_size s (stack_sizes ctrl temp) base))) (Ok (built_with s (stack_sizes ctrl temp) base system)) ≡ Ok b
        → b.image.base ≡ base
    by_size s system true h = absurd cc
    by_size s system false h =
        let same : built_with s (stack_sizes ctrl temp) base system ≡ b = cc in
        sym (ap (λ (made : BuiltOf). made.image.base) same)

    by_system : (s : SourceOf) (r : Result SystemOf GenFault) → (generated_by r >>= linked_of s (stack_sizes ctrl temp) base) ≡ Ok b → b.image.base ≡ base
    by_system s (Ok system) h = by_size s system (nat_lt (2 ^ 20) (placed_size s (stack_sizes ctrl temp) base)) h
    by_system s (Err fault) h = absurd cc

    by_source : (r : Result SourceOf BuildFault) → (r >>= λ source. source_built source (stack_sizes ctrl temp) base) ≡ Ok b → b.image.base ≡ base
    by_source (Ok s) h = by_system s (generation s (stack_sizes ctrl temp) base) h
    by_source (Err fault) h = absurd cc

-- runs of it stay inside
pub built_runs_inside : BuiltImplements → BuiltRunsInside
built_runs_inside implements text ctrl temp base source b values short low read made fits =
    let builds : BuildsText text ctrl temp b = rw made at (implements text ctrl temp base short low) in
    let both : Ok builds.source ≡ Ok source = sym builds.read ∙ read in
    let same : builds.source ≡ source = same_source builds.source source both in
    keeps_inside source (stack_sizes ctrl temp) b.image
    (subst (λ (s : SourceOf). KeepsMoments b.image s (stack_sizes ctrl temp)) same builds.builds.moments) values fits
  where
    same_source : (x y : SourceOf) → let r : Result SourceOf BuildFault = Ok x in r ≡ Ok y → x ≡ y
    same_source x y h = cc

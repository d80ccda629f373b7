-- What is built of an accepted source does what the source means.
use Rattle.std.proofs.Common.{◌≡◌, ◌≤◌, ℕ, List, Bool, true, false, cond, Option, Some, None, Result, Ok, Err, IfOk, refl, sym, ap, subst, ◌∙◌}
use Rattle.std.{specs.Prelude.{◌^◌, IsTrue, nat_lt}, proofs.lemmas.Bool.ltb-false}
use Rattle.fm_image.{specs.Image.ImageOf, specs.Limits.is_image, specs.Spelling.spelling}
use Rattle.fm_loader.specs.Values.{values_in}
use Rattle.piton_syntax.specs.Systems.{SystemOf}
use Rattle.piton_check.{specs.PitonChecking.{CheckedOf, IsChecked}, specs.Instruction.SystemView, specs.Resolved.resolved, specs.Sound.IsSound}
use Rattle.piton_semantics.{specs.Fits.system_in, specs.Placed.placed, proofs.ReadyLaws.end_fits}
use Rattle.piton_linker.specs.Theorem.{RunsOnProcessor, PitonRunsOnProcessor}
use Rattle.gypsy_syntax.{specs.Sources.SourceOf, specs.Resolved.program_of}
use Rattle.gypsy_check.specs.Accepted.{IsAccepted}
use Rattle.gypsy_space.specs.Needs.{StackSizes, stack_sizes}
use Rattle.gypsy_codegen.{specs.Generated.generated_view, specs.Whole.MeaningRuns, specs.Moments.EachMomentIsReached, specs.Acceptable.LimitsFit}
use Rattle.gypsy_codegen.{specs.Acceptable.GeneratedIsAcceptable, specs.Text.generated, proofs.AnswerLaws.limits_fit, specs.declared.fault.GenFault.GenFault}
use Rattle.gypsy_codegen.specs.Generation as generating
use Rattle.stack_build.{specs.Formals.{shown_formals, shown_conditions}, specs.Image.{source_tables, image_on, image_of}}
use Rattle.stack_build.{specs.declared.fault.BuildFault.BuildFault, specs.Build.{BuiltOf, accepted_source, generated_by, built_with, placed_size, linked_of}}
use Rattle.stack_build.{specs.Build.{source_built, built, Builds, BuildsText}, specs.Joined.{BuiltImplements, BuiltTakesValues}, proofs.TakesLaws.takes_values}
use Rattle.stack_build.{proofs.KnownLaws.source_is_accepted, proofs.ImageLimits.generated_shows, proofs.ImageBytes.file_spells, proofs.TableLaws.tables_fit}
use Rattle.stack_build.{proofs.ShortLaws.text_builds_if, proofs.Implementing.{RunsAsMeant, image_implements}, proofs.MomentLaws.{MomentsAsMeant, keeps_moments}}
use Rattle.stack_build.proofs.MomentLaws.{stays_unfinished}
use Rattle.stack_build.specs.declared.fault.BuildFault.TheVariants as fault
use Rattle.stack_text.specs.Results.{◌>>=◌, unless_fault}

module _ (s : SourceOf) (sizes : StackSizes) (base : ℕ) (accepted : IsAccepted s) (sound : IsSound (generated_view (program_of s) sizes base))
    (theorem : RunsOnProcessor (generated_view (program_of s) sizes base)) (runs : RunsAsMeant (program_of s) sizes (generated_view (program_of s) sizes base))
    (moments : MomentsAsMeant (program_of s) sizes (generated_view (program_of s) sizes base))
    (small : (placed (generated_view (program_of s) sizes base)).size ≤ 2 ^ 20) where
  -- whatever system is named beside it
  pub image_builds : (piton : CheckedOf) → Builds s sizes record { piton = piton; image = image_of s sizes base; bytes = spelling (image_of s sizes base) }
  unfolding image_of
  image_builds piton =
      let shows = generated_shows s sizes base (generated_view (program_of s) sizes base) accepted refl in
      let implements = image_implements s sizes base accepted sound theorem runs in
      let keeps = keeps_moments s sizes base accepted sound theorem (end_fits (generated_view (program_of s) sizes base) sound.low_base small) moments
      implements in
      record {
        base = base;
        is = refl;
        spells = file_spells (generated_view (program_of s) sizes base) (shown_formals s) (shown_conditions s)
            (source_tables s (generated_view (program_of s) sizes base)) sound small shows
            (tables_fit s sizes base accepted sound small);
        implements = implements;
        moments = keeps;
        unfinished = stays_unfinished s sizes (image_of s sizes base) keeps;
      }

-- what was made by generating and linking
pub made_builds : (s : SourceOf) (sizes : StackSizes) (base : ℕ) (piton : CheckedOf) (image : ImageOf) (bytes : List ℕ) → IsAccepted s → IsChecked piton
    → generating.SystemImplements s sizes base piton →
    RunsOnProcessor (system_in piton) → (placed (system_in piton)).size ≤ 2 ^ 20 → image ≡ image_on s (system_in piton) → bytes ≡ spelling image →
    Builds s sizes record { piton = piton; image = image; bytes = bytes }
unfolding image_of
made_builds s sizes base piton image bytes accepted is meant theorem small image_is bytes_are =
    let view = meant.view in
    let same : image_of s sizes base ≡ image = ap (image_on s) (sym view) ∙ sym image_is in
    let file : spelling (image_of s sizes base) ≡ bytes = ap spelling same ∙ sym bytes_are in
    subst (λ (b : BuiltOf). Builds s sizes b) (λ i. record { piton = piton; image = same i; bytes = file i })
    (image_builds s sizes base accepted (subst IsSound view is.sound) (subst RunsOnProcessor view theorem)
    (subst (RunsAsMeant (program_of s) sizes) view meant.runs) (subst (MomentsAsMeant (program_of s) sizes) view meant.moments)
    (subst (λ (v : SystemView). (placed v).size ≤ 2 ^ 20) view small) piton)

-- ---- what is built of a source, and of a text

module _ (meaning_runs : MeaningRuns) (each_moment : EachMomentIsReached) (acceptable : GeneratedIsAcceptable) (piton_runs : PitonRunsOnProcessor) where
  source_builds : (s : SourceOf) (sizes : StackSizes) (base : ℕ) → IsAccepted s → base ≤ 2 ^ 31 → IfOk (source_built s sizes base) (Builds s sizes)
  unfolding source_built linked_of
  source_builds s sizes base accepted low = by_fault (generating.size_fault (program_of s) sizes) refl
    where
      system : SystemOf
      system = generated s sizes base

      by_size : LimitsFit (program_of s) sizes base → (large : Bool) → nat_lt (2 ^ 20) (placed_size s sizes base) ≡ large →
          IfOk (cond large (Err (fault.Words (placed_size s sizes base))) (Ok (built_with s sizes base (generated s sizes base)))) (Builds s sizes)
      by_size limits true e = tt
      by_size limits false e =
          let good = acceptable s sizes base accepted limits in
          let small : placed_size s sizes base ≤ 2 ^ 20 = ltb-false (2 ^ 20) (placed_size s sizes base) e in
          image_builds s sizes base accepted good.sound (piton_runs (generated_view (program_of s) sizes base) good.sound small)
          (λ v n x c fits done. meaning_runs (program_of s) sizes base v n x c accepted.fits limits.sizes_fit fits done)
          (λ v j fits. each_moment (program_of s) sizes base v j accepted.fits limits.sizes_fit fits) small
          (record { system = generated s sizes base; resolved = resolved (generated s sizes base) })

      by_fault : (f : Option GenFault) → generating.size_fault (program_of s) sizes ≡ f →
          IfOk (generated_by (unless_fault f (generated s sizes base)) >>= linked_of s sizes base) (Builds s sizes)
      by_fault None e = by_size (limits_fit (program_of s) sizes base low e) (nat_lt (2 ^ 20) (placed_size s sizes base)) refl
      by_fault (Some f) e = tt

  pub built_implements : BuiltImplements
  unfolding built
  built_implements text ctrl temp base short low = by_source (accepted_source text) refl
    where
      by_source : (r : Result SourceOf BuildFault) → accepted_source text ≡ r → IfOk (r >>= λ source. source_built source (stack_sizes ctrl temp) base)
          (BuildsText text ctrl temp)
      by_source (Ok s) read = text_builds_if text ctrl temp s (source_built s (stack_sizes ctrl temp) base) read
          (source_builds s (stack_sizes ctrl temp) base (source_is_accepted text short s read) low)
      by_source (Err f) read = tt

  -- what was built has the image of the source
  built_image : (s : SourceOf) (sizes : StackSizes) (base : ℕ) (b : BuiltOf) → source_built s sizes base ≡ Ok b → image_of s sizes base ≡ b.image
  unfolding source_built linked_of
  built_image s sizes base b = by_fault (generating.size_fault (program_of s) sizes)
    where
      by_size : (large : Bool) → cond large (Err (fault.Words (placed_size s sizes base))) (Ok (built_with s sizes base (generated s sizes base)))
          ≡ Ok b → image_of s sizes base ≡ b.image
      by_size true h = cc
      by_size false h = let same : built_with s sizes base (generated s sizes base) ≡ b = cc in ap (λ (made : BuiltOf). made.image) same

      by_fault : (f : Option GenFault) → (generated_by (unless_fault f (generated s sizes base)) >>= linked_of s sizes base) ≡ Ok b
          → image_of s sizes base ≡ b.image
      by_fault None h = by_size (nat_lt (2 ^ 20) (placed_size s sizes base)) h
      by_fault (Some f) h = cc

  pub built_takes_values : BuiltTakesValues
  unfolding built
  built_takes_values text ctrl temp base s b values_text values short low read made h =
      let sizes = stack_sizes ctrl temp in
      let accepted = source_is_accepted text short s read in
      let from : source_built s sizes base ≡ Ok b = sym (ap (λ (r : Result SourceOf BuildFault). r >>= λ source. source_built source sizes base) read) ∙ made in
      let same = built_image s sizes base b from in
      let builds : Builds s sizes b = subst (λ (r : Result BuiltOf BuildFault). IfOk r (Builds s sizes)) from (source_builds s sizes base accepted low) in
      takes_values s sizes base values_text values accepted (subst (λ (image : ImageOf). IsTrue (is_image image)) (sym same) builds.spells.limits)
      (subst (λ (image : ImageOf). values_in image.slots values_text ≡ Ok values) (sym same) h)

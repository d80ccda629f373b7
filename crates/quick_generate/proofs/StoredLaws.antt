-- What is stored of a source: which image it is, what it does, and that a file spells it.
use Rattle.quick_generate.{specs.QuickOf.{quick_of, whole_image, window_end}, specs.Choice.chosen_of, specs.Quickened.{counted_by, image_or, quick_count}}
use Rattle.quick_generate.{specs.Quickened.quickened, specs.DoesQuickly.{DoesQuickly, Quickens, SourcesAreQuickened, TextsAreQuickened}}
use Rattle.quick_generate.{proofs.ChoiceLaws.chosen_few, proofs.GivenLaws.{IsTaken, taken}, proofs.QuickLaws.can_be, proofs.StandsLaws.quick_stands}
use Rattle.quick_generate.{proofs.QuickenLaws.{counted, plain_does, quick_does}, proofs.SpelledLaws.quick_spells}
use Rattle.stack_build.{specs.declared.fault.BuildFault.BuildFault, specs.Build.{BuiltOf, Builds, BuildsText}, specs.ComesTo.ComesTo}
use Rattle.stack_build.{specs.Implements.meaning_shown, specs.Inside.BuiltAtBase, specs.Joined.BuiltImplements, specs.Meant.KeptMeansOnly}
use Rattle.stack_build.{proofs.ImageBytes.file_few, proofs.KnownLaws.source_is_accepted}
use Rattle.std.{proofs.Common.{◌≡◌, ◌≤◌, ℕ, List, Option, Some, None, Result, length, refl, sym, ap, subst, ◌∙◌, arith}, specs.Prelude.{◌^◌, IfOk}}
use Rattle.stack_text.specs.SharedLimits.{most_text, most_image_file}
use Rattle.fm_image.{specs.Image.ImageOf, specs.Spelling.{Spelled, spelling, tables_bytes}, specs.Limits.tables_of}
use Rattle.gypsy_syntax.{specs.Programs.Proc, specs.Resolved.program_of, specs.Sources.SourceOf}
use Rattle.gypsy_check.specs.Accepted.{IsAccepted}
use Rattle.gypsy_space.specs.Needs.{StackSizes, stack_sizes}
use Rattle.quick_build.{specs.QuickImage.{quick_image, quick_main}, specs.QuickImplements.{QuickImagesEndAsMeant, QuickImagesGoOn, QuickImagesImplement}}
use Rattle.quick_build.specs.QuickImplements.{QuickProgramsAreNoSlower, program_cost}

module _ (means_only : KeptMeansOnly) (implements : QuickImagesImplement) (no_slower : QuickProgramsAreNoSlower) (end_as_meant : QuickImagesEndAsMeant)
    (go_on : QuickImagesGoOn) where
  -- where there is a quick image
  with_quick : (s : SourceOf) (sizes : StackSizes) (made : BuiltOf) (image : ImageOf) → IsAccepted s → made.image.base ≤ 2 ^ 31 → Builds s sizes made
      → quick_of s sizes made.image.base ≡ Some image → Quickens s sizes made.image
  unfolding quickened quick_count
  with_quick s sizes made image accepted low builds e =
      let p : Proc = quick_main s sizes in
      let vs : List ℕ = chosen_of p in
      let base : ℕ = made.image.base in
      let end : ℕ = window_end vs p base in
      let t : IsTaken s sizes base image = taken s sizes base image e in
      let can = can_be vs s sizes base (chosen_few p) low t.lined t.small in
      let stored : quickened s sizes made.image ≡ quick_image vs s sizes base end = ap (image_or made.image) e ∙ t.is in
      record {
        does = subst (λ (i : ImageOf). DoesQuickly i s sizes) (sym stored)
            (quick_does implements no_slower end_as_meant go_on vs s base end sizes accepted can made builds);
        exact = λ v x c bound fits done. record {
          count = program_cost vs (program_of s) sizes end v bound;
          counted = ap (counted_by s sizes base v bound) e;
          comes = subst (λ (i : ImageOf). ComesTo i v (program_cost vs (program_of s) sizes end v bound) (meaning_shown s x c)) (sym stored)
              (implements vs s base end sizes v x c bound accepted can fits done);
        };
        spells = subst (λ (i : ImageOf). Spelled (spelling i) i) (sym stored)
            (quick_spells vs s p base accepted (quick_stands s sizes accepted t.lined) low (chosen_few p) t.small);
      }

  -- where there is none
  with_plain : (s : SourceOf) (sizes : StackSizes) (made : BuiltOf) → Builds s sizes made → quick_of s sizes made.image.base ≡ None
      → Quickens s sizes made.image
  unfolding quickened quick_count
  with_plain s sizes made builds e =
      let base : ℕ = made.image.base in
      let stored : quickened s sizes made.image ≡ made.image = ap (image_or made.image) e in
      record {
        does = subst (λ (i : ImageOf). DoesQuickly i s sizes) (sym stored) (plain_does means_only s sizes made builds);
        exact = λ v x c bound fits done.
            let n = counted s sizes v x c bound done in
            record {
              count = n.0;
              counted = ap (counted_by s sizes base v bound) e ∙ n.1;
              comes = subst (λ (i : ImageOf). ComesTo i v n.0 (meaning_shown s x c)) (sym stored)
                  (builds.implements v x c n.0 fits record { bound = bound; done = done; counted = n.1 });
            };
        spells = subst (λ (i : ImageOf). Spelled (spelling i) i) (sym stored)
            record { limits = builds.spells.limits; registers = builds.spells.registers; words = builds.spells.words; fields = refl };
      }

  pub sources_are_quickened : SourcesAreQuickened
  sources_are_quickened s sizes made accepted low builds = by_found (quick_of s sizes made.image.base) refl
    where
      by_found : (found : Option ImageOf) → quick_of s sizes made.image.base ≡ found → Quickens s sizes made.image
      by_found (Some image) e = with_quick s sizes made image accepted low builds e
      by_found None e = with_plain s sizes made builds e

  -- a quick image has no tables, and the plain one's file is short
  short : (text : List ℕ) (s : SourceOf) (sizes : StackSizes) (made : BuiltOf) → IsAccepted s → made.image.base ≤ 2 ^ 31 → Builds s sizes made
      → (length text ≤ most_text → length made.bytes ≤ most_image_file) → length text ≤ most_text
      → length (spelling (quickened s sizes made.image)) ≤ most_image_file
  unfolding quickened
  short text s sizes made accepted low builds few light = by_found (quick_of s sizes made.image.base) refl
    where
      by_found : (found : Option ImageOf) → quick_of s sizes made.image.base ≡ found
          → length (spelling (image_or made.image found)) ≤ most_image_file
      by_found (Some image) e =
          let p : Proc = quick_main s sizes in
          let vs : List ℕ = chosen_of p in
          let t : IsTaken s sizes made.image.base image = taken s sizes made.image.base image e in
          let quick : ImageOf = whole_image vs s p made.image.base (window_end vs p made.image.base) in
          let spells = quick_spells vs s p made.image.base accepted (quick_stands s sizes accepted t.lined) low (chosen_few p) t.small in
          let front = file_few quick spells.limits in
          let none : length (tables_bytes quick.version (tables_of quick)) ≤ 8 = omega arith in
          subst (λ (i : ImageOf). length (spelling i) ≤ most_image_file) (sym t.is) (omega (arith, front, none))
      by_found None e =
          let bytes : length made.bytes ≡ length (spelling made.image) = ap length builds.spells.fields in
          let plain = few light in
          omega (arith, bytes, plain)

  pub texts_are_quickened : BuiltImplements → BuiltAtBase → TextsAreQuickened
  texts_are_quickened builds at_base text ctrl temp base made few low is =
      let b : BuildsText text ctrl temp made =
      subst (λ (r : Result BuiltOf BuildFault). IfOk r (BuildsText text ctrl temp)) is (builds text ctrl temp base few low) in
      let accepted = source_is_accepted text few b.source b.read in
      let at : made.image.base ≡ base = at_base text ctrl temp base made is in
      let there : made.image.base ≤ 2 ^ 31 = omega (arith, at, low) in
      record {
        source = b.source;
        read = b.read;
        short = short text b.source (stack_sizes ctrl temp) made accepted there b.builds b.short;
        quickens = sources_are_quickened b.source (stack_sizes ctrl temp) made accepted there b.builds;
      }

-- `quick`, and then `run`, prints what `go` prints, after no more instructions.
use Rattle.std.proofs.Common.{◌≡◌, ◌≢◌, ◌≤◌, ⊎_elim, ℕ, List, [], ◌∷◌, ◌++◌, Bool, true, false, if◌then◌else◌, Option, Some, None, Result, Ok, Err, length}
use Rattle.std.{proofs.Common.{refl, sym, ap, ◌∙◌, subst, arith}, specs.Prelude.{◌-◌, codes, nat_le}, specs.Fmt.decimal}
use Rattle.stack_text.{specs.Results.◌>>=◌, specs.Lines.line, specs.Values.ValueOf}
use Rattle.stack_shelf.{specs.Files.{Files, put_file}, specs.Shelf.{fetched, within}}
use Rattle.level_debuggers.specs.Tallies.{Watching}
use Rattle.fm_words.specs.WindowLimit.{most_window}
use Rattle.fm_image.{specs.declared.slot.Slot.Slot, specs.Image.ImageOf, specs.Spelling.spelling, proofs.ImageLaws.spelled_reads}
use Rattle.fm_loader.specs.Values.{values_in}
use Rattle.display_maps.{specs.Reading.ReadingOf, specs.Report.{VariableOf, lines_of_reading, reading_lines, shaped}}
use Rattle.gypsy_syntax.specs.{Programs.{Proc}, Sources.{SourceOf}}
use Rattle.gypsy_space.specs.Needs.{StackSizes, stack_sizes}
use Rattle.gypsy_semantics.specs.Calls.{CurrentCondition}
use Rattle.stack_build.{specs.declared.fault.BuildFault.BuildFault, specs.Build.{Builds, BuildsText, BuiltOf, accepted_source, built, source_built}}
use Rattle.stack_build.{specs.Formals.shown_formals, specs.Image.{image_of, slots_from}, specs.Implements.{FitsFormals, Implements, meaning_shown}}
use Rattle.stack_build.{specs.Moments.KeepsMoments, specs.Joined.{BuiltImplements, BuiltTakesValues}, specs.Meant.KeptMeansOnly, proofs.BuildLaws.text_builds}
use Rattle.stack_build.proofs.SlotLaws.{same_values}
use Rattle.quick_generate.specs.{Choice.{chosen_of}, DoesQuickly.{DoesQuickly, Quickens, TextsAreQuickened}}
use Rattle.quick_generate.specs.{Quickened.{image_or, quickened}, QuickOf.{image_found, image_size, main_found, quick_of, small_image, whole_image, window_end}}
use Rattle.command_line.specs.declared.command.Command.TheVariants as command
use Rattle.command_line.{specs.declared.early_end.EarlyEnd.EarlyEnd, specs.declared.role.Role.TheVariants.{Source, Values, Image, QuickImage}}
use Rattle.command_line.{specs.Roles.limit_of, specs.declared.status.Status.Status, specs.declared.status.Status.TheVariants.{Done, Unfinished}}
use Rattle.command_line.{specs.Gathered.text_or_end, specs.CommandFiles.{inputs_of, output_of}, proofs.FileLaws.was_short}
use Rattle.command_replies.{specs.Replies.{built_reply, status_of, verdict_alone}, specs.Commands.Run.{run_reply, values_reply, image_reply, image_file_reply}}
use Rattle.stack_commands.{specs.Commands.Build.{image_stored, build_reply}, specs.Commands.Go.go_reply, specs.Commands.SourceText.build_verdict}
use Rattle.stack_commands.{specs.Prepared.{stored_by, reply_by}, specs.Commands.Quick.{quick_built, quick_stored, quick_reply}}
use Rattle.cli_stack.{specs.Answer.{Answer, set_file, answer_with, answer_on, files_after}, specs.Decides.{IsDone, IsNotDone}, specs.QuickRuns.IsDoneQuickly}
use Rattle.cli_stack.{specs.QuickRuns.TellsQuickly, specs.Sooner.{TellsSooner, IsGoSooner, QuickIsGoSooner}, specs.Tells.TellsReport}
use Rattle.cli_stack.{proofs.DecidesLaws.reply_decided, proofs.GoLaws.{early_done, build_done}, proofs.OneResultLaws.shaped_same, proofs.PutLaws.put_there}
use Rattle.cli_stack.{proofs.PutLaws.put_other, proofs.QuickRunsLaws.reply_tells_quickly, proofs.TellsLaws.{is_there, reply_tells}}

-- 1. Both images have slots of the same names and shapes.

record HasSlots (s : SourceOf) (image : ImageOf) : Type 0 where
  at : ℕ
  is : image.slots ≡ slots_from at (shown_formals s)

plain_slots : (s : SourceOf) (sizes : StackSizes) (base : ℕ) (image : ImageOf) → image ≡ image_of s sizes base → HasSlots s image
unfolding image_of
plain_slots s sizes base image is = record { at = _; is = ap (λ (i : ImageOf). i.slots) is }

quick_slots : (s : SourceOf) (sizes : StackSizes) (plain : ImageOf) → HasSlots s plain → HasSlots s (quickened s sizes plain)
unfolding quickened quick_of small_image
quick_slots s sizes plain has = by_found (main_found s sizes)
  where
    by_size : (p : Proc) (fits : Bool) → HasSlots s
        (image_or plain (if fits then Some (whole_image (chosen_of p) s p plain.base (window_end (chosen_of p) p plain.base)) else None))
    by_size p true = record { at = window_end (chosen_of p) p plain.base - 1; is = refl }
    by_size p false = has

    by_found : (found : Option Proc) → HasSlots s (image_or plain (image_found s plain.base found))
    by_found (Some p) = by_size p (nat_le (image_size (chosen_of p) p) most_window)
    by_found None = has

-- so they take the same values, and a reading has the same lines
module _ (s : SourceOf) (image other : ImageOf) (has : HasSlots s image) (has' : HasSlots s other) where
  take_alike : (text : List ℕ) → values_in image.slots text ≡ values_in other.slots text
  take_alike text =
      ap (λ (slots : List Slot). values_in slots text) has.is
      ∙ same_values has.at has'.at (shown_formals s) text
      ∙ sym (ap (λ (slots : List Slot). values_in slots text) has'.is)

  read_alike : (read : ReadingOf) → lines_of_reading image read ≡ lines_of_reading other read
  read_alike read =
      ap (λ (slots : List Slot). reading_lines read.condition (shaped slots read.items)) has.is
      ∙ ap (λ (vs : List VariableOf). reading_lines read.condition vs) (shaped_same has.at has'.at (shown_formals s) read.items)
      ∙ sym (ap (λ (slots : List Slot). reading_lines read.condition (shaped slots read.items)) has'.is)

-- 2. Both runs, on values that fit.

done_unfinished : (s : Status) → s ≡ Done → s ≡ Unfinished → ⊥
done_unfinished s done unfinished = let e : Done ≡ Unfinished = sym done ∙ unfinished in cc

module _ (meant : KeptMeansOnly) (s : SourceOf) (sizes : StackSizes) (plain quick : ImageOf) (slots : HasSlots s plain) (slots' : HasSlots s quick)
    (implements : Implements plain s sizes) (moments : KeepsMoments plain s sizes) (does : DoesQuickly quick s sizes)
    (given : List ValueOf) (fits : FitsFormals s given) where
  -- from what both tell
  sooner : (finals : List ValueOf) (way : CurrentCondition) (count steps : ℕ) (go run : Answer) → steps ≤ count
      → TellsReport s plain finals way count go → TellsReport s quick finals way steps run → TellsSooner go run
  sooner finals way count steps go run fewer tells tells' = record {
    goes = tells.status;
    runs = tells'.status;
    count = count;
    steps = steps;
    fewer = fewer;
    lines = lines_of_reading plain (meaning_shown s finals way);
    later = tells.text;
    sooner = tells'.text ∙ ap (λ (lines : List ℕ). line (codes "finished " ++ decimal steps) ++ lines)
        (read_alike s quick plain slots' slots (meaning_shown s finals way));
  }

  abbrev go_answer : Option (List ℕ × List ℕ) → ℕ → Answer
  go_answer output budget = answer_with output (run_reply plain given budget)

  abbrev run_answer : ℕ → Answer
  run_answer budget = answer_with None (run_reply quick given budget)

  quickly : (budget : ℕ) → TellsQuickly s sizes quick given budget (run_answer budget)
  quickly budget = reply_tells_quickly quick s sizes does given fits budget None (run_reply quick given budget) refl

  goes_sooner : (output : Option (List ℕ × List ℕ)) (budget : ℕ) → (go_answer output budget).status ≡ Done
      → TellsSooner (go_answer output budget) (run_answer budget)
  goes_sooner output budget done =
      ⊎_elim (λ (d : IsDone s sizes plain given budget (go_answer output budget)).
      let at = (quickly budget).told d.finals d.way d.count d.meant in
      sooner d.finals d.way d.count at.steps (go_answer output budget) (run_answer budget) at.fewer d.tells
      (at.enough (omega (arith, at.fewer, d.within))))
      (λ (n : IsNotDone s sizes given budget (go_answer output budget)).
      absurd (done_unfinished (go_answer output budget).status done n.tells.status))
      (reply_decided meant plain s sizes implements moments given fits budget output (run_reply plain given budget) refl).either

  runs_sooner : (output : Option (List ℕ × List ℕ)) (budget : ℕ) → (run_answer budget).status ≡ Done
      → (enough : ℕ) × TellsSooner (go_answer output enough) (run_answer budget)
  runs_sooner output budget done =
      ⊎_elim (λ (d : IsDoneQuickly s sizes quick given budget (run_answer budget)). (
        d.count,
        sooner d.finals d.way d.count d.steps (go_answer output d.count) (run_answer budget) d.fewer
            (reply_tells plain s sizes given d.finals d.way d.count d.count output (run_reply plain given d.count) implements fits d.meant (omega arith) refl)
            d.tells,
      ))
      (λ (n : IsNotDone s sizes given budget (run_answer budget)). absurd (done_unfinished (run_answer budget).status done n.tells.status))
      (quickly budget).either

-- 3. The commands.

module _ (implement : BuiltImplements) (take : BuiltTakesValues) (meant : KeptMeansOnly) (laws : TextsAreQuickened) (source values image : List ℕ)
    (control temporary budget : ℕ) (watches : List Watching) (files : Files) (differ : image ≢ values) where
  abbrev Fetched : Type 0
  Fetched = Result (List ℕ) EarlyEnd

  abbrev sizes_of_both : StackSizes
  sizes_of_both = stack_sizes control temporary

  build_on : Fetched → Answer
  build_on first = answer_on (command.Build source control temporary image) watches (first >>= λ t. Ok ((Source, t) ∷ []))

  quick_on : Fetched → Answer
  quick_on first = answer_on (command.Quick source control temporary image) watches (first >>= λ t. Ok ((Source, t) ∷ []))

  go_on : ℕ → Fetched → Fetched → Answer
  go_on most first second =
      answer_on (command.Go source values control temporary most image) watches
      (first >>= λ t. (second >>= λ o. Ok ((Values, o) ∷ [])) >>= λ texts. Ok ((Source, t) ∷ texts))

  run_on : Fetched → Fetched → Answer
  run_on first second =
      answer_on (command.Run image values budget) watches
      (first >>= λ t. (second >>= λ o. Ok ((Values, o) ∷ [])) >>= λ texts. Ok ((Image, t) ∷ texts))

  abbrev fetch_image : Files → Fetched
  fetch_image left = text_or_end (Image, image) (fetched left image (limit_of Image))

  abbrev fetch_values : Files → Fetched
  fetch_values left = text_or_end (Values, values) (fetched left values (limit_of Values))

  -- over what `quick` left
  run_after : Answer → Answer
  run_after made = let left = files_after made.output files in run_on (fetch_image left) (fetch_values left)

  Sooner : Fetched → Fetched → Type 0
  Sooner first second = IsGoSooner (build_on first) (quick_on first) (λ most. go_on most first second) budget (run_after (quick_on first))

  unread : (e : EarlyEnd) (second : Fetched) → Sooner (Err e) second
  unfolding Sooner build_on quick_on go_on
  unread e second = record {
    stops = λ other. refl;
    stores = λ done. absurd (early_done e done);
    goes = λ done. absurd (early_done e done);
    runs = λ made done. absurd (early_done e made);
  }

  -- what is refused
  module _ (text : List ℕ) (f : BuildFault) (is : built text control temporary 0 ≡ Err f) (quick_is : quick_built text control temporary ≡ Err f) where
    build_refused : build_on (Ok text) ≡ answer_with None (verdict_alone (build_verdict f))
    unfolding build_on output_of stored_by reply_by
    build_refused = ap (λ r. answer_with (set_file (Some (Image, image)) (image_stored r)) (build_reply r)) is

    quick_refused : quick_on (Ok text) ≡ answer_with None (verdict_alone (build_verdict f))
    unfolding quick_on output_of stored_by reply_by
    quick_refused = ap (λ r. answer_with (set_file (Some (QuickImage, image)) (quick_stored r)) (quick_reply r)) quick_is

    go_refused : (most : ℕ) (second : Fetched) → (go_on most (Ok text) second).status ≡ Done → ⊥
    unfolding go_on output_of stored_by reply_by
    go_refused most (Err e) done = early_done e done
    go_refused most (Ok other) done = build_done f (sym (ap (λ r. status_of (go_reply r other most).verdict) is) ∙ done)

    refused : (second : Fetched) → Sooner (Ok text) second
    unfolding Sooner
    refused second = record {
      stops = λ other. quick_refused ∙ sym build_refused;
      stores = λ done. absurd (build_done f (sym (ap (λ (a : Answer). a.status) build_refused) ∙ done));
      goes = λ done. absurd (go_refused budget second done);
      runs = λ made done. absurd (build_done f (sym (ap (λ (a : Answer). a.status) quick_refused) ∙ made));
    }

  -- what is built
  module _ (text : List ℕ) (few : length text ≤ 1048576) (s : SourceOf) (read : accepted_source text ≡ Ok s) (b : BuiltOf)
      (is : built text control temporary 0 ≡ Ok b) (quick_is : quick_built text control temporary ≡ Ok (quickened s sizes_of_both b.image)) where
    abbrev quick : ImageOf
    quick = quickened s sizes_of_both b.image

    abbrev bytes : List ℕ
    bytes = spelling quick

    made_builds : BuildsText text control temporary b
    made_builds = rw is at (implement text control temporary 0 (omega (arith, few)) (omega arith))

    own_source : made_builds.source ≡ s
    own_source = let e : Ok made_builds.source ≡ Ok s = sym made_builds.read ∙ read in cc

    builds : Builds s sizes_of_both b
    builds = subst (λ (source : SourceOf). Builds source sizes_of_both b) own_source made_builds.builds

    quickens : (short : length bytes ≤ limit_of Image) × Quickens s sizes_of_both b.image
    quickens =
        let q = laws text control temporary 0 b (omega (arith, few)) (omega arith) is in
        let e : Ok q.source ≡ Ok s = sym q.read ∙ read in
        let same : q.source ≡ s = cc in
        subst (λ (it : SourceOf). (length (spelling (quickened it sizes_of_both b.image)) ≤ limit_of Image) × Quickens it sizes_of_both b.image) same
        (q.short few, q.quickens)

    left : Files
    left = put_file files image bytes

    image_there : fetch_image left ≡ Ok bytes
    unfolding left
    image_there = is_there left (Image, image) bytes (record { there = put_there files image bytes; short = quickens.0 })

    values_same : fetch_values left ≡ fetch_values files
    unfolding left
    values_same = ap (λ (o : Option (List ℕ)). text_or_end (Values, values) (within (limit_of Values) o)) (put_other files image bytes values differ)

    quick_stores : quick_on (Ok text) ≡ answer_with (Some (image, bytes)) (built_reply quick.size)
    unfolding quick_on output_of stored_by reply_by
    quick_stores = ap (λ r. answer_with (set_file (Some (QuickImage, image)) (quick_stored r)) (quick_reply r)) quick_is

    run_is : run_after (quick_on (Ok text)) ≡ run_on (Ok bytes) (fetch_values files)
    unfolding run_after left
    run_is =
        ap run_after quick_stores
        ∙ ap (λ (first : Fetched). run_on first (fetch_values (put_file files image bytes))) image_there
        ∙ ap (λ (second : Fetched). run_on (Ok bytes) second) values_same

    slots : HasSlots s b.image
    slots = plain_slots s sizes_of_both builds.base b.image builds.is

    slots' : HasSlots s quick
    slots' = quick_slots s sizes_of_both b.image slots

    read_replies : (other : List ℕ) → image_file_reply bytes other budget ≡ values_reply quick budget (values_in b.image.slots other)
    read_replies other =
        ap (image_reply other budget) (spelled_reads bytes quick quickens.1.spells)
        ∙ ap (values_reply quick budget) (take_alike s quick b.image slots' slots other)

    -- what the two answer to values
    module _ (other : List ℕ) (output : Option (List ℕ × List ℕ)) where
      abbrev go_values : ℕ → Result (List ValueOf) (ℕ × ℕ) → Answer
      go_values most found = answer_with output (values_reply b.image most found)

      abbrev run_values : Result (List ValueOf) (ℕ × ℕ) → Answer
      run_values found = answer_with None (values_reply quick budget found)

      by_values : (found : Result (List ValueOf) (ℕ × ℕ)) → values_in b.image.slots other ≡ found
          → ((go_values budget found).status ≡ Done → TellsSooner (go_values budget found) (run_values found))
          × ((run_values found).status ≡ Done → (enough : ℕ) × TellsSooner (go_values enough found) (run_values found))
      by_values (Err f) gives = (λ done. absurd cc, λ done. absurd cc)
      by_values (Ok given) gives =
          let fits = take text control temporary 0 s b other given (omega (arith, few)) (omega arith) read is gives in (
            λ done. goes_sooner meant s sizes_of_both b.image quick slots slots' builds.implements builds.moments quickens.1.does given fits output budget done,
            λ done. runs_sooner meant s sizes_of_both b.image quick slots slots' builds.implements builds.moments quickens.1.does given fits output budget done,
          )

    go_is : (most : ℕ) (other : List ℕ)
        → go_on most (Ok text) (Ok other) ≡ answer_with (Some (image, b.bytes)) (values_reply b.image most (values_in b.image.slots other))
    unfolding go_on output_of stored_by reply_by
    go_is most other = ap (λ r. answer_with (set_file (Some (Image, image)) (image_stored r)) (go_reply r other most)) is

    run_values_is : (other : List ℕ) → run_on (Ok bytes) (Ok other) ≡ answer_with None (values_reply quick budget (values_in b.image.slots other))
    unfolding run_on output_of stored_by reply_by
    run_values_is other = ap (answer_with None) (read_replies other)

    by_second : (second : Fetched) → fetch_values files ≡ second
        → ((go_on budget (Ok text) second).status ≡ Done → TellsSooner (go_on budget (Ok text) second) (run_on (Ok bytes) second))
        × ((run_on (Ok bytes) second).status ≡ Done → (enough : ℕ) × TellsSooner (go_on enough (Ok text) second) (run_on (Ok bytes) second))
    unfolding go_on run_on
    by_second (Err e) gets = (λ done. absurd (early_done e done), λ done. absurd (early_done e done))
    by_second (Ok other) gets =
        subst (λ (run : Answer). ((go_on budget (Ok text) (Ok other)).status ≡ Done → TellsSooner (go_on budget (Ok text) (Ok other)) run)
        × (run.status ≡ Done → (enough : ℕ) × TellsSooner (go_on enough (Ok text) (Ok other)) run)) (sym (run_values_is other))
        (subst (λ (go : ℕ → Answer). let run = answer_with None (values_reply quick budget (values_in b.image.slots other)) in
        ((go budget).status ≡ Done → TellsSooner (go budget) run) × (run.status ≡ Done → (enough : ℕ) × TellsSooner (go enough) run))
        (λ i most. sym (go_is most other) i)
        (by_values other (Some (image, b.bytes)) (values_in b.image.slots other) refl))

    done_built : Sooner (Ok text) (fetch_values files)
    unfolding Sooner build_on output_of stored_by reply_by
    done_built =
        let both = by_second (fetch_values files) refl in
        record {
          stops = λ other. absurd (other build_ends);
          stores = λ done. ap (λ (a : Answer). a.status) quick_stores;
          goes = subst (λ (run : Answer). (go_on budget (Ok text) (fetch_values files)).status ≡ Done
              → TellsSooner (go_on budget (Ok text) (fetch_values files)) run) (sym run_is) both.0;
          runs = λ made. subst (λ (run : Answer). run.status ≡ Done
              → (enough : ℕ) × TellsSooner (go_on enough (Ok text) (fetch_values files)) run) (sym run_is) both.1;
        }
      where
        build_ends : (build_on (Ok text)).status ≡ Done
        build_ends = ap (λ r. status_of (build_reply r).verdict) is

  by_source : (first : Fetched) → text_or_end (Source, source) (fetched files source (limit_of Source)) ≡ first → Sooner first (fetch_values files)
  unfolding built quick_built
  by_source (Err e) got = unread e (fetch_values files)
  by_source (Ok text) got = by_accepted (accepted_source text) refl
    where
      few : length text ≤ 1048576
      few = (was_short files (Source, source) text got).1

      by_built : (s : SourceOf) → accepted_source text ≡ Ok s → (found : Result BuiltOf BuildFault) → source_built s sizes_of_both 0 ≡ found
          → Sooner (Ok text) (fetch_values files)
      by_built s read (Err f) made =
          refused text f (text_builds text control temporary 0 s read ∙ made)
          (ap (λ r. r >>= λ s. source_built s sizes_of_both 0 >>= λ plain. Ok (quickened s sizes_of_both plain.image)) read
          ∙ ap (λ r. r >>= λ plain. Ok (quickened s sizes_of_both plain.image)) made) (fetch_values files)
      by_built s read (Ok b) made =
          done_built text few s read b (text_builds text control temporary 0 s read ∙ made)
          (ap (λ r. r >>= λ s. source_built s sizes_of_both 0 >>= λ plain. Ok (quickened s sizes_of_both plain.image)) read
          ∙ ap (λ r. r >>= λ plain. Ok (quickened s sizes_of_both plain.image)) made)

      by_accepted : (found : Result SourceOf BuildFault) → accepted_source text ≡ found → Sooner (Ok text) (fetch_values files)
      by_accepted (Err f) read =
          refused text f (ap (λ r. r >>= λ s. source_built s sizes_of_both 0) read)
          (ap (λ r. r >>= λ s. source_built s sizes_of_both 0 >>= λ plain. Ok (quickened s sizes_of_both plain.image)) read) (fetch_values files)
      by_accepted (Ok s) read = by_built s read (source_built s sizes_of_both 0) refl

pub quick_sooner : BuiltImplements → BuiltTakesValues → KeptMeansOnly → TextsAreQuickened → QuickIsGoSooner
unfolding inputs_of Sooner run_after build_on quick_on go_on run_on
quick_sooner implement take meant laws source values image control temporary budget watches files differ =
    by_source implement take meant laws source values image control temporary budget watches files differ _ refl

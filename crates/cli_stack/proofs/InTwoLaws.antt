-- `go` is `build`, and then `run`.
use Rattle.std.proofs.Common.{◌≡◌, ◌≢◌, ◌≤◌, ℕ, List, [], ◌∷◌, Option, Some, None, IfOk, Result, Ok, Err, length, refl, sym, ap, ◌∙◌, subst, arith}
use Rattle.stack_text.specs.Results.{◌>>=◌}
use Rattle.stack_shelf.{specs.Files.{Files, file_at, put_file}, specs.Shelf.{fetched, within}}
use Rattle.level_debuggers.specs.Tallies.{Watching}
use Rattle.fm_image.{specs.Reading.read_of, proofs.ImageLaws.spelled_reads}
use Rattle.stack_build.{specs.declared.fault.BuildFault.BuildFault, specs.Build.{BuiltOf, built, BuildsText}, specs.Joined.BuiltImplements}
use Rattle.command_line.specs.declared.command.Command.TheVariants as command
use Rattle.command_line.{specs.declared.early_end.EarlyEnd.EarlyEnd, specs.declared.role.Role.TheVariants.{Source, Values, Image}, specs.Roles.limit_of}
use Rattle.command_line.{specs.Gathered.text_or_end, specs.CommandFiles.{inputs_of, output_of}, proofs.FileLaws.was_short}
use Rattle.command_replies.{specs.Replies.ReplyOf, specs.Commands.Run.{image_reply, image_file_reply}}
use Rattle.stack_commands.{specs.Commands.Build.{image_stored, build_reply}, specs.Commands.Go.go_reply, specs.Prepared.{stored_by, reply_by}}
use Rattle.cli_stack.{specs.Answer.{Answer, set_file, answer_with, answer_on, files_after}, specs.FilesAndSizes.IsReadable, specs.InARow.{EndsAlike, IsInTwo}}
use Rattle.cli_stack.{specs.InARow.GoIsBuildAndRun, proofs.GoLaws.{early_done, build_done}, proofs.PutLaws.{put_there, put_other}, proofs.TellsLaws.is_there}

module _ (implement : BuiltImplements) (source values image : List ℕ) (control temporary budget : ℕ) (watches : List Watching) (files : Files)
    (differ : image ≢ values) where
  abbrev Fetched : Type 0
  Fetched = Result (List ℕ) EarlyEnd

  go_on : Fetched → Fetched → Answer
  go_on first second =
      answer_on (command.Go source values control temporary budget image) watches
      (first >>= λ t. (second >>= λ o. Ok ((Values, o) ∷ [])) >>= λ texts. Ok ((Source, t) ∷ texts))

  build_on : Fetched → Answer
  build_on first = answer_on (command.Build source control temporary image) watches (first >>= λ t. Ok ((Source, t) ∷ []))

  run_on : Fetched → Fetched → Answer
  run_on first second =
      answer_on (command.Run image values budget) watches
      (first >>= λ t. (second >>= λ o. Ok ((Values, o) ∷ [])) >>= λ texts. Ok ((Image, t) ∷ texts))

  abbrev fetch_image : Files → Fetched
  fetch_image left = text_or_end (Image, image) (fetched left image (limit_of Image))

  abbrev fetch_values : Files → Fetched
  fetch_values left = text_or_end (Values, values) (fetched left values (limit_of Values))

  -- where the values are there, they are read
  no_end : (e : EarlyEnd) → fetch_values files ≡ Err e → (text : List ℕ) → IsReadable files Values values text → ⊥
  no_end e gets text there = let ok : Ok text ≡ Err e = sym (is_there files (Values, values) text there) ∙ gets in cc

  -- with the image in its file
  module _ (b : BuiltOf) (short : length b.bytes ≤ limit_of Image) (reads : read_of b.bytes ≡ Ok b.image) where
    left : Files
    left = put_file files image b.bytes

    image_there : fetch_image left ≡ Ok b.bytes
    unfolding left
    image_there = is_there left (Image, image) b.bytes (record { there = put_there files image b.bytes; short = short })

    values_same : fetch_values left ≡ fetch_values files
    unfolding left
    values_same = ap (λ (o : Option (List ℕ)). text_or_end (Values, values) (within (limit_of Values) o)) (put_other files image b.bytes values differ)

    runs_alike : (text : List ℕ) → built text control temporary 0 ≡ Ok b → (second : Fetched) → EndsAlike (go_on (Ok text) second) (run_on (Ok b.bytes) second)
    unfolding go_on run_on output_of reply_by
    runs_alike text is (Err e) = record { status = refl; text = refl; machine = refl }
    runs_alike text is (Ok other) =
        let goes : go_reply (built text control temporary 0) other budget ≡ image_file_reply b.bytes other budget =
        ap (λ (r : Result BuiltOf BuildFault). go_reply r other budget) is ∙ sym (ap (image_reply other budget) reads) in
        let answers : (output : Option (List ℕ × List ℕ)) → EndsAlike (answer_with output (go_reply (built text control temporary 0) other budget))
        (answer_with None (image_file_reply b.bytes other budget)) =
        λ output. subst (λ (r : ReplyOf). EndsAlike (answer_with output (go_reply (built text control temporary 0) other budget)) (answer_with None r))
        goes (record { status = refl; text = refl; machine = refl }) in
        answers _

    runs : (text : List ℕ) → built text control temporary 0 ≡ Ok b → EndsAlike (go_on (Ok text) (fetch_values files))
        (run_on (fetch_image left) (fetch_values left))
    runs text is =
        subst (λ (first : Fetched). EndsAlike (go_on (Ok text) (fetch_values files)) (run_on first (fetch_values left))) (sym image_there)
        (subst (λ (second : Fetched). EndsAlike (go_on (Ok text) (fetch_values files)) (run_on (Ok b.bytes) second)) (sym values_same)
        (runs_alike text is (fetch_values files)))

  -- over what `build` left
  run_after : Answer → Answer
  run_after made = let files' = files_after made.output files in run_on (fetch_image files') (fetch_values files')

  InTwo : Fetched → Fetched → Type 0
  InTwo first second = IsInTwo files values (go_on first second) (build_on first) (run_after (build_on first))

  runs_after : (b : BuiltOf) → length b.bytes ≤ limit_of Image → read_of b.bytes ≡ Ok b.image → (text : List ℕ) → built text control temporary 0 ≡ Ok b
      → EndsAlike (go_on (Ok text) (fetch_values files)) (run_after (answer_with (set_file (Some (Image, image)) (image_stored (Ok b))) (build_reply (Ok b))))
  unfolding run_after left
  runs_after b short reads text is = runs b short reads text is

  abbrev build_made : Result BuiltOf BuildFault → Answer
  build_made found = answer_with (set_file (Some (Image, image)) (image_stored found)) (build_reply found)

  abbrev go_made : Result BuiltOf BuildFault → List ℕ → Answer
  go_made found other = answer_with (set_file (Some (Image, image)) (image_stored found)) (go_reply found other budget)

  build_is : (text : List ℕ) (found : Result BuiltOf BuildFault) → built text control temporary 0 ≡ found → build_on (Ok text) ≡ build_made found
  unfolding build_on output_of stored_by reply_by
  build_is text found is = ap build_made is

  go_is : (text other : List ℕ) (found : Result BuiltOf BuildFault) → built text control temporary 0 ≡ found → go_on (Ok text) (Ok other) ≡ go_made found other
  unfolding go_on output_of stored_by reply_by
  go_is text other found is = ap (λ (r : Result BuiltOf BuildFault). go_made r other) is

  unread : (e : EarlyEnd) → InTwo (Err e) (fetch_values files)
  unfolding InTwo go_on build_on
  unread e = record {
    runs = λ done. absurd (early_done e done);
    stores = λ text there. refl;
    stops = λ text there other. refl;
  }

  by_source : (first : Fetched) → text_or_end (Source, source) (fetched files source (limit_of Source)) ≡ first → InTwo first (fetch_values files)
  unfolding InTwo
  by_source (Err e) got = unread e
  by_source (Ok text) got = by_built (built text control temporary 0) refl (implement text control temporary 0 (omega (arith, was.1)) (omega arith))
    where
      was : (file_at files source ≡ Some text) × (length text ≤ limit_of Source)
      was = was_short files (Source, source) text got

      by_fault : (f : BuildFault) → built text control temporary 0 ≡ Err f → (second : Fetched) → fetch_values files ≡ second → InTwo (Ok text) second
      by_fault f is (Err e) gets = record {
        runs = λ done. absurd (build_done f (sym (ap (λ (a : Answer). a.status) (build_is text (Err f) is)) ∙ done));
        stores = λ values_text there. absurd (no_end e gets values_text there);
        stops = λ values_text there other. absurd (no_end e gets values_text there);
      }
      by_fault f is (Ok other) gets =
          let same : go_on (Ok text) (Ok other) ≡ build_on (Ok text) = go_is text other (Err f) is ∙ sym (build_is text (Err f) is) in
          record {
            runs = λ done. absurd (build_done f (sym (ap (λ (a : Answer). a.status) (build_is text (Err f) is)) ∙ done));
            stores = λ values_text there. ap (λ (a : Answer). a.output) same;
            stops = λ values_text there differs. same;
          }

      by_image : (b : BuiltOf) → built text control temporary 0 ≡ Ok b → EndsAlike (go_on (Ok text) (fetch_values files))
          (run_after (build_on (Ok text))) → (second : Fetched) → fetch_values files ≡ second
          → IsInTwo files values (go_on (Ok text) (fetch_values files)) (build_on (Ok text)) (run_after (build_on (Ok text)))
      by_image b is ran (Err e) gets = record {
        runs = λ done. ran;
        stores = λ values_text there. absurd (no_end e gets values_text there);
        stops = λ values_text there other. absurd (no_end e gets values_text there);
      }
      by_image b is ran (Ok other) gets = record {
        runs = λ done. ran;
        stores = λ values_text there. ap (λ (a : Answer). a.output) (ap (go_on (Ok text)) gets ∙ go_is text other (Ok b) is)
            ∙ sym (ap (λ (a : Answer). a.output) (build_is text (Ok b) is));
        stops = λ values_text there differs. absurd (differs (ap (λ (a : Answer). a.status) (build_is text (Ok b) is)));
      }

      by_built : (found : Result BuiltOf BuildFault) → built text control temporary 0 ≡ found → IfOk found (BuildsText text control temporary)
          → InTwo (Ok text) (fetch_values files)
      by_built (Err f) is builds = by_fault f is (fetch_values files) refl
      by_built (Ok b) is builds =
          let few = builds.short was.1 in
          let short : length b.bytes ≤ limit_of Image = omega (arith, few) in
          let reads : read_of b.bytes ≡ Ok b.image = spelled_reads b.bytes b.image builds.builds.spells in
          let ran : EndsAlike (go_on (Ok text) (fetch_values files)) (run_after (build_on (Ok text))) =
          subst (λ (a : Answer). EndsAlike (go_on (Ok text) (fetch_values files)) (run_after a)) (sym (build_is text (Ok b) is))
          (runs_after b short reads text is) in
          by_image b is ran (fetch_values files) refl

pub in_two : BuiltImplements → GoIsBuildAndRun
unfolding inputs_of InTwo run_after go_on build_on run_on
in_two implement source values image control temporary budget watches files differ =
    by_source implement source values image control temporary budget watches files differ _ refl

-- The file that `migrate` stores runs as the one before.
use Rattle.std.proofs.Common.{◌≡◌, ◌≢◌, ◌≤◌, ◌∷◌, [], ⊎_elim, ℕ, List, Bool, true, false, ◌==◌, ◌&&◌, if◌then◌else◌, Option, Some, None, Result, Ok, Err}
use Rattle.std.{proofs.Common.{length, refl, sym, ap, ◌∙◌, subst, arith}, proofs.lemmas.Bool.{and_parts, eqb-true, or_cases}}
use Rattle.std.proofs.lemmas.List.{nil_from_length}
use Rattle.stack_text.{specs.Results.◌>>=◌, specs.Values.ValueOf}
use Rattle.stack_shelf.{specs.Files.{Files, file_at, put_file}, specs.Shelf.{fetched, within}}
use Rattle.level_debuggers.specs.Tallies.{Watching}
use Rattle.fm_image.{specs.Procedure.ProcedureOf, specs.declared.procedure.Mark.Mark, specs.Image.ImageOf, specs.Limits.{tables_of, window_of, in_version_2}}
use Rattle.fm_image.{specs.Limits.are_tables, specs.Reading.read_of, specs.Spelling.{spelling, tables_bytes, Spelled}, proofs.ImageLaws.read_spells}
use Rattle.fm_image.{proofs.ImageLaws.is_read_again, proofs.LimitLaws.{limits_of, version_2_fits}}
use Rattle.fm_loader.specs.Values.{values_in}
use Rattle.stack_build.proofs.ImageBytes.{file_few}
use Rattle.command_line.specs.declared.command.Command.TheVariants as command
use Rattle.command_line.{specs.declared.early_end.EarlyEnd.EarlyEnd, specs.declared.role.Role.TheVariants.{Values, Image}}
use Rattle.command_line.{specs.declared.status.Status.TheVariants.Done, specs.Roles.limit_of, specs.Gathered.text_or_end, specs.CommandFiles.inputs_of}
use Rattle.command_line.{specs.CommandFiles.output_of, proofs.FileLaws.was_short}
use Rattle.command_replies.{specs.Replies.status_of, specs.Commands.Migrate.{migrated_stored, migrated_reply}, specs.Commands.Run.{run_reply, values_reply}}
use Rattle.command_replies.specs.Commands.Run.{image_reply}
use Rattle.stack_commands.specs.Prepared.{stored_by, reply_by}
use Rattle.cli_stack.{specs.Answer.{Answer, set_file, answer_with, answer_on, files_after}, specs.Again.{HasBytes, MigratedRunsTheSame}}
use Rattle.cli_stack.{proofs.AssemblesLaws.are_bytes, proofs.GoLaws.early_done, proofs.PutLaws.{put_there, put_other}, proofs.TellsLaws.is_there}

-- 1. Its file is short enough to be read.

none_few : (procedures : List ProcedureOf) (marks : List Mark) → length procedures ≡ 0 → length marks ≡ 0
    → length (tables_bytes 2 (record { procedures = procedures; marks = marks })) ≤ 8
none_few procedures marks p m =
    subst (λ (ps : List ProcedureOf). length (tables_bytes 2 (record { procedures = ps; marks = marks })) ≤ 8) (sym (nil_from_length procedures p))
    (subst (λ (ms : List Mark). length (tables_bytes 2 (record { procedures = []; marks = ms })) ≤ 8) (sym (nil_from_length marks m)) (omega arith))

-- an image of version 1 has no tables
no_tables : (image : ImageOf) (b : Bool) → b ≡ true
    → (if b then length image.procedures == 0 && length image.marks == 0 else are_tables (window_of image) (tables_of image)) ≡ true
    → (length image.procedures ≡ 0) × (length image.marks ≡ 0)
no_tables image true is h = let both = and_parts (length image.procedures == 0) (length image.marks == 0) h in (eqb-true _ 0 both.0, eqb-true _ 0 both.1)
no_tables image false is h = absurd cc

migrated_short : (bytes : List ℕ) (image : ImageOf) → Spelled bytes image → length bytes ≤ limit_of Image
    → length (spelling (in_version_2 image)) ≤ limit_of Image
migrated_short bytes image spelled short =
    ⊎_elim
    (λ one.
    let none = no_tables image (image.version == 1) one (limits_of image spelled.limits).tables in
    omega (arith, file_few (in_version_2 image) (version_2_fits image spelled.limits), none_few image.procedures image.marks none.0 none.1))
    (λ two.
    let version : image.version ≡ 2 = eqb-true image.version 2 two in
    let same : image ≡ in_version_2 image = ap (λ (v : ℕ). record image { version = v }) version in
    subst (λ (b : List ℕ). length b ≤ limit_of Image) (spelled.fields ∙ ap spelling same) short)
    (or_cases (image.version == 1) (image.version == 2) (limits_of image spelled.limits).version)

-- 2. It runs the same.

runs_same : (image : ImageOf) (values : List ℕ) (budget : ℕ) → image_reply values budget (Ok (in_version_2 image)) ≡ image_reply values budget (Ok image)
unfolding run_reply
runs_same image values budget = by_values (values_in image.slots values)
  where
    by_values : (found : Result (List ValueOf) (ℕ × ℕ)) → values_reply (in_version_2 image) budget found ≡ values_reply image budget found
    by_values (Err f) = refl
    by_values (Ok v) = refl

module _ (image output values : List ℕ) (budget : ℕ) (watches : List Watching) (files : Files) (all : HasBytes files image) (differ : output ≢ values) where
  abbrev Fetched : Type 0
  Fetched = Result (List ℕ) EarlyEnd

  run_on : List ℕ → Fetched → Fetched → Answer
  run_on name first second =
      answer_on (command.Run name values budget) watches
      (first >>= λ t. (second >>= λ o. Ok ((Values, o) ∷ [])) >>= λ texts. Ok ((Image, t) ∷ texts))

  migrate_on : Fetched → Answer
  migrate_on first = answer_on (command.Migrate image output) watches (first >>= λ t. Ok ((Image, t) ∷ []))

  abbrev fetch_output : Files → Fetched
  fetch_output left = text_or_end (Image, output) (fetched left output (limit_of Image))

  abbrev fetch_values : Files → Fetched
  fetch_values left = text_or_end (Values, values) (fetched left values (limit_of Values))

  run_after : Answer → Answer
  run_after made = let left = files_after made.output files in run_on output (fetch_output left) (fetch_values left)

  -- on two files of which one is the other's in version 2
  on_texts : (bytes stored : List ℕ) (read : ImageOf) → read_of bytes ≡ Ok read → read_of stored ≡ Ok (in_version_2 read) → (second : Fetched)
      → run_on output (Ok stored) second ≡ run_on image (Ok bytes) second
  unfolding run_on output_of reply_by
  on_texts bytes stored read is again (Err e) = refl
  on_texts bytes stored read is again (Ok other) =
      ap (answer_with None) (ap (image_reply other budget) again ∙ runs_same read other budget ∙ sym (ap (image_reply other budget) is))

  by_image : (first : Fetched) → text_or_end (Image, image) (fetched files image (limit_of Image)) ≡ first → (migrate_on first).status ≡ Done
      → run_after (migrate_on first) ≡ run_on image first (fetch_values files)
  unfolding run_after migrate_on output_of stored_by reply_by
  by_image (Err e) got done = absurd (early_done e done)
  by_image (Ok bytes) got done = by_reading (read_of bytes) refl done
    where
      was : (file_at files image ≡ Some bytes) × (length bytes ≤ limit_of Image)
      was = was_short files (Image, image) bytes got

      by_reading : (found : Result ImageOf (ℕ × ℕ)) → read_of bytes ≡ found → status_of (migrated_reply output found).verdict ≡ Done
          → run_after (answer_with (set_file (Some (Image, output)) (migrated_stored found)) (migrated_reply output found))
          ≡ run_on image (Ok bytes) (fetch_values files)
      by_reading (Err f) is done = absurd cc
      by_reading (Ok read) is done =
          let spelled = read_spells bytes read (are_bytes bytes (all bytes was.0)) is in
          let stored : List ℕ = spelling (in_version_2 read) in
          let left : Files = put_file files output stored in
          let again : read_of stored ≡ Ok (in_version_2 read) =
          is_read_again (in_version_2 read) (version_2_fits read spelled.limits) spelled.registers spelled.words in
          let there : fetch_output left ≡ Ok stored =
          is_there left (Image, output) stored (record { there = put_there files output stored; short = migrated_short bytes read spelled was.1 }) in
          let kept : fetch_values left ≡ fetch_values files =
          ap (λ (o : Option (List ℕ)). text_or_end (Values, values) (within (limit_of Values) o)) (put_other files output stored values differ) in
          ap (λ (first : Fetched). run_on output first (fetch_values left)) there ∙ ap (run_on output (Ok stored)) kept
          ∙ on_texts bytes stored read is again (fetch_values files)

pub migrated_runs : MigratedRunsTheSame
unfolding inputs_of run_after run_on migrate_on
migrated_runs image output values budget watches files all differ done = by_image image output values budget watches files all differ _ refl done

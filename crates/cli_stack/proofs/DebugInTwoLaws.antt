-- `debug fm9001` is `build`, and then `idebug`.
use Rattle.std.proofs.Common.{◌≡◌, ◌≢◌, ◌≤◌, ℕ, List, [], ◌∷◌, Option, Some, None, IfOk, Result, Ok, Err, length, refl, sym, ap, ◌∙◌, subst, arith}
use Rattle.stack_text.{specs.Results.◌>>=◌, specs.Values.ValueOf}
use Rattle.stack_shelf.{specs.Files.{Files, put_file}, specs.Shelf.{fetched, within}}
use Rattle.fm_image.{specs.Image.ImageOf, specs.Reading.read_of, proofs.ImageLaws.spelled_reads}
use Rattle.fm_machine.specs.State.{Fm}
use Rattle.fm_loader.{specs.Loaded.loaded, specs.Values.values_in}
use Rattle.gypsy_syntax.specs.Sources.{SourceOf}
use Rattle.gypsy_space.specs.Needs.{stack_sizes}
use Rattle.stack_build.{specs.declared.fault.BuildFault.BuildFault, specs.Build.{BuiltOf, BuildsText, accepted_source, built, source_built}}
use Rattle.stack_build.{specs.Joined.BuiltImplements, specs.Starts.{Start, built_start, image_start, or_values}}
use Rattle.level_debuggers.{specs.Levels.LevelOf, specs.Tallies.Watching}
use Rattle.level_debuggers.specs.Levels as levels
use Rattle.command_line.{specs.declared.early_end.EarlyEnd.EarlyEnd, specs.declared.role.Role.TheVariants.{Source, Values, Script, Image, SessionImage}}
use Rattle.command_line.{specs.declared.status.Status.TheVariants.Done, specs.declared.words.reader.Level.TheVariants.Fm9001, specs.Roles.limit_of}
use Rattle.command_line.{specs.Gathered.text_or_end, specs.CommandFiles.{inputs_of, output_of}, proofs.FileLaws.was_short}
use Rattle.command_line.specs.declared.command.Command.TheVariants as command
use Rattle.command_replies.{specs.declared.reply.Verdict.Verdict, specs.Replies.ReplyOf}
use Rattle.stack_commands.{specs.Commands.Build.{image_stored, build_reply}, specs.Commands.Debug.{debug_reply, or_verdict, run_in, session_reply}}
use Rattle.stack_commands.{specs.Commands.Idebug.{idebug_reply, image_run_in, loaded_run}, specs.Commands.SourceText.accepted_in, specs.Prepared.reply_by}
use Rattle.stack_commands.specs.Prepared.{stored_by}
use Rattle.cli_stack.{specs.Answer.{Answer, answer_on, answer_with, files_after, set_file}, specs.InARow.{DebugIsBuildAndIdebug, EndsAlike}}
use Rattle.cli_stack.{proofs.ExplainsLaws.of_source, proofs.GoLaws.{build_done, early_done}, proofs.PutLaws.{put_there, put_other}, proofs.TellsLaws.is_there}

abbrev start_of : BuiltOf → List ValueOf → Start
start_of b values = record { checked = b.piton; image = b.image; values = values }

abbrev machine_of : Start → ImageOf × Fm
machine_of start = (start.image, loaded start.image start.values)

abbrev run_of : ImageOf × Fm → LevelOf
run_of start = levels.Fm record { image = start.0; state = start.1 }

-- the run of a built source, on the values that its image takes, or the rule that they break
values_run : (b : BuiltOf) (found : Result (List ValueOf) (ℕ × ℕ)) → or_verdict
    (((or_values found >>= λ values. Ok (start_of b values)) >>= λ start. Ok (machine_of start)) >>= λ start. Ok (run_of start)) ≡ loaded_run b.image found
values_run b (Ok values) = refl
values_run b (Err fault) = refl

-- a session of a source's text has the run that one of its image has
run_same : (text values : List ℕ) (control temporary : ℕ) (source : SourceOf) (b : BuiltOf) → accepted_source text ≡ Ok source
    → built text control temporary 0 ≡ Ok b → read_of b.bytes ≡ Ok b.image
    → run_in Fm9001 text (stack_sizes control temporary) values ≡ image_run_in b.bytes values
unfolding run_in accepted_in image_start built_start
run_same text values control temporary source b read is reads =
    let made : source_built source (stack_sizes control temporary) 0 ≡ Ok b = of_source text control temporary source b read is in
    rw (read, made, reads) (values_run b (values_in b.image.slots values))

module _ (implement : BuiltImplements) (source values script image : List ℕ) (control temporary : ℕ) (watches : List Watching) (files : Files)
    (apart : image ≢ values) (apart' : image ≢ script) where
  abbrev Fetched : Type 0
  Fetched = Result (List ℕ) EarlyEnd

  debug_on : Fetched → Fetched → Fetched → Answer
  debug_on first second third =
      answer_on (command.Debug Fm9001 source values control temporary script) watches
      (first >>= λ t. (second >>= λ o. (third >>= λ s. Ok ((Script, s) ∷ [])) >>= λ texts. Ok ((Values, o) ∷ texts)) >>= λ texts. Ok ((Source, t) ∷ texts))

  build_on : Fetched → Answer
  build_on first = answer_on (command.Build source control temporary image) watches (first >>= λ t. Ok ((Source, t) ∷ []))

  idebug_on : Fetched → Fetched → Fetched → Answer
  idebug_on first second third =
      answer_on (command.Idebug image values script) watches
      (first >>= λ t. (second >>= λ o. (third >>= λ s. Ok ((Script, s) ∷ [])) >>= λ texts. Ok ((Values, o) ∷ texts))
      >>= λ texts. Ok ((SessionImage, t) ∷ texts))

  abbrev fetch_image : Files → Fetched
  fetch_image left = text_or_end (SessionImage, image) (fetched left image (limit_of SessionImage))

  abbrev fetch_values : Files → Fetched
  fetch_values left = text_or_end (Values, values) (fetched left values (limit_of Values))

  abbrev fetch_script : Files → Fetched
  fetch_script left = text_or_end (Script, script) (fetched left script (limit_of Script))

  -- with the image in its file
  module _ (text : List ℕ) (accepted : SourceOf) (b : BuiltOf) (read : accepted_source text ≡ Ok accepted) (is : built text control temporary 0 ≡ Ok b)
      (short : length b.bytes ≤ limit_of Image) (reads : read_of b.bytes ≡ Ok b.image) where
    left : Files
    left = put_file files image b.bytes

    image_there : fetch_image left ≡ Ok b.bytes
    unfolding left
    image_there = is_there left (SessionImage, image) b.bytes (record { there = put_there files image b.bytes; short = short })

    values_same : fetch_values left ≡ fetch_values files
    unfolding left
    values_same = ap (λ (o : Option (List ℕ)). text_or_end (Values, values) (within (limit_of Values) o)) (put_other files image b.bytes values apart)

    script_same : fetch_script left ≡ fetch_script files
    unfolding left
    script_same = ap (λ (o : Option (List ℕ)). text_or_end (Script, script) (within (limit_of Script) o)) (put_other files image b.bytes script apart')

    alike : (second third : Fetched) → EndsAlike (debug_on (Ok text) second third) (idebug_on (Ok b.bytes) second third)
    unfolding debug_on idebug_on output_of reply_by
    alike (Err e) third = record { status = refl; text = refl; machine = refl }
    alike (Ok other) (Err e) = record { status = refl; text = refl; machine = refl }
    alike (Ok other) (Ok lines) =
        let says : debug_reply Fm9001 text other control temporary lines watches ≡ idebug_reply b.bytes other lines watches =
        ap (λ (r : Result LevelOf Verdict). session_reply r watches lines) (run_same text other control temporary accepted b read is reads) in
        subst (λ (r : ReplyOf). EndsAlike (answer_with None (debug_reply Fm9001 text other control temporary lines watches)) (answer_with None r)) says
        (record { status = refl; text = refl; machine = refl })

    all_alike : EndsAlike (debug_on (Ok text) (fetch_values files) (fetch_script files)) (idebug_on (fetch_image left) (fetch_values left) (fetch_script left))
    all_alike =
        subst (λ (first : Fetched). EndsAlike (debug_on (Ok text) (fetch_values files) (fetch_script files))
        (idebug_on first (fetch_values left) (fetch_script left))) (sym image_there)
        (subst (λ (second : Fetched). EndsAlike (debug_on (Ok text) (fetch_values files) (fetch_script files))
        (idebug_on (Ok b.bytes) second (fetch_script left))) (sym values_same)
        (subst (λ (third : Fetched). EndsAlike (debug_on (Ok text) (fetch_values files) (fetch_script files))
        (idebug_on (Ok b.bytes) (fetch_values files) third)) (sym script_same)
        (alike (fetch_values files) (fetch_script files))))

  -- over what `build` left
  idebug_after : Answer → Answer
  idebug_after made = let files' = files_after made.output files in idebug_on (fetch_image files') (fetch_values files') (fetch_script files')

  abbrev build_made : Result BuiltOf BuildFault → Answer
  build_made found = answer_with (set_file (Some (Image, image)) (image_stored found)) (build_reply found)

  build_is : (text : List ℕ) (found : Result BuiltOf BuildFault) → built text control temporary 0 ≡ found → build_on (Ok text) ≡ build_made found
  unfolding build_on output_of stored_by reply_by
  build_is text found is = ap build_made is

  after_is : (text : List ℕ) (accepted : SourceOf) (b : BuiltOf) → accepted_source text ≡ Ok accepted → built text control temporary 0 ≡ Ok b
      → length b.bytes ≤ limit_of Image → read_of b.bytes ≡ Ok b.image
      → EndsAlike (debug_on (Ok text) (fetch_values files) (fetch_script files)) (idebug_after (build_made (Ok b)))
  unfolding idebug_after left
  after_is text accepted b read is short reads = all_alike text accepted b read is short reads

  by_built : (text : List ℕ) → length text ≤ limit_of Source → (found : Result BuiltOf BuildFault) → built text control temporary 0 ≡ found
      → IfOk found (BuildsText text control temporary) → (build_on (Ok text)).status ≡ Done
      → EndsAlike (debug_on (Ok text) (fetch_values files) (fetch_script files)) (idebug_after (build_on (Ok text)))
  by_built text small (Err f) is builds done = absurd (build_done f (sym (ap (λ (a : Answer). a.status) (build_is text (Err f) is)) ∙ done))
  by_built text small (Ok b) is builds done =
      let few = builds.short small in
      let short : length b.bytes ≤ limit_of Image = omega (arith, few) in
      subst (λ (a : Answer). EndsAlike (debug_on (Ok text) (fetch_values files) (fetch_script files)) (idebug_after a)) (sym (build_is text (Ok b) is))
      (after_is text builds.source b builds.read is short (spelled_reads b.bytes b.image builds.builds.spells))

  unread : (e : EarlyEnd) → (build_on (Err e)).status ≡ Done → ⊥
  unfolding build_on
  unread e done = early_done e done

  by_source : (first : Fetched) → text_or_end (Source, source) (fetched files source (limit_of Source)) ≡ first → (build_on first).status ≡ Done
      → EndsAlike (debug_on first (fetch_values files) (fetch_script files)) (idebug_after (build_on first))
  by_source (Err e) got done = absurd (unread e done)
  by_source (Ok text) got done =
      let was = was_short files (Source, source) text got in
      by_built text was.1 (built text control temporary 0) refl (implement text control temporary 0 (omega (arith, was.1)) (omega arith)) done

pub debug_in_two : BuiltImplements → DebugIsBuildAndIdebug
unfolding inputs_of idebug_after debug_on build_on idebug_on
debug_in_two implement source values script image control temporary watches files apart apart' done =
    by_source implement source values script image control temporary watches files apart apart' _ refl done

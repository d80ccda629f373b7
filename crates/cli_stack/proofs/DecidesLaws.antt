-- What `go` decides, by the image that it runs.
use Rattle.std.proofs.Common.{◌≡◌, ◌≤◌, inl, inr, ⊎_elim, ℕ, List, [], ◌∷◌, ◌++◌, Option, Result, Ok, Err, IfOk, length, refl, sym, ap, ◌∙◌, subst, arith}
use Rattle.std.specs.Prelude.{◌^◌}
use Rattle.stack_text.{specs.Results.◌>>=◌, specs.Values.ValueOf}
use Rattle.stack_shelf.{specs.Files.Files, specs.Shelf.fetched}
use Rattle.fm_machine.{specs.Outcome.{RunOutcome, IsOutcome, outcome}, specs.declared.processor.Run.Run, proofs.RunLaws.outcome_is}
use Rattle.fm_machine.specs.declared.processor.Run.TheVariants as run
use Rattle.fm_image.{specs.Image.ImageOf, proofs.ImageLaws.spelled_reads}
use Rattle.fm_loader.{specs.Loaded.loaded, specs.Values.values_in}
use Rattle.level_debuggers.specs.Tallies.{Watching}
use Rattle.gypsy_syntax.specs.Sources.{SourceOf}
use Rattle.gypsy_space.specs.Needs.{StackSizes, stack_sizes}
use Rattle.stack_build.{specs.declared.fault.BuildFault.BuildFault, specs.Build.{BuiltOf, BuildsText, built}, specs.Implements.{FitsFormals, Implements}}
use Rattle.stack_build.{specs.Joined.{BuiltImplements, BuiltTakesValues}, specs.Meant.{KeptMeansOnly, IsMeant}, specs.Moments.KeepsMoments}
use Rattle.stack_build.proofs.MeantLaws.{not_within}
use Rattle.stack_build.specs.declared.fault.BuildFault.TheVariants as fault
use Rattle.command_line.{proofs.FileLaws.was_short, specs.declared.command.Command.Command, specs.declared.early_end.EarlyEnd.EarlyEnd}
use Rattle.command_line.{specs.declared.role.Role.TheVariants.{Source, Values, Image}, specs.CommandFiles.inputs_of, specs.Ends.end_status}
use Rattle.command_line.{specs.Gathered.{Texts, text_or_end}, specs.Roles.limit_of}
use Rattle.command_line.specs.declared.command.Command.TheVariants as command
use Rattle.command_line.specs.declared.early_end.EarlyEnd.TheVariants as early
use Rattle.command_replies.specs.declared.reply.Verdict.TheVariants as verdict
use Rattle.command_replies.{specs.Replies.{ReplyOf, status_of, verdict_line}, specs.Commands.Run.{end_reply, run_reply, values_reply, image_file_reply}}
use Rattle.stack_commands.{specs.Commands.Go.go_reply, specs.Commands.SourceText.build_verdict, specs.Prepared.reply_by}
use Rattle.cli_stack.{specs.Answer.{answer_with, answer_on, answer_to}, specs.Decides.{TellsUnfinished, IsDone, Decided, IsReadyToRun, Decides}}
use Rattle.cli_stack.{specs.FilesAndSizes.IsReadable, specs.Kept.IsRunEnd, specs.Tells.IsRead, proofs.TellsLaws.{both_there, reply_tells}}

-- 1. A run of an image that keeps to a source.

-- if the budget is used up, that is told
pub spent_told : (image : ImageOf) (values : List ValueOf) (budget : ℕ) (output : Option (List ℕ × List ℕ)) (reply : ReplyOf)
    → reply ≡ run_reply image values budget → (outcome budget image.final_pc (loaded image values)).run ≡ run.Spent
    → TellsUnfinished budget (answer_with output reply)
unfolding run_reply
spent_told image values budget output reply is spent =
    let o : RunOutcome = outcome budget image.final_pc (loaded image values) in
    let verdict : reply.verdict ≡ verdict.Unfinished budget =
    ap (λ (r : ReplyOf). r.verdict) is ∙ ap (λ (r : Run). (end_reply image budget r o.state).verdict) spent in
    let said : reply.said ≡ [] = ap (λ (r : ReplyOf). r.said) is ∙ ap (λ (r : Run). (end_reply image budget r o.state).said) spent in
    record { status = ap status_of verdict; text = λ i. said i ++ verdict_line (verdict i) }

module _ (meant : KeptMeansOnly) (image : ImageOf) (source : SourceOf) (sizes : StackSizes) (does : Implements image source sizes)
    (keeps : KeepsMoments image source sizes)
    (values : List ValueOf) (fits : FitsFormals source values) (budget : ℕ) (output : Option (List ℕ × List ℕ)) (reply : ReplyOf)
    (is : reply ≡ run_reply image values budget) where
  pub done : (count : ℕ) → count ≤ budget → (outcome budget image.final_pc (loaded image values)).run ≡ run.Ended count
      → (d : IsDone source sizes image values budget (answer_with output reply)) × (d.count ≡ count)
  done count within ended =
      let o : RunOutcome = outcome budget image.final_pc (loaded image values) in
      let first : IsOutcome (loaded image values) image.final_pc budget (run.Ended count) o.state =
      subst (λ (r : Run). IsOutcome (loaded image values) image.final_pc budget r o.state) ended (outcome_is (loaded image values) image.final_pc budget) in
      let m : IsMeant source sizes image values count o.state = (meant image source sizes keeps).ends values count o.state fits first.1 in
      let d : IsDone source sizes image values budget (answer_with output reply) =
      record {
        finals = m.finals;
        way = m.way;
        count = count;
        meant = m.finishes;
        within = within;
        tells = reply_tells image source sizes values m.finals m.way count budget output reply does fits m.finishes within is;
      } in
      (d, refl)

  pub reply_decided : Decided source sizes image values budget (answer_with output reply)
  reply_decided = record {
    either = ⊎_elim (λ ended. inl (done ended.0 ended.1 ended.2).0)
        (λ spent. inr (record {
          beyond = not_within image source sizes does values fits budget spent;
          tells = spent_told image values budget output reply is spent;
        }))
        ((meant image source sizes keeps).inside values budget fits);
    endless = λ never. spent_told image values budget output reply is ((meant image source sizes keeps).endless values budget fits never);
  }

-- 2. The files lead to it.

-- what is built of the source in a file, and that it takes the values
pub record IsRun (files : Files) (source_name values_name : List ℕ) (sizes : StackSizes) (is : IsReadyToRun files source_name values_name sizes) : Type 0 where
  pub implements : Implements is.image is.source sizes
  pub moments : KeepsMoments is.image is.source sizes
  pub fits : FitsFormals is.source is.values
  pub built_is : built is.built.text sizes.ctrl sizes.temp 0 ≡ Ok is.built.found
  pub gives : values_in is.built.found.image.slots is.values_text ≡ Ok is.values

module _ (implement : BuiltImplements) (take : BuiltTakesValues) (files : Files) where
  pub ready_runs : (source_name values_name : List ℕ) (control temporary : ℕ) (is : IsReadyToRun files source_name values_name (stack_sizes control temporary))
      → IsRun files source_name values_name (stack_sizes control temporary) is
  ready_runs source_name values_name control temporary is =
      let here = is.built in
      let sizes = stack_sizes control temporary in
      let short : length here.text ≤ 2 ^ 31 = omega (arith, here.readable.short) in
      let made : built here.text control temporary 0 ≡ Ok here.found = here.made in
      let builds : BuildsText here.text control temporary here.found = rw made at (implement here.text control temporary 0 short (omega arith)) in
      let read : Ok builds.source ≡ Ok is.source = sym builds.read ∙ here.read in
      let same : builds.source ≡ is.source = cc in
      let gives : values_in here.found.image.slots is.values_text ≡ Ok is.values =
      ap (λ (i : ImageOf). values_in i.slots is.values_text) here.same ∙ is.gives in
      record {
        implements = subst (λ (i : ImageOf). Implements i is.source sizes) here.same
            (subst (λ (s : SourceOf). Implements here.found.image s sizes) same builds.builds.implements);
        moments = subst (λ (i : ImageOf). KeepsMoments i is.source sizes) here.same
            (subst (λ (s : SourceOf). KeepsMoments here.found.image s sizes) same builds.builds.moments);
        fits = take here.text control temporary 0 is.source here.found is.values_text is.values short (omega arith) here.read made gives;
        built_is = made;
        gives = gives;
      }

  -- the reply is that of the run
  pub ready_replies : (source_name values_name : List ℕ) (control temporary budget : ℕ)
      (is : IsReadyToRun files source_name values_name (stack_sizes control temporary))
      → go_reply (built is.built.text control temporary 0) is.values_text budget ≡ run_reply is.image is.values budget
  ready_replies source_name values_name control temporary budget is =
      let r = ready_runs source_name values_name control temporary is in
      rw (r.built_is, r.gives) (ap (λ (i : ImageOf). run_reply i is.values budget) is.built.same)

  go_decided : KeptMeansOnly → (watches : List Watching) (source_name values_name image_name : List ℕ) (control temporary budget : ℕ)
      (is : IsReadyToRun files source_name values_name (stack_sizes control temporary))
      → Decided is.source (stack_sizes control temporary) is.image is.values budget
      (answer_to (command.Go source_name values_name control temporary budget image_name) watches files)
  unfolding inputs_of reply_by
  go_decided meant watches source_name values_name image_name control temporary budget is =
      let sizes = stack_sizes control temporary in
      let r = ready_runs source_name values_name control temporary is in
      subst (λ (t : Result Texts EarlyEnd). Decided is.source sizes is.image is.values budget
      (answer_on (command.Go source_name values_name control temporary budget image_name) watches t))
      (sym (both_there files (Source, source_name) (Values, values_name) is.built.text is.values_text is.built.readable is.there))
      (reply_decided meant is.image is.source sizes r.implements r.moments is.values r.fits budget
      _ (go_reply (built is.built.text control temporary 0) is.values_text budget)
      (ready_replies source_name values_name control temporary budget is))

run_decided : KeptMeansOnly → (files : Files) (watches : List Watching) (image_name values_name : List ℕ) (budget : ℕ) (sizes : StackSizes)
    (source : SourceOf) (image : ImageOf) (values_text : List ℕ) (values : List ValueOf)
    → IsRead files image_name sizes source image values → KeepsMoments image source sizes → IsReadable files Values values_name values_text
    → values_in image.slots values_text ≡ Ok values
    → Decided source sizes image values budget (answer_to (command.Run image_name values_name budget) watches files)
unfolding inputs_of reply_by
run_decided meant files watches image_name values_name budget sizes source image values_text values found keeps there gives =
    let replies : image_file_reply found.bytes values_text budget ≡ run_reply image values budget =
    rw (spelled_reads found.bytes image found.spells, gives) refl in
    subst (λ (r : Result Texts EarlyEnd). Decided source sizes image values budget (answer_on (command.Run image_name values_name budget) watches r))
    (sym (both_there files (Image, image_name) (Values, values_name) found.bytes values_text found.readable there))
    (reply_decided meant image source sizes found.implements keeps values found.fit budget _ (image_file_reply found.bytes values_text budget) replies)

-- 3. Where `go` ends as a run, all was ready.

pub early_no_run : (e : EarlyEnd) → IsRunEnd (end_status e) → ⊥
early_no_run (early.Missing name) h = h
early_no_run (early.TooLong limit) h = h
early_no_run (early.ShelfFault name) h = h
early_no_run early.OutOfMemory h = h

pub build_no_run : (f : BuildFault) → IsRunEnd (status_of (build_verdict f)) → ⊥
build_no_run (fault.Text rule place) h = h
build_no_run (fault.Form rule place) h = h
build_no_run (fault.Rule rule place) h = h
build_no_run fault.Size h = h
build_no_run (fault.Control need) h = h
build_no_run (fault.Temporary need) h = h
build_no_run (fault.Words count) h = h
build_no_run fault.Memory h = h

module _ (implement : BuiltImplements) (watches : List Watching) (files : Files) (source_name values_name image_name : List ℕ)
    (control temporary budget : ℕ) where
  ready_from : (text other : List ℕ) → IsReadable files Source source_name text → IsReadable files Values values_name other
      → (found : Result BuiltOf BuildFault) → built text control temporary 0 ≡ found → IfOk found (BuildsText text control temporary)
      → IsRunEnd (status_of (go_reply found other budget).verdict)
      → IsReadyToRun files source_name values_name (stack_sizes control temporary)
  ready_from text other there there' (Err f) is builds ends = absurd (build_no_run f ends)
  ready_from text other there there' (Ok b) is builds ends = by_values (values_in b.image.slots other) refl ends
    where
      by_values : (found : Result (List ValueOf) (ℕ × ℕ)) → values_in b.image.slots other ≡ found
          → IsRunEnd (status_of (values_reply b.image budget found).verdict) → IsReadyToRun files source_name values_name (stack_sizes control temporary)
      by_values (Err f) gives ends = absurd ends
      by_values (Ok values) gives ends = record {
        source = builds.source;
        image = b.image;
        built = record { text = text; readable = there; read = builds.read; found = b; made = is; same = refl };
        values_text = other;
        there = there';
        values = values;
        gives = gives;
      }

  go_ready : (first second : Result (List ℕ) EarlyEnd) → text_or_end (Source, source_name) (fetched files source_name (limit_of Source)) ≡ first
      → text_or_end (Values, values_name) (fetched files values_name (limit_of Values)) ≡ second
      → IsRunEnd (answer_on (command.Go source_name values_name control temporary budget image_name) watches
      (first >>= λ text. (second >>= λ other. Ok ((Values, other) ∷ [])) >>= λ texts. Ok ((Source, text) ∷ texts))).status
      → IsReadyToRun files source_name values_name (stack_sizes control temporary)
  unfolding reply_by
  go_ready (Err e) second got got' ends = absurd (early_no_run e ends)
  go_ready (Ok text) (Err e) got got' ends = absurd (early_no_run e ends)
  go_ready (Ok text) (Ok other) got got' ends =
      let file = was_short files (Source, source_name) text got in
      let values = was_short files (Values, values_name) other got' in
      let short : length text ≤ 2 ^ 31 = omega (arith, file.1) in
      ready_from text other (record { there = file.0; short = file.1 }) (record { there = values.0; short = values.1 }) (built text control temporary 0)
      refl (implement text control temporary 0 short (omega arith)) ends

-- 4. All commands.

pub decides : KeptMeansOnly → BuiltImplements → BuiltTakesValues → (c : Command) (watches : List Watching) (files : Files)
    → Decides c files (answer_to c watches files)
unfolding inputs_of
decides meant implement take (command.Go source_name values_name control temporary budget image_name) watches files = record {
  ready = λ ends. go_ready implement watches files source_name values_name image_name control temporary budget _ _ refl refl ends;
  decided = λ is. go_decided implement take files meant watches source_name values_name image_name control temporary budget is;
}
decides meant implement take (command.Run image_name values_name budget) watches files =
    λ sizes source image values_text values found keeps there gives. run_decided meant files watches image_name values_name budget sizes source image
    values_text values found keeps there gives
decides meant implement take c watches files = tt

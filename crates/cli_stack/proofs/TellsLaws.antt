-- What a command prints is what its source means.
use Rattle.std.proofs.Common.{◌≡◌, ◌≤◌, inl, inr, ℕ, zero, suc, List, [], ◌∷◌, ◌++◌, append-nil, false, Option, Some, None, Result, Ok, length, refl, sym, ap}
use Rattle.std.{proofs.Common.{◌∙◌, subst, arith}, specs.Prelude.{◌^◌, Contains, nat_lt}, proofs.lemmas.Bool.le-ltb}
use Rattle.stack_shelf.{specs.Files.Files, specs.Shelf.{fetched, within}}
use Rattle.fm_machine.{specs.Outcome.{RunOutcome, outcome}, specs.declared.processor.Run.TheVariants.Ended, proofs.RunLaws.outcome_only}
use Rattle.fm_image.{specs.Image.ImageOf, proofs.ImageLaws.spelled_reads}
use Rattle.fm_loader.{specs.Loaded.loaded, specs.Values.values_in}
use Rattle.stack_text.specs.Values.{ValueOf}
use Rattle.display_maps.specs.Report.{report_text}
use Rattle.level_debuggers.specs.Tallies.{Watching}
use Rattle.gypsy_syntax.specs.Sources.{SourceOf}
use Rattle.gypsy_space.specs.Needs.{StackSizes, stack_sizes}
use Rattle.gypsy_semantics.specs.Calls.{CurrentCondition}
use Rattle.stack_build.{specs.Build.{built, BuildsText}, specs.ComesTo.ComesTo, specs.Implements.{meaning_shown, FitsFormals, Finishes, Implements}}
use Rattle.stack_build.specs.Joined.{BuiltImplements, BuiltTakesValues}
use Rattle.command_line.{specs.declared.command.Command.Command, specs.declared.early_end.EarlyEnd.EarlyEnd, specs.declared.role.Role.Role}
use Rattle.command_line.specs.declared.role.Role.TheVariants.{Source, Piton, Image, Values, Script, Assembly, Certificate, Infix, TaskSource, TaskValues}
use Rattle.command_line.{specs.declared.role.Role.TheVariants.SessionImage, specs.declared.command.TaskFiles.TaskFiles, specs.declared.words.reader.Level.Level}
use Rattle.command_line.{specs.Roles.limit_of, specs.Gathered.{Texts, text_or_end, gathered}, specs.CommandFiles.{task_inputs, inputs_of, output_of}}
use Rattle.command_line.specs.declared.command.Command.TheVariants as command
use Rattle.command_replies.{specs.declared.reply.Verdict.Verdict, specs.declared.reply.Verdict.TheVariants.Done, specs.Replies.{ReplyOf, status_of}}
use Rattle.command_replies.{specs.Replies.verdict_line, specs.Commands.Run.{outcome_reply, run_reply, image_file_reply}}
use Rattle.stack_commands.{specs.Commands.Go.go_reply, specs.Prepared.reply_by}
use Rattle.cli_stack.{specs.Answer.{answer_with, answer_on, answer_to}, specs.Tells.{IsBuilt, IsRead, TellsReport, HasImage, TellsMeanings}}
use Rattle.cli_stack.{specs.FilesAndSizes.IsReadable, proofs.RoleLaws.{only_role, both_roles, three_roles}}

-- 1. A run that is long enough tells the meaning.

run_tells : (image : ImageOf) (source : SourceOf) (values finals : List ValueOf) (way : CurrentCondition) (count budget : ℕ)
    → ComesTo image values count (meaning_shown source finals way) → count ≤ budget
    → ((run_reply image values budget).verdict ≡ Done) × ((run_reply image values budget).said ≡ report_text image (meaning_shown source finals way) count)
unfolding run_reply
run_tells image source values finals way count budget end enough =
    let is : outcome budget image.final_pc (loaded image values) ≡ record { run = Ended count; state = end.state } =
    outcome_only (loaded image values) image.final_pc budget (Ended count) end.state (enough, end.first) in (
      ap (λ (o : RunOutcome). (outcome_reply image budget o).verdict) is,
      ap (λ (o : RunOutcome). (outcome_reply image budget o).said) is
          ∙ ap (λ r. report_text image r count) end.reads,
    )

-- so does the answer that has its reply
pub end_tells : (image : ImageOf) (source : SourceOf) (values finals : List ValueOf) (way : CurrentCondition) (count budget : ℕ)
    (output : Option (List ℕ × List ℕ)) (reply : ReplyOf) → ComesTo image values count (meaning_shown source finals way)
    → count ≤ budget → reply ≡ run_reply image values budget
    → TellsReport source image finals way count (answer_with output reply)
end_tells image source values finals way count budget output reply end enough is =
    let ends = run_tells image source values finals way count budget end enough in
    let verdict : reply.verdict ≡ Done = ap (λ (r : ReplyOf). r.verdict) is ∙ ends.0 in
    let said : reply.said ≡ report_text image (meaning_shown source finals way) count = ap (λ (r : ReplyOf). r.said) is ∙ ends.1 in
    record {
      status = ap status_of verdict;
      text = ap (λ (v : Verdict). reply.said ++ verdict_line v) verdict ∙ append-nil reply.said ∙ said;
    }

-- and so it is of an image that implements the source
pub reply_tells : (image : ImageOf) (source : SourceOf) (sizes : StackSizes) (values finals : List ValueOf) (way : CurrentCondition) (count budget : ℕ)
    (output : Option (List ℕ × List ℕ)) (reply : ReplyOf) → Implements image source sizes → FitsFormals source values
    → Finishes source sizes values finals way count → count ≤ budget → reply ≡ run_reply image values budget
    → TellsReport source image finals way count (answer_with output reply)
reply_tells image source sizes values finals way count budget output reply does fits done enough is =
    end_tells image source values finals way count budget output reply (does values finals way count fits done) enough is

-- 2. The files lead to it.

pub is_there : (files : Files) (input : Role × List ℕ) (text : List ℕ) → IsReadable files input.0 input.1 text
    → text_or_end input (fetched files input.1 (limit_of input.0)) ≡ Ok text
is_there files input text readable =
    let long : nat_lt (limit_of input.0) (length text) ≡ false = le-ltb (limit_of input.0) (length text) readable.short in
    ap (λ (o : Option (List ℕ)). text_or_end input (within (limit_of input.0) o)) readable.there ∙ rw long refl

-- two files are there
pub both_there : (files : Files) (first second : Role × List ℕ) (text other : List ℕ) → IsReadable files first.0 first.1 text
    → IsReadable files second.0 second.1 other
    → gathered files (first ∷ second ∷ []) ≡ Ok ((first.0, text) ∷ (second.0, other) ∷ [])
both_there files first second text other there there' = rw (is_there files first text there, is_there files second other there') refl

module _ (files : Files) (sizes : StackSizes) (source : SourceOf) (image : ImageOf) (values_text : List ℕ) (values finals : List ValueOf)
    (way : CurrentCondition) (count budget : ℕ)
    (watches : List Watching) (gives : values_in image.slots values_text ≡ Ok values) (done : Finishes source sizes values finals way count)
    (enough : count ≤ budget) where
  pub go_tells : BuiltImplements → BuiltTakesValues → (source_name values_name image_name : List ℕ) (control temporary : ℕ)
      → stack_sizes control temporary ≡ sizes
      → IsBuilt files source_name sizes source image → IsReadable files Values values_name values_text
      → TellsReport source image finals way count (answer_to (command.Go source_name values_name control temporary budget image_name) watches files)
  unfolding inputs_of reply_by
  go_tells implement take source_name values_name image_name control temporary own made there =
      let here : IsBuilt files source_name (stack_sizes control temporary) source image =
      subst (λ (s : StackSizes). IsBuilt files source_name s source image) (sym own) made in
      let short : length here.text ≤ 2 ^ 31 = omega (arith, here.readable.short) in
      let is : built here.text control temporary 0 ≡ Ok here.found = here.made in
      let builds : BuildsText here.text control temporary here.found = rw is at (implement here.text control temporary 0 short (omega arith)) in
      let read : Ok builds.source ≡ Ok source = sym builds.read ∙ here.read in
      let same : builds.source ≡ source = cc in
      let does : Implements image source (stack_sizes control temporary) =
      subst (λ (i : ImageOf). Implements i source (stack_sizes control temporary)) here.same
      (subst (λ (s : SourceOf). Implements here.found.image s (stack_sizes control temporary)) same builds.builds.implements) in
      let found : values_in here.found.image.slots values_text ≡ Ok values = ap (λ (i : ImageOf). values_in i.slots values_text) here.same ∙ gives in
      let fits = take here.text control temporary 0 source here.found values_text values short (omega arith) here.read is found in
      let done_here : Finishes source (stack_sizes control temporary) values finals way count =
      subst (λ (s : StackSizes). Finishes source s values finals way count) (sym own) done in
      let replies : go_reply (built here.text control temporary 0) values_text budget ≡ run_reply image values budget =
      rw (is, found) (ap (λ (i : ImageOf). run_reply i values budget) here.same) in
      subst (λ (r : Result Texts EarlyEnd). TellsReport source image finals way count
      (answer_on (command.Go source_name values_name control temporary budget image_name) watches r))
      (sym (both_there files (Source, source_name) (Values, values_name) here.text values_text here.readable there))
      (reply_tells image source (stack_sizes control temporary) values finals way count budget
      _ (go_reply (built here.text control temporary 0) values_text budget) does fits done_here enough replies)

  read_tells : (image_name values_name : List ℕ) → IsRead files image_name sizes source image values → IsReadable files Values values_name values_text
      → TellsReport source image finals way count (answer_to (command.Run image_name values_name budget) watches files)
  unfolding inputs_of reply_by
  read_tells image_name values_name found there =
      let replies : image_file_reply found.bytes values_text budget ≡ run_reply image values budget =
      rw (spelled_reads found.bytes image found.spells, gives) refl in
      subst (λ (r : Result Texts EarlyEnd). TellsReport source image finals way count (answer_on (command.Run image_name values_name budget) watches r))
      (sym (both_there files (Image, image_name) (Values, values_name) found.bytes values_text found.readable there))
      (reply_tells image source sizes values finals way count budget _ (image_file_reply found.bytes values_text budget) found.implements found.fit done
      enough replies)

-- 3. All commands.

-- a name that is read for values, after a file of another role, is the name of the values
values_name : (role : Role) (first second name : List ℕ) → (role ≡ Values → ⊥) → Contains {X = Role × List ℕ} ((role, first) ∷ (Values, second) ∷ [])
    (Values, name) → second ≡ name
values_name role first second name other (zero, lt, is) = absurd (other (ap (λ (f : Role × List ℕ). f.0) is))
values_name role first second name other (suc zero, lt, is) = ap (λ (f : Role × List ℕ). f.1) is
values_name role first second name other (suc (suc i), lt, is) = absurd (omega arith)

-- the values of tasks have a role of their own
tasks_no_values : (tasks : List TaskFiles) (name : List ℕ) → Contains (task_inputs tasks) (Values, name) → ⊥
tasks_no_values [] name (i, lt, is) = omega (arith, lt)
tasks_no_values (task ∷ tasks) name (zero, lt, is) = let e : TaskSource ≡ Values = ap (λ (f : Role × List ℕ). f.0) is in cc
tasks_no_values (task ∷ tasks) name (suc zero, lt, is) = let e : TaskValues ≡ Values = ap (λ (f : Role × List ℕ). f.0) is in cc
tasks_no_values (task ∷ tasks) name (suc (suc i), lt, is) = tasks_no_values tasks name (i, omega (arith, lt), is)

-- `mean` has no image
mean_has_none : (source_name values_file : List ℕ) (control temporary limit : ℕ) → HasImage (command.Mean source_name values_file control temporary limit) → ⊥
unfolding inputs_of output_of
mean_has_none source_name values_file control temporary limit (inl (name, (zero, lt, is))) = let e : Source ≡ Image = ap (λ (f : Role × List ℕ). f.0) is in cc
mean_has_none source_name values_file control temporary limit (inl (name, (suc zero, lt, is))) =
    let e : Values ≡ Image = ap (λ (f : Role × List ℕ). f.0) is in cc
mean_has_none source_name values_file control temporary limit (inl (name, (suc (suc i), lt, is))) = omega (arith, lt)
mean_has_none source_name values_file control temporary limit (inr (name, is)) = let e : None ≡ Some (Image, name) = is in cc

-- nor has `debug`
debug_has_none : (level : Level) (source_name values_file : List ℕ) (control temporary : ℕ) (script : List ℕ)
    → HasImage (command.Debug level source_name values_file control temporary script) → ⊥
unfolding inputs_of output_of
debug_has_none level source_name values_file control temporary script (inl (name, reads)) =
    three_roles Image Source Values Script source_name values_file script name (λ e. cc) (λ e. cc) (λ e. cc) reads
debug_has_none level source_name values_file control temporary script (inr (name, is)) = let e : None ≡ Some (Image, name) = is in cc

-- nor `idebug`, whose image has a role of its own
idebug_has_none : (image_name values_file script : List ℕ) → HasImage (command.Idebug image_name values_file script) → ⊥
unfolding inputs_of output_of
idebug_has_none image_name values_file script (inl (name, reads)) =
    three_roles Image SessionImage Values Script image_name values_file script name (λ e. cc) (λ e. cc) (λ e. cc) reads
idebug_has_none image_name values_file script (inr (name, is)) = let e : None ≡ Some (Image, name) = is in cc

pub tells : BuiltImplements → BuiltTakesValues → (c : Command) (watches : List Watching) (files : Files) → TellsMeanings c files (answer_to c watches files)
unfolding inputs_of
tells implement take (command.Check source_name) watches files = λ name reads has. absurd (only_role Values Source source_name name (λ e. cc) reads)
tells implement take (command.Mean source_name values_file control temporary limit) watches files =
    λ name reads has. absurd (mean_has_none source_name values_file control temporary limit has)
tells implement take (command.Pit source_name control temporary piton_name) watches files =
    λ name reads has. absurd (only_role Values Source source_name name (λ e. cc) reads)
tells implement take (command.Build source_name control temporary image_name) watches files =
    λ name reads has. absurd (only_role Values Source source_name name (λ e. cc) reads)
tells implement take (command.Pcheck piton_name) watches files = λ name reads has. absurd (only_role Values Piton piton_name name (λ e. cc) reads)
tells implement take (command.Prun piton_name limit) watches files = λ name reads has. absurd (only_role Values Piton piton_name name (λ e. cc) reads)
tells implement take (command.Pbuild piton_name image_name) watches files = λ name reads has. absurd (only_role Values Piton piton_name name (λ e. cc) reads)
tells implement take (command.Run image_name values_file budget) watches files = λ name reads has. (
  values_name Image image_name values_file name (λ e. cc) reads,
  λ sizes source image values_text values finals way count found there gives done enough.
      read_tells files sizes source image values_text values finals way count budget watches gives done enough image_name values_file found there,
)
tells implement take (command.Go source_name values_file control temporary budget image_name) watches files = λ name reads has. (
  values_name Source source_name values_file name (λ e. cc) reads,
  λ sizes source image values_text values finals way count program there gives done enough.
      go_tells files sizes source image values_text values finals way count budget watches gives done enough implement take source_name values_file
      image_name control temporary program.0 program.1 there,
)
tells implement take (command.Show image_name) watches files = λ name reads has. absurd (only_role Values Image image_name name (λ e. cc) reads)
tells implement take (command.Migrate image_name output) watches files = λ name reads has. absurd (only_role Values Image image_name name (λ e. cc) reads)
tells implement take (command.Asm assembly image_name) watches files = λ name reads has. absurd (only_role Values Assembly assembly name (λ e. cc) reads)
tells implement take (command.Unasm image_name assembly) watches files = λ name reads has. absurd (only_role Values Image image_name name (λ e. cc) reads)
tells implement take (command.Need source_name certificate) watches files = λ name reads has. absurd (only_role Values Source source_name name (λ e. cc) reads)
tells implement take (command.Cert source_name certificate control temporary) watches files =
    λ name reads has. absurd (both_roles Values Source Certificate source_name certificate name (λ e. cc) (λ e. cc) reads)
tells implement take (command.Debug level source_name values_file control temporary script) watches files =
    λ name reads has. absurd (debug_has_none level source_name values_file control temporary script has)
tells implement take (command.Pdebug piton_name script) watches files =
    λ name reads has. absurd (both_roles Values Piton Script piton_name script name (λ e. cc) (λ e. cc) reads)
tells implement take (command.Idebug image_name values_file script) watches files =
    λ name reads has. absurd (idebug_has_none image_name values_file script has)
tells implement take (command.Turns turn budget control temporary tasks) watches files = λ name reads has. absurd (tasks_no_values tasks name reads)
tells implement take (command.Mini program stored) watches files = λ name reads has. absurd (only_role Values Infix program name (λ e. cc) reads)
tells implement take (command.Quick source_name control temporary image_name) watches files =
    λ name reads has. absurd (only_role Values Source source_name name (λ e. cc) reads)
tells implement take c watches files = λ name reads has. absurd (nothing name reads)
  where
    nothing : (name : List ℕ) → Contains {X = Role × List ℕ} [] (Values, name) → ⊥
    nothing name (i, lt, is) = omega arith

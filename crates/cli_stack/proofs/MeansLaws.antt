-- What `mean` tells is what its source means.
use Rattle.std.proofs.Common.{◌≡◌, ◌≤◌, ℕ, zero, suc, false, List, [], ◌∷◌, ◌++◌, append-nil, Option, Some, None, Result, Ok, refl, sym, ap, ◌∙◌, subst, arith}
use Rattle.std.{specs.Prelude.nat_lt, proofs.lemmas.Bool.le-ltb}
use Rattle.stack_text.{specs.Values.ValueOf, specs.Results.◌>>=◌}
use Rattle.stack_shelf.specs.Files.{Files}
use Rattle.fm_loader.specs.Values.{values_in}
use Rattle.gypsy_syntax.{specs.Sources.SourceOf, specs.Programs.Program, specs.Resolved.program_of}
use Rattle.gypsy_space.specs.Needs.{StackSizes, stack_sizes, main_need}
use Rattle.gypsy_semantics.{specs.declared.answers.MeanRun.MeanRun, specs.declared.answers.Moved.Moved, specs.Views.RunAgrees.{MeansEnd, EndAgrees, RunAgrees}}
use Rattle.gypsy_semantics.{specs.Room.Suffices, specs.Calls.CurrentCondition, specs.Counted.instruction_count, specs.Meaning.{Done as MeaningDone, meaning}}
use Rattle.gypsy_semantics.specs.Views.RunView.{Seen, Ran, Stage, Running, Finished, IsOfRun, IsEnd, answer_from, answer_of, end_by, left_from, left_of}
use Rattle.gypsy_semantics.{specs.Views.RunView.{opening, ran_on, meaning_run, values_at}, specs.Views.Shown.{condition_at, names_at}}
use Rattle.gypsy_semantics.{proofs.ReachLaws.{opening_reached, completes}, proofs.RunLaws.run_agrees, proofs.SeenLaws.run_same}
use Rattle.gypsy_semantics.specs.declared.answers.MeanRun.TheVariants as run
use Rattle.gypsy_semantics.specs.declared.answers.Moved.TheVariants as moved
use Rattle.level_debuggers.specs.Tallies.{Watching}
use Rattle.stack_build.{specs.declared.start_fault.StartFault.StartFault, specs.Starts.{or_values, shortage_of, unless_short, gypsy_start}}
use Rattle.stack_build.{specs.declared.fault.BuildFault.BuildFault, specs.Build.accepted_source, specs.Image.formal_slots}
use Rattle.command_line.{specs.declared.command.Command.Command, specs.declared.early_end.EarlyEnd.EarlyEnd, specs.declared.role.Role.Role}
use Rattle.command_line.specs.declared.role.Role.TheVariants.{Source, Piton, Image, Values, Script, Assembly, Certificate, Infix, QuickImage, SessionImage}
use Rattle.command_line.{specs.declared.command.TaskFiles.TaskFiles, specs.declared.status.Status.TheVariants.Done, specs.Gathered.Texts}
use Rattle.command_line.specs.CommandFiles.{task_inputs, inputs_of, output_of}
use Rattle.command_line.specs.declared.command.Command.TheVariants as command
use Rattle.command_replies.{specs.declared.reply.Verdict.Verdict, specs.Replies.{ReplyOf, status_of, verdict_line}}
use Rattle.command_replies.specs.declared.reply.Verdict.TheVariants as verdict
use Rattle.stack_commands.{specs.Commands.SourceText.{unless_refused, accepted_in}, specs.Commands.Mean.{said_text, mean_end_reply, mean_run_reply}}
use Rattle.stack_commands.{specs.Commands.Mean.{mean_started_reply, mean_accepted_reply, mean_reply}, specs.Prepared.reply_by}
use Rattle.cli_stack.{specs.Answer.{answer_with, answer_on, answer_to}, specs.FilesAndSizes.IsReadable, specs.Means.{meaning_text, MeansInSteps, TellsSteps}}
use Rattle.cli_stack.{specs.Means.{Follows, FollowsMeanings}, proofs.TellsLaws.both_there}

-- 1. A reply.

-- a verdict is that all went well where its status is
done_only : (v : Verdict) → status_of v ≡ Done → v ≡ verdict.Done
done_only verdict.Done e = refl
done_only v e = absurd cc

-- what a reply tells
record Told (source : SourceOf) (sizes : StackSizes) (values finals : List ValueOf) (way : CurrentCondition) (reply : ReplyOf) : Type 0 where
  pub steps : ℕ
  pub count : ℕ
  pub meant : MeansInSteps source sizes values finals way steps count
  pub verdict : reply.verdict ≡ verdict.Done
  pub said : reply.said ≡ meaning_text source (Finished finals way) steps count

-- so does the answer that has the reply
answer_tells : (source : SourceOf) (sizes : StackSizes) (values finals : List ValueOf) (way : CurrentCondition) (output : Option (List ℕ × List ℕ))
    (reply : ReplyOf) → Told source sizes values finals way reply → TellsSteps source sizes values finals way (answer_with output reply)
answer_tells source sizes values finals way output reply told = record {
  steps = told.steps;
  count = told.count;
  meant = told.meant;
  status = ap status_of told.verdict;
  text = ap (λ (v : Verdict). reply.said ++ verdict_line v) told.verdict ∙ append-nil reply.said ∙ told.said;
}

-- a run of which the end agrees with the meaning
end_told : (source : SourceOf) (sizes : StackSizes) (values finals : List ValueOf) (way : CurrentCondition) (limit : ℕ) (a : MeanRun) (w : Seen)
    → a ≡ run.Ended → w.stage ≡ Finished finals way → MeansEnd w finals way
    → IsOfRun (opening (program_of source) sizes values) w → Told source sizes values finals way (mean_end_reply source limit a w)
end_told source sizes values finals way limit a w ended stage means same =
    let program = same.program in
    let own = same.sizes in
    let from = same.values in
    record {
      steps = means.made;
      count = means.count;
      meant = record {
        meaning_is = ap (λ (q : Program). meaning q sizes values (suc means.made)) (sym program)
            ∙ ap (λ (z : StackSizes). meaning w.program z values (suc means.made)) (sym own)
            ∙ ap (λ (v : List ValueOf). meaning w.program w.sizes v (suc means.made)) (sym from)
            ∙ means.meaning_is;
        counted = ap (λ (q : Program). instruction_count q sizes values (suc means.made)) (sym program)
            ∙ ap (λ (z : StackSizes). instruction_count w.program z values (suc means.made)) (sym own)
            ∙ ap (λ (v : List ValueOf). instruction_count w.program w.sizes v (suc means.made)) (sym from)
            ∙ means.count_is;
      };
      verdict = ap (λ (b : MeanRun). (mean_end_reply source limit b w).verdict) ended;
      said = ap (λ (b : MeanRun). (mean_end_reply source limit b w).said) ended
          ∙ (let steps = means.steps in
          let counted = means.counted in
          λ i. said_text (steps i) (counted i) (condition_at source (stage i)) (names_at source (stage i)) (values_at (stage i)));
    }

-- a run that ends within so many steps ends so within more
module _ (x : List ValueOf) (c : CurrentCondition) where
  go_further : (m : Moved) (v : Seen) (k limit : ℕ) → ((w : Seen) → IsEnd (meaning_run k w) x c → IsEnd (meaning_run limit w) x c)
      → IsEnd (ran_on m v (meaning_run k)) x c
      → IsEnd (ran_on m v (meaning_run limit)) x c
  go_further moved.Moved v k limit rest ends = rest v ends
  go_further moved.Ended v k limit rest ends = ends

  over_already : (limit : ℕ) (v : Seen) (s : Stage) → IsEnd (record { run = end_by s; seen = v }) x c
      → IsEnd (ran_on (answer_from v s) (left_from v s) (meaning_run limit)) x c
  over_already limit v (Running g) ends = absurd (let never : run.Spent ≡ run.Ended = ends.run in cc)
  over_already limit v (Finished y d) ends = ends

  longer : (k limit : ℕ) (v : Seen) → k ≤ limit → IsEnd (meaning_run k v) x c → IsEnd (meaning_run limit v) x c
  unfolding meaning_run answer_of left_of
  longer zero zero v le ends = ends
  longer zero (suc limit) v le ends = over_already limit v v.stage ends
  longer (suc k) zero v le ends = absurd (omega (arith, le))
  longer (suc k) (suc limit) v le ends = go_further (answer_of v) (left_of v) k limit (λ w. longer k limit w (omega (arith, le))) ends

module _ (source : SourceOf) (sizes : StackSizes) (values : List ValueOf) (limit : ℕ) where
  by_stage : (a : MeanRun) (w : Seen) (s : Stage) → a ≡ run.Ended → w.stage ≡ s → EndAgrees w s → IsOfRun (opening (program_of source) sizes values) w
      → (finals : List ValueOf) × (way : CurrentCondition) × Told source sizes values finals way (mean_end_reply source limit a w)
  by_stage a w (Running g) ended stage agrees same = absurd agrees
  by_stage a w (Finished x c) ended stage agrees same = (x, c, end_told source sizes values x c limit a w ended stage agrees same)

  by_run : (a : MeanRun) (w : Seen) → RunAgrees w a → IsOfRun (opening (program_of source) sizes values) w
      → (mean_end_reply source limit a w).verdict ≡ verdict.Done
      → (finals : List ValueOf) × (way : CurrentCondition) × Told source sizes values finals way (mean_end_reply source limit a w)
  by_run run.Ended w agrees same e = by_stage run.Ended w w.stage refl refl agrees same
  by_run run.Spent w agrees same e = absurd cc

  -- what is told is a meaning
  run_told : (mean_run_reply source (opening (program_of source) sizes values) limit).verdict ≡ verdict.Done
      → (finals : List ValueOf) × (way : CurrentCondition) × Told source sizes values finals way
      (mean_run_reply source (opening (program_of source) sizes values) limit)
  unfolding mean_run_reply
  run_told e =
      let from : Seen = opening (program_of source) sizes values in
      let r : Ran = meaning_run limit from in
      by_run r.run r.seen (run_agrees limit from (opening_reached (program_of source) sizes values)) (run_same limit from) e

  -- a meaning that is done is told
  ended_told : (a : MeanRun) (w : Seen) (x : List ValueOf) (c : CurrentCondition) → a ≡ run.Ended → w.stage ≡ Finished x c → RunAgrees w a
      → IsOfRun (opening (program_of source) sizes values) w
      → Told source sizes values x c (mean_end_reply source limit a w)
  ended_told a w x c ended stage agrees same =
      let at_end : RunAgrees w run.Ended = subst (λ (b : MeanRun). RunAgrees w b) ended agrees in
      let means : EndAgrees w (Finished x c) = subst (λ (s : Stage). EndAgrees w s) stage at_end in
      end_told source sizes values x c limit a w ended stage means same

  -- a run that ends within the limit is told
  run_within : (k : ℕ) (x : List ValueOf) (c : CurrentCondition) → k ≤ limit → IsEnd (meaning_run k (opening (program_of source) sizes values)) x c
      → Told source sizes values x c (mean_run_reply source (opening (program_of source) sizes values) limit)
  unfolding mean_run_reply
  run_within k x c le ends =
      let from : Seen = opening (program_of source) sizes values in
      let r : Ran = meaning_run limit from in
      let end : IsEnd r x c = longer x c k limit from le ends in
      ended_told r.run r.seen x c end.run end.stage (run_agrees limit from (opening_reached (program_of source) sizes values)) (run_same limit from)

  -- a meaning that is done is that of a run that ends
  run_ends : (bound : ℕ) (x : List ValueOf) (c : CurrentCondition) → meaning (program_of source) sizes values bound ≡ MeaningDone x c
      → (k : ℕ) × IsEnd (meaning_run k (opening (program_of source) sizes values)) x c
  run_ends bound x c done =
      let from : Seen = opening (program_of source) sizes values in
      let found = completes x c from bound (opening_reached (program_of source) sizes values) done in
      let same : found.0 ≤ found.0 = omega arith in
      (found.0, found.1 found.0 same)

  reply_follows : (output : Option (List ℕ × List ℕ)) (reply : ReplyOf) → reply ≡ mean_run_reply source (opening (program_of source) sizes values) limit
      → Follows source sizes values limit (answer_with output reply)
  reply_follows output reply is =
      subst (λ (r : ReplyOf). Follows source sizes values limit (answer_with output r)) (sym is) record {
        told = λ status.
            let found = run_told (done_only _ status) in
            (found.0, found.1, answer_tells source sizes values found.0 found.1 output _ found.2);
        within = λ k x c le ends. answer_tells source sizes values x c output _ (run_within k x c le ends);
        ends = run_ends;
      }

-- 2. The files lead to it.

module _ (watches : List Watching) (files : Files) (text values_text : List ℕ) (source : SourceOf) (values : List ValueOf) where
  mean_is : (control temporary limit : ℕ) → accepted_source text ≡ Ok source → Suffices (program_of source) (stack_sizes control temporary)
      → values_in (formal_slots source) values_text ≡ Ok values
      → mean_reply text values_text control temporary limit ≡ mean_run_reply source (opening (program_of source) (stack_sizes control temporary) values) limit
  unfolding accepted_in gypsy_start
  mean_is control temporary limit read enough found =
      let need : StackSizes = main_need (program_of source) in
      let sizes : StackSizes = stack_sizes control temporary in
      let c : nat_lt control need.ctrl ≡ false = le-ltb control need.ctrl enough.ctrl in
      let t : nat_lt temporary need.temp ≡ false = le-ltb temporary need.temp enough.temp in
      let none : shortage_of need sizes ≡ None = rw (c, t) refl in
      let begins : Result (List ValueOf) (ℕ × ℕ) → Result Seen StartFault = λ v. or_values v >>= λ values. Ok (opening (program_of source) sizes values) in
      ap (λ (r : Result SourceOf _). mean_accepted_reply (unless_refused r) sizes values_text limit) read
      ∙ ap (λ (o : Option BuildFault). mean_started_reply source limit (unless_short o (begins (values_in (formal_slots source) values_text)))) none
      ∙ ap (λ (v : Result (List ValueOf) (ℕ × ℕ)). mean_started_reply source limit (begins v)) found

  mean_follows : (source_name values_name : List ℕ) (control temporary limit : ℕ) → IsReadable files Source source_name text → accepted_source text ≡ Ok source
      → Suffices (program_of source) (stack_sizes control temporary) → IsReadable files Values values_name values_text
      → values_in (formal_slots source) values_text ≡ Ok values
      → Follows source (stack_sizes control temporary) values limit (answer_to (command.Mean source_name values_name control temporary limit) watches files)
  unfolding inputs_of reply_by
  mean_follows source_name values_name control temporary limit there read enough there' found =
      subst (λ (r : Result Texts EarlyEnd). Follows source (stack_sizes control temporary) values limit
      (answer_on (command.Mean source_name values_name control temporary limit) watches r))
      (sym (both_there files (Source, source_name) (Values, values_name) text values_text there there'))
      (reply_follows source (stack_sizes control temporary) values limit _ (mean_reply text values_text control temporary limit)
      (mean_is control temporary limit read enough found))

-- 3. All commands.

abbrev first_role : List (Role × List ℕ) → Role
first_role [] = Piton
first_role (f ∷ fs) = f.0

abbrev pub first_name : List (Role × List ℕ) → List ℕ
first_name [] = []
first_name (f ∷ fs) = f.1

abbrev pub others : List (Role × List ℕ) → List (Role × List ℕ)
others [] = []
others (f ∷ fs) = fs

pub means : (c : Command) (watches : List Watching) (files : Files) → FollowsMeanings c files (answer_to c watches files)
unfolding inputs_of output_of
means (command.Check source_name) watches files = λ source values reads writes. absurd (let e : [] ≡ (Values, values) ∷ [] = ap others reads in cc)
means (command.Mean source_name values_name control temporary limit) watches files = λ source values reads writes. (
  ap first_name reads,
  ap (λ (fs : List (Role × List ℕ)). first_name (others fs)) reads,
  λ text s values_text v there read enough there' found. mean_follows watches files text values_text s v source_name values_name control temporary limit
      there read enough there' found,
)
means (command.Pit source_name control temporary piton) watches files = λ source values reads writes. absurd (let e : Some (Piton, piton) ≡ None = writes in cc)
means (command.Build source_name control temporary image) watches files =
    λ source values reads writes. absurd (let e : Some (Image, image) ≡ None = writes in cc)
means (command.Pcheck piton) watches files = λ source values reads writes. absurd (let e : Piton ≡ Source = ap first_role reads in cc)
means (command.Prun piton limit) watches files = λ source values reads writes. absurd (let e : Piton ≡ Source = ap first_role reads in cc)
means (command.Pbuild piton image) watches files = λ source values reads writes. absurd (let e : Some (Image, image) ≡ None = writes in cc)
means (command.Run image values_name budget) watches files = λ source values reads writes. absurd (let e : Image ≡ Source = ap first_role reads in cc)
means (command.Go source_name values_name control temporary budget image) watches files =
    λ source values reads writes. absurd (let e : Some (Image, image) ≡ None = writes in cc)
means (command.Show image) watches files = λ source values reads writes. absurd (let e : Image ≡ Source = ap first_role reads in cc)
means (command.Migrate image output) watches files = λ source values reads writes. absurd (let e : Image ≡ Source = ap first_role reads in cc)
means (command.Asm assembly image) watches files = λ source values reads writes. absurd (let e : Assembly ≡ Source = ap first_role reads in cc)
means (command.Unasm image assembly) watches files = λ source values reads writes. absurd (let e : Image ≡ Source = ap first_role reads in cc)
means (command.Need source_name certificate) watches files = λ source values reads writes. absurd (let e : [] ≡ (Values, values) ∷ [] = ap others reads in cc)
means (command.Cert source_name certificate control temporary) watches files =
    λ source values reads writes. absurd (let e : Certificate ≡ Values = ap (λ (fs : List (Role × List ℕ)). first_role (others fs)) reads in cc)
means (command.Debug level source_name values_name control temporary script) watches files =
    λ source values reads writes. absurd (let e : (Script, script) ∷ [] ≡ [] = ap (λ (fs : List (Role × List ℕ)). others (others fs)) reads in cc)
means (command.Idebug image values_name script) watches files = λ source values reads writes. absurd (let e : SessionImage ≡ Source = ap first_role reads in cc)
means (command.Turns turn budget control temporary tasks) watches files = λ source values reads writes. absurd (no_source tasks (ap first_role reads))
  where
    no_source : (tasks : List TaskFiles) → first_role (task_inputs tasks) ≡ Source → ⊥
    no_source [] e = cc
    no_source (task ∷ tasks) e = cc
means (command.Mini program stored) watches files = λ source values reads writes. absurd (let e : Infix ≡ Source = ap first_role reads in cc)
means (command.Quick source_name control temporary image) watches files =
    λ source values reads writes. absurd (let e : Some (QuickImage, image) ≡ None = writes in cc)
means c watches files = λ source values reads writes. absurd (let e : Piton ≡ Source = ap first_role reads in cc)

-- A larger budget changes no answer of a run that came to an end.
use Rattle.std.proofs.Common.{◌≡◌, ◌≢◌, ◌≤◌, ◌+◌, ◌++◌, ℕ, zero, suc, Bool, true, false, List, [], ◌∷◌, None, Result, Ok, Err, refl, sym, ap, ◌∙◌, arith}
use Rattle.std.{specs.List.list_all, proofs.lemmas.Bool.{and_from, and_parts}}
use Rattle.stack_text.{specs.Results.◌>>=◌, specs.Values.ValueOf}
use Rattle.level_debuggers.specs.Tallies.{Watching}
use Rattle.fm_machine.{specs.State.Fm, specs.Outcome.{IsOutcome, RunOutcome, outcome}, specs.declared.processor.Run.Run, proofs.RunLaws.outcome_is}
use Rattle.fm_machine.proofs.RunLaws.{outcome_only}
use Rattle.fm_machine.specs.declared.processor.Run.TheVariants as run
use Rattle.fm_image.{specs.Image.ImageOf, specs.Reading.read_of}
use Rattle.fm_loader.{specs.Loaded.loaded, specs.Values.values_in}
use Rattle.fm_turns.{specs.EqualTurns.whole_run, specs.Starting.NewTask}
use Rattle.piton_check.{specs.Instruction.SystemView, specs.PitonChecking.CheckedOf}
use Rattle.piton_semantics.{specs.declared.error_kind.ErrorKind.ErrorKind, specs.declared.stepped.PitonRun.PitonRun, specs.Fits.system_in}
use Rattle.piton_semantics.{specs.StateView.{state_run, seen_step}, proofs.SeenLaws.stays}
use Rattle.piton_semantics.specs.declared.stepped.PitonRun.TheVariants as piton_run
use Rattle.piton_semantics.specs.StateView as piton
use Rattle.piton_semantics.specs.State as piton_state
use Rattle.piton_syntax.specs.Systems.{SystemOf}
use Rattle.gypsy_syntax.specs.Sources.{SourceOf}
use Rattle.gypsy_space.specs.Needs.{StackSizes, stack_sizes}
use Rattle.gypsy_semantics.{specs.declared.answers.MeanRun.MeanRun, specs.declared.answers.Moved.Moved, specs.Views.RunView.{Seen, Stage, Running, Finished}}
use Rattle.gypsy_semantics.specs.Views.RunView.{answer_from, answer_of, end_by, left_from, left_of, meaning_run, ran_on}
use Rattle.gypsy_semantics.specs.declared.answers.MeanRun.TheVariants as mean_run
use Rattle.gypsy_semantics.specs.declared.answers.Moved.TheVariants as moved
use Rattle.stack_build.{specs.Starts.gypsy_start, specs.declared.start_fault.StartFault.StartFault, specs.declared.fault.BuildFault.BuildFault}
use Rattle.stack_build.specs.Build.{BuiltOf, built}
use Rattle.command_line.specs.declared.command.Command.TheVariants as command
use Rattle.command_line.{specs.declared.command.TaskFiles.TaskFiles, specs.declared.early_end.EarlyEnd.EarlyEnd, specs.declared.role.Role.TheVariants.Source}
use Rattle.command_line.{specs.declared.role.Role.TheVariants.{Piton, Values, Image, TaskSource, TaskValues}, specs.declared.status.Status.TheVariants.Done}
use Rattle.command_line.{specs.declared.status.Status.TheVariants.Unfinished, specs.CommandFiles.{inputs_of, output_of, task_inputs}, specs.Gathered.Texts}
use Rattle.command_line.specs.Gathered.{gathered, text_of, texts_of}
use Rattle.command_replies.{specs.declared.reply.Verdict.Verdict, specs.Replies.{ReplyOf, reply_text, status_of}, specs.Commands.PitonText.checked_in}
use Rattle.command_replies.{specs.Commands.Prun.{checked_run_reply, ran_reply, run_end_reply, system_run_reply}, specs.Commands.Run.{end_reply, outcome_reply}}
use Rattle.command_replies.specs.Commands.Run.{run_reply, values_reply, image_reply}
use Rattle.stack_commands.{specs.declared.turns.tasks.TasksFault.TasksFault, specs.Commands.Go.go_reply, specs.Commands.Mean.mean_accepted_reply}
use Rattle.stack_commands.{specs.Commands.Mean.{mean_end_reply, mean_ran_reply, mean_run_reply, mean_started_reply}, specs.Commands.SourceText.accepted_in}
use Rattle.stack_commands.specs.Commands.Turns.{is_end, last_round, round_line, task_text, tasks_of, tasks_reply, tasks_text, tasks_verdict, turns_by}
use Rattle.stack_commands.specs.Prepared.{stored_by, reply_by}
use Rattle.cli_stack.{specs.Answer.{answer_with, answer_on}, specs.InARow.BudgetsSettle}

-- 1. Runs of step machines.

-- a run that is at its end stays there
at_end : (m : ℕ) (v : Seen) (s : Stage) → v.stage ≡ s → end_by s ≢ mean_run.Spent → meaning_run m v ≡ record { run = end_by s; seen = v }
unfolding meaning_run answer_of left_of
at_end zero v (Running g) is ended = absurd (ended refl)
at_end (suc m) v (Running g) is ended = absurd (ended refl)
at_end zero v (Finished x c) is ended = ap (λ s. record { run = end_by s; seen = v }) is
at_end (suc m) v (Finished x c) is ended = ap (λ (s : Stage). ran_on (answer_from v s) (left_from v s) (meaning_run m)) is

meaning_settles : (n m : ℕ) (v : Seen) → n ≤ m → (meaning_run n v).run ≢ mean_run.Spent → meaning_run m v ≡ meaning_run n v
unfolding meaning_run
meaning_settles zero m v le ended = at_end m v v.stage refl ended
meaning_settles (suc n) zero v le ended = absurd (omega (arith, le))
meaning_settles (suc n) (suc m) v le ended = by_answer (answer_of v) (λ w still. meaning_settles n m w (omega (arith, le)) still) ended
  where
    by_answer : (a : Moved) → ((w : Seen) → (meaning_run n w).run ≢ mean_run.Spent → meaning_run m w ≡ meaning_run n w)
        → (ran_on a (left_of v) (meaning_run n)).run ≢ mean_run.Spent → ran_on a (left_of v) (meaning_run m) ≡ ran_on a (left_of v) (meaning_run n)
    by_answer moved.Moved rest ended = rest (left_of v) ended
    by_answer moved.Ended rest ended = refl

none_left : (fs : List piton_state.Frame) → piton.end_by fs ≢ piton_run.Spent → fs ≡ []
none_left [] ended = refl
none_left (f ∷ fs) ended = absurd (ended refl)

state_settles : (s : SystemView) (n m : ℕ) (v : piton.Seen) → n ≤ m → (state_run s n v).run ≢ piton_run.Spent → state_run s m v ≡ state_run s n v
unfolding state_run
state_settles s zero m v le ended = let none : v.state.frames ≡ [] = none_left v.state.frames ended in stays s m v none ∙ sym (stays s 0 v none)
state_settles s (suc n) zero v le ended = absurd (omega (arith, le))
state_settles s (suc n) (suc m) v le ended = by_step (seen_step s v) (λ w still. state_settles s n m w (omega (arith, le)) still) ended
  where
    by_step : (r : Result piton.Seen ErrorKind) → ((w : piton.Seen) → (state_run s n w).run ≢ piton_run.Spent → state_run s m w ≡ state_run s n w)
        → (piton.ran_on v r (state_run s n)).run ≢ piton_run.Spent → piton.ran_on v r (state_run s m) ≡ piton.ran_on v r (state_run s n)
    by_step (Ok w) rest ended = rest w ended
    by_step (Err kind) rest ended = refl

-- 2. Replies.

module _ (budget more : ℕ) (le : budget ≤ more) where
  -- a reply that isn't `unfinished` is the one at more
  abbrev Settles : ReplyOf → ReplyOf → Type 0
  Settles less large = status_of less.verdict ≢ Unfinished → large ≡ less

  run_settles : (image : ImageOf) (values : List ValueOf) → Settles (run_reply image values budget) (run_reply image values more)
  unfolding run_reply
  run_settles image values ended =
      let s = loaded image values in
      let pc = image.final_pc in
      let o : RunOutcome = outcome budget pc s in
      let is : IsOutcome s pc budget o.run o.state = outcome_is s pc budget in
      by_end o.run o.state is ended
    where
      by_end : (r : Run) (t : Fm) → IsOutcome (loaded image values) image.final_pc budget r t → status_of (end_reply image budget r t).verdict ≢ Unfinished
          → outcome_reply image more (outcome more image.final_pc (loaded image values)) ≡ end_reply image budget r t
      by_end (run.Ended k) t is ended =
          ap (outcome_reply image more) (outcome_only (loaded image values) image.final_pc more (run.Ended k) t (omega (arith, is.0, le), is.1))
      by_end run.Spent t is ended = absurd (ended refl)
      by_end (run.Outside a k) t is ended = ap (outcome_reply image more)
          (outcome_only (loaded image values) image.final_pc more (run.Outside a k) t (omega (arith, is.0, le), is.1, is.2, is.3))

  values_settle : (image : ImageOf) (found : Result (List ValueOf) (ℕ × ℕ)) → Settles (values_reply image budget found) (values_reply image more found)
  values_settle image (Err f) ended = refl
  values_settle image (Ok values) ended = run_settles image values ended

  go_settles : (found : Result BuiltOf BuildFault) (values : List ℕ) → Settles (go_reply found values budget) (go_reply found values more)
  go_settles (Err f) values ended = refl
  go_settles (Ok b) values ended = values_settle b.image (values_in b.image.slots values) ended

  image_settles : (values : List ℕ) (found : Result ImageOf (ℕ × ℕ)) → Settles (image_reply values budget found) (image_reply values more found)
  image_settles values (Err f) ended = refl
  image_settles values (Ok image) ended = values_settle image (values_in image.slots values) ended

  steps_settle : (source : SourceOf) (from : Seen) → Settles (mean_run_reply source from budget) (mean_run_reply source from more)
  unfolding mean_run_reply
  steps_settle source from ended = by_end (meaning_run budget from).run refl ended
    where
      by_end : (a : MeanRun) → (meaning_run budget from).run ≡ a → status_of (mean_end_reply source budget a (meaning_run budget from).seen).verdict
          ≢ Unfinished
          → mean_ran_reply source more (meaning_run more from) ≡ mean_end_reply source budget a (meaning_run budget from).seen
      by_end mean_run.Ended is ended =
          let same = meaning_settles budget more from le (λ spent. let e : mean_run.Ended ≡ mean_run.Spent = sym is ∙ spent in cc) in
          ap (mean_ran_reply source more) same ∙ ap (λ (a : MeanRun). mean_end_reply source more a (meaning_run budget from).seen) is
      by_end mean_run.Spent is ended = absurd (ended refl)

  started_settles : (source : SourceOf) (found : Result Seen StartFault) → Settles (mean_started_reply source budget found)
      (mean_started_reply source more found)
  started_settles source (Err f) ended = refl
  started_settles source (Ok from) ended = steps_settle source from ended

  accepted_settles : (found : Result SourceOf Verdict) (sizes : StackSizes) (values : List ℕ)
      → Settles (mean_accepted_reply found sizes values budget) (mean_accepted_reply found sizes values more)
  accepted_settles (Err v) sizes values ended = refl
  accepted_settles (Ok source) sizes values ended = started_settles source (gypsy_start source sizes values) ended

  piton_settles : (system : SystemOf) (s : SystemView) (from : piton.Seen) → Settles (ran_reply system budget (state_run s budget from))
      (ran_reply system more (state_run s more from))
  piton_settles system s from ended = by_end (state_run s budget from).run refl ended
    where
      by_end : (a : PitonRun) → (state_run s budget from).run ≡ a → status_of (run_end_reply system budget a (state_run s budget from).seen).verdict
          ≢ Unfinished
          → ran_reply system more (state_run s more from) ≡ run_end_reply system budget a (state_run s budget from).seen
      by_end piton_run.Halted is ended =
          let same = state_settles s budget more from le (λ spent. let e : piton_run.Halted ≡ piton_run.Spent = sym is ∙ spent in cc) in
          ap (ran_reply system more) same ∙ ap (λ (a : PitonRun). run_end_reply system more a (state_run s budget from).seen) is
      by_end piton_run.Spent is ended = absurd (ended refl)
      by_end (piton_run.Error kind) is ended =
          let same = state_settles s budget more from le (λ spent. let e : piton_run.Error kind ≡ piton_run.Spent = sym is ∙ spent in cc) in
          ap (ran_reply system more) same ∙ ap (λ (a : PitonRun). run_end_reply system more a (state_run s budget from).seen) is

  checked_settles : (found : Result CheckedOf Verdict) → Settles (checked_run_reply found budget) (checked_run_reply found more)
  unfolding system_run_reply
  checked_settles (Err v) ended = refl
  checked_settles (Ok checked) ended = piton_settles checked.system (system_in checked) (piton.opening (system_in checked) (system_in checked).stack) ended

  -- a task that is done is told the same
  task_settles : (turn i : ℕ) (task : NewTask) → is_end (whole_run budget task).run ≡ true
      → (task_text turn more i task ≡ task_text turn budget i task) × (is_end (whole_run more task).run ≡ true)
  unfolding run_reply
  task_settles turn i task ends =
      by_end (whole_run budget task).run (whole_run budget task).state (outcome_is (loaded task.image task.values) task.image.final_pc budget) refl ends
    where
      by_end : (r : Run) (t : Fm) → IsOutcome (loaded task.image task.values) task.image.final_pc budget r t → (whole_run budget task).run ≡ r → is_end r ≡ true
          → (task_text turn more i task ≡ task_text turn budget i task) × (is_end (whole_run more task).run ≡ true)
      by_end (run.Ended k) t is soon ends =
          let late : (whole_run more task).run ≡ run.Ended k =
          ap (λ (o : RunOutcome). o.run) (outcome_only (loaded task.image task.values) task.image.final_pc more (run.Ended k) t
          (omega (arith, is.0, le), is.1)) in
          let rounds : last_round turn more (whole_run more task).run ≡ last_round turn budget (whole_run budget task).run =
          ap (last_round turn more) late ∙ sym (ap (last_round turn budget) soon) in
          let done : status_of (run_reply task.image task.values budget).verdict ≡ Done =
          ap (λ (r : Run). status_of (end_reply task.image budget r (whole_run budget task).state).verdict) soon in
          let replies : run_reply task.image task.values more ≡ run_reply task.image task.values budget =
          run_settles task.image task.values (λ unfinished. let e : Done ≡ Unfinished = sym done ∙ unfinished in cc) in
          ((λ j. round_line i (rounds j) ++ reply_text (replies j)), ap is_end late)
      by_end run.Spent t is soon ends = absurd cc
      by_end (run.Outside a k) t is soon ends = absurd cc

  each_settles : (turn i : ℕ) (tasks : List NewTask) → list_all (λ task. is_end (whole_run budget task).run) tasks ≡ true
      → (tasks_text turn more i tasks ≡ tasks_text turn budget i tasks) × (list_all (λ task. is_end (whole_run more task).run) tasks ≡ true)
  each_settles turn i [] ends = (refl, refl)
  each_settles turn i (task ∷ tasks) ends =
      let both = and_parts (is_end (whole_run budget task).run) (list_all (λ task. is_end (whole_run budget task).run) tasks) ends in
      let here = task_settles turn i task both.0 in
      let rest = each_settles turn (i + 1) tasks both.1 in
      ((λ j. here.0 j ++ rest.0 j), and_from (is_end (whole_run more task).run) (list_all (λ task. is_end (whole_run more task).run) tasks) here.1 rest.1)

  tasks_settle : (turn : ℕ) (tasks : List NewTask) → Settles (tasks_reply turn budget tasks) (tasks_reply turn more tasks)
  unfolding tasks_reply
  tasks_settle turn tasks ended = by_all (list_all (λ task. is_end (whole_run budget task).run) tasks) refl
    where
      by_all : (b : Bool) → list_all (λ task. is_end (whole_run budget task).run) tasks ≡ b → tasks_reply turn more tasks ≡ tasks_reply turn budget tasks
      by_all true e =
          let r = each_settles turn 0 tasks e in
          let all : list_all (λ task. is_end (whole_run more task).run) tasks ≡ list_all (λ task. is_end (whole_run budget task).run) tasks = r.1 ∙ sym e in
          λ j. record { said = r.0 j; verdict = tasks_verdict (all j); state = None }
      by_all false e = absurd (ended (ap (λ (b : Bool). status_of (tasks_verdict b)) e))

  turns_settle : (turn : ℕ) (found : Result (List NewTask) TasksFault) → Settles (turns_by turn budget found) (turns_by turn more found)
  turns_settle turn (Err f) ended = refl
  turns_settle turn (Ok tasks) ended = tasks_settle turn tasks ended

  -- answers on texts
  mean_on : (source values : List ℕ) (control temporary : ℕ) (watches : List Watching) (got : Result Texts EarlyEnd)
      → (answer_on (command.Mean source values control temporary budget) watches got).status ≢ Unfinished
      → answer_on (command.Mean source values control temporary more) watches got ≡ answer_on (command.Mean source values control temporary budget) watches got
  unfolding output_of stored_by reply_by
  mean_on source values control temporary watches (Err e) ended = refl
  mean_on source values control temporary watches (Ok texts) ended =
      ap (answer_with _) (accepted_settles (accepted_in (text_of Source texts)) (stack_sizes control temporary) (text_of Values texts) ended)

  prun_on : (name : List ℕ) (watches : List Watching) (got : Result Texts EarlyEnd) → (answer_on (command.Prun name budget) watches got).status ≢ Unfinished
      → answer_on (command.Prun name more) watches got ≡ answer_on (command.Prun name budget) watches got
  unfolding output_of stored_by reply_by
  prun_on name watches (Err e) ended = refl
  prun_on name watches (Ok texts) ended = ap (answer_with _) (checked_settles (checked_in (text_of Piton texts)) ended)

  turns_on : (turn control temporary : ℕ) (tasks : List TaskFiles) (watches : List Watching) (got : Result Texts EarlyEnd)
      → (answer_on (command.Turns turn budget control temporary tasks) watches got).status ≢ Unfinished
      → answer_on (command.Turns turn more control temporary tasks) watches got ≡ answer_on (command.Turns turn budget control temporary tasks) watches got
  unfolding output_of stored_by reply_by
  turns_on turn control temporary tasks watches (Err e) ended = refl
  turns_on turn control temporary tasks watches (Ok texts) ended =
      ap (answer_with _) (turns_settle turn (tasks_of (stack_sizes control temporary) (texts_of TaskSource texts) (texts_of TaskValues texts)) ended)

  abbrev Fetched : Type 0
  Fetched = Result (List ℕ) EarlyEnd

  run_on : (image values : List ℕ) (watches : List Watching) (first second : Fetched) →
      (answer_on (command.Run image values budget) watches
      (first >>= λ t. (second >>= λ o. Ok ((Values, o) ∷ [])) >>= λ texts. Ok ((Image, t) ∷ texts))).status ≢ Unfinished →
      answer_on (command.Run image values more) watches (first >>= λ t. (second >>= λ o. Ok ((Values, o) ∷ [])) >>= λ texts. Ok ((Image, t) ∷ texts))
      ≡ answer_on (command.Run image values budget) watches (first >>= λ t. (second >>= λ o. Ok ((Values, o) ∷ [])) >>= λ texts. Ok ((Image, t) ∷ texts))
  unfolding output_of stored_by reply_by
  run_on image values watches (Err e) second ended = refl
  run_on image values watches (Ok bytes) (Err e) ended = refl
  run_on image values watches (Ok bytes) (Ok other) ended = ap (answer_with _) (image_settles other (read_of bytes) ended)

  go_on : (source values image : List ℕ) (control temporary : ℕ) (watches : List Watching) (first second : Fetched) →
      (answer_on (command.Go source values control temporary budget image) watches
      (first >>= λ t. (second >>= λ o. Ok ((Values, o) ∷ [])) >>= λ texts. Ok ((Source, t) ∷ texts))).status ≢ Unfinished →
      answer_on (command.Go source values control temporary more image) watches
      (first >>= λ t. (second >>= λ o. Ok ((Values, o) ∷ [])) >>= λ texts. Ok ((Source, t) ∷ texts))
      ≡ answer_on (command.Go source values control temporary budget image) watches
      (first >>= λ t. (second >>= λ o. Ok ((Values, o) ∷ [])) >>= λ texts. Ok ((Source, t) ∷ texts))
  unfolding output_of stored_by reply_by
  go_on source values image control temporary watches (Err e) second ended = refl
  go_on source values image control temporary watches (Ok text) (Err e) ended = refl
  go_on source values image control temporary watches (Ok text) (Ok other) ended = ap (answer_with _) (go_settles (built text control temporary 0) other ended)

pub budgets_settle : BudgetsSettle
unfolding inputs_of
budgets_settle = record {
  run = λ image values budget more watches files le ended. run_on budget more le image values watches _ _ ended;
  go = λ source values image control temporary budget more watches files le ended. go_on budget more le source values image control temporary watches _ _ ended;
  mean = λ source values control temporary budget more watches files le ended. mean_on budget more le source values control temporary watches
      (gathered files ((Source, source) ∷ (Values, values) ∷ [])) ended;
  prun = λ name budget more watches files le ended. prun_on budget more le name watches (gathered files ((Piton, name) ∷ [])) ended;
  turns = λ turn control temporary tasks budget more watches files le ended. turns_on budget more le turn control temporary tasks watches
      (gathered files (task_inputs tasks)) ended;
}

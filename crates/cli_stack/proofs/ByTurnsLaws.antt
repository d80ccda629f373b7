-- What is told of sources whose images take turns is what each of them means.
use Rattle.std.proofs.Common.{◌≡◌, ◌≤◌, inl, inr, ⊎_elim, ◌+◌, ◌*◌, ◌++◌, ℕ, Bool, suc, eqb, ltb, List, [], ◌∷◌, length, map, append-nil, true, false, Option}
use Rattle.std.{proofs.Common.{None, Result, Ok, refl, sym, ap, subst, ◌∙◌, arith, append_assoc, length-append}, specs.Prelude.{All, ◌^◌, slice_index_or}}
use Rattle.std.{specs.List.list_all, proofs.lemmas.Bool.{and_from, and_parts, le-ltb, ne_eqb}, proofs.lemmas.List.Elements.{All-nil, All-cons, All-head}}
use Rattle.std.proofs.lemmas.List.Elements.{All-tail}
use Rattle.stack_text.{specs.Results.◌>>=◌, specs.Values.ValueOf}
use Rattle.stack_shelf.specs.Files.{Files}
use Rattle.fm_machine.{specs.Outcome.RunOutcome, specs.declared.processor.Run.Run, proofs.RunLaws.outcome_only}
use Rattle.fm_machine.specs.declared.processor.Run.TheVariants as run
use Rattle.fm_image.{specs.Image.ImageOf, proofs.LimitLaws.sized}
use Rattle.fm_loader.{specs.Loaded.loaded, specs.Values.values_in}
use Rattle.fm_turns.{specs.EqualTurns.whole_run, specs.Starting.{NewTask, new_task}}
use Rattle.level_debuggers.specs.Tallies.{Watching}
use Rattle.gypsy_syntax.specs.Sources.{SourceOf}
use Rattle.gypsy_space.specs.Needs.{StackSizes, stack_sizes}
use Rattle.stack_build.{specs.declared.fault.BuildFault.BuildFault, specs.Build.{BuiltOf, BuildsText}, specs.Implements.{FitsFormals, Implements}}
use Rattle.stack_build.{specs.Meant.KeptMeansOnly, specs.Moments.KeepsMoments, specs.Joined.{BuiltImplements, BuiltTakesValues}, proofs.MeantLaws.not_within}
use Rattle.command_line.{specs.declared.command.Command.Command, specs.declared.command.TaskFiles.TaskFiles, specs.declared.early_end.EarlyEnd.EarlyEnd}
use Rattle.command_line.{specs.declared.role.Role.TheVariants.{TaskSource, TaskValues}, specs.CommandFiles.{task_inputs, inputs_of}, specs.Gathered.Texts}
use Rattle.command_line.specs.Gathered.{texts_of, gathered}
use Rattle.command_line.specs.declared.command.Command.TheVariants as command
use Rattle.stack_commands.{specs.declared.turns.tasks.TasksFault.TasksFault, specs.Prepared.reply_by, specs.Commands.Turns.{few_enough, image_or_fault}}
use Rattle.stack_commands.specs.Commands.Turns.{images_from, word_count, small_enough, values_or_fault, tasks_from, tasks_of, last_round, round_line, task_text}
use Rattle.stack_commands.specs.Commands.Turns.{tasks_text, is_end, tasks_verdict, tasks_reply, turns_by, turns_reply}
use Rattle.command_replies.{specs.declared.reply.Verdict.Verdict, specs.declared.reply.Verdict.TheVariants.{Done, SomeUnfinished}, specs.Replies.ReplyOf}
use Rattle.command_replies.{specs.Replies.{reply_text, status_of, verdict_line}, specs.Commands.Run.run_reply}
use Rattle.command_line.specs.declared.status.Status.TheVariants as exit
use Rattle.cli_stack.{specs.Answer.{answer_with, answer_on, answer_to}, specs.Turns.{TaskOf, IsTask, AreTasks, TellsTask, TellsInTurn, IsDoneWithin}}
use Rattle.cli_stack.{specs.Turns.{TellsTasks, TellsEach}, proofs.DecidesLaws.{done, spent_told}, proofs.TaskCountLaws.HasFew}
use Rattle.cli_stack.{proofs.TasksReadyLaws.{tasks_ready, text_behind}, proofs.TellsLaws.is_there}

-- What the files of tasks lead to, from this number and this base on.
record ComesTo (files : Files) (sizes : StackSizes) (turn budget i base : ℕ) (names : List TaskFiles) (tasks : List TaskOf) : Type 0 where
  sources : List (List ℕ)
  values : List (List ℕ)
  both : Texts
  there : gathered files (task_inputs names) ≡ Ok both
  sources_are : texts_of TaskSource both ≡ sources
  values_are : texts_of TaskValues both ≡ values
  count : length sources ≡ length names
  images : images_from sizes i base sources ≡ Ok (map (λ t. t.image) tasks)
  new : List NewTask
  new_are : (front : List (List ℕ)) → length front ≡ i → tasks_from (front ++ values) i (map (λ t. t.image) tasks) ≡ Ok new
  text : TellsInTurn sizes turn budget i tasks (tasks_text turn budget i new)
  done : list_all (λ task. is_end (whole_run budget task).run) new ≡ true → All (IsDoneWithin sizes budget) tasks
  all : All (IsDoneWithin sizes budget) tasks → list_all (λ task. is_end (whole_run budget task).run) new ≡ true

-- what is built of a task
record IsBuiltTask (sizes : StackSizes) (task : TaskOf) : Type 0 where
  implements : Implements task.image task.source sizes
  moments : KeepsMoments task.image task.source sizes
  fits : FitsFormals task.source task.values
  few : task.image.size ≤ 2 ^ 20

module _ (implement : BuiltImplements) (take : BuiltTakesValues) (meant : KeptMeansOnly) (files : Files) (sizes : StackSizes) (turn budget : ℕ) where
  is_built : (base : ℕ) (names : TaskFiles) (t : TaskOf) → IsTask files sizes base names t → base ≤ 2 ^ 31 → IsBuiltTask sizes t
  is_built base names t h low =
      let short : length h.text ≤ 2 ^ 31 = omega (arith, h.there.short) in
      let made = h.made in
      let builds : BuildsText h.text sizes.ctrl sizes.temp h.found = rw made at (implement h.text sizes.ctrl sizes.temp base short low) in
      let read : Ok builds.source ≡ Ok t.source = sym builds.read ∙ h.read in
      let same : builds.source ≡ t.source = cc in
      let found : values_in h.found.image.slots h.values_text ≡ Ok t.values = ap (λ (image : ImageOf). values_in image.slots h.values_text) h.same ∙ h.gives in
      record {
        implements = subst (λ (image : ImageOf). Implements image t.source sizes) h.same
            (subst (λ (s : SourceOf). Implements h.found.image s sizes) same builds.builds.implements);
        moments = subst (λ (image : ImageOf). KeepsMoments image t.source sizes) h.same
            (subst (λ (s : SourceOf). KeepsMoments h.found.image s sizes) same builds.builds.moments);
        fits = take h.text sizes.ctrl sizes.temp base t.source h.found h.values_text t.values short low h.read h.made found;
        few = subst (λ (image : ImageOf). image.size ≤ 2 ^ 20) h.same (sized h.found.image builds.builds.spells.limits).few;
      }

  module _ (t : TaskOf) (is : IsBuiltTask sizes t) where
    -- a task is told so, by how its run alone ends
    task_told : (i : ℕ) → TellsTask sizes turn budget i t (task_text turn budget i (new_task t.image t.values))
    task_told i =
        let reply : ReplyOf = run_reply t.image t.values budget in
        ⊎_elim (λ ended.
        let d = done meant t.image t.source sizes is.implements is.moments t.values is.fits budget None reply refl ended.0 ended.1 ended.2 in
        record {
          alone = answer_with None reply;
          made = ended.0;
          told = ap (λ (r : Run). round_line i (last_round turn budget r) ++ reply_text reply) ended.2;
          either = inl (d.0, sym d.1);
        }) (λ spent. record {
          alone = answer_with None reply;
          made = budget;
          told = ap (λ (r : Run). round_line i (last_round turn budget r) ++ reply_text reply) spent;
          either = inr (
            record {
              beyond = not_within t.image t.source sizes is.implements t.values is.fits budget spent;
              tells = spent_told t.image t.values budget None reply refl spent;
            },
            refl,
          );
        }) ((meant t.image t.source sizes is.moments).inside t.values budget is.fits)

    task_done : is_end (whole_run budget (new_task t.image t.values)).run ≡ true → IsDoneWithin sizes budget t
    task_done ends =
        let reply : ReplyOf = run_reply t.image t.values budget in
        ⊎_elim (λ ended.
        let d = (done meant t.image t.source sizes is.implements is.moments t.values is.fits budget None reply refl ended.0 ended.1 ended.2).0 in
        record { finals = d.finals; way = d.way; count = d.count; meant = d.meant; within = d.within }) (λ spent. absurd (
        let none : true ≡ false = sym ends ∙ ap is_end spent in cc)) ((meant t.image t.source sizes is.moments).inside t.values budget is.fits)

    task_ends : IsDoneWithin sizes budget t → is_end (whole_run budget (new_task t.image t.values)).run ≡ true
    task_ends w =
        let end = is.implements t.values w.finals w.way w.count is.fits w.meant in
        ap (λ (o : RunOutcome). is_end o.run) (outcome_only (loaded t.image t.values) t.image.final_pc budget (run.Ended w.count) end.state
        (w.within, end.first))

  -- task by task
  comes : (i base : ℕ) (names : List TaskFiles) (tasks : List TaskOf) → base + length names * 2 ^ 20 ≤ 2 ^ 31 → AreTasks files sizes base names tasks
      → ComesTo files sizes turn budget i base names tasks
  comes i base [] [] low h = record {
    sources = [];
    values = [];
    both = [];
    there = refl;
    sources_are = refl;
    values_are = refl;
    count = refl;
    images = refl;
    new = [];
    new_are = λ front long. refl;
    text = refl;
    done = λ e. All-nil (IsDoneWithin sizes budget);
    all = λ a. refl;
  }
  comes i base [] (t ∷ ts) low h = absurd h
  comes i base (n ∷ ns) [] low h = absurd h
  comes i base (n ∷ ns) (t ∷ ts) low h =
      let here = h.0 in
      let is = is_built base n t here (omega (arith, low)) in
      let few = is.few in
      let rest = comes (i + 1) (base + t.image.size) ns ts (omega arith) h.1 in
      let images : List ImageOf = map (λ t. t.image) ts in
      let built_on : ImageOf → Result (List ImageOf) TasksFault =
      λ image. images_from sizes (i + 1) (base + image.size) rest.sources >>= λ others. Ok (image ∷ others) in
      record {
        sources = here.text ∷ rest.sources;
        values = here.values_text ∷ rest.values;
        both = (TaskSource, here.text) ∷ (TaskValues, here.values_text) ∷ rest.both;
        there = rw (
          is_there files (TaskSource, n.source) here.text here.there,
          is_there files (TaskValues, n.values) here.values_text
              here.values_there,
          rest.there,
        ) refl;
        sources_are = ap (λ (ts : List (List ℕ)). here.text ∷ ts) rest.sources_are;
        values_are = ap (λ (ts : List (List ℕ)). here.values_text ∷ ts) rest.values_are;
        count = ap suc rest.count;
        images = ap (λ (r : Result BuiltOf BuildFault). image_or_fault i r >>= built_on) here.made ∙ ap built_on here.same
            ∙ ap (λ (r : Result (List ImageOf) TasksFault). r >>= λ others. Ok (t.image ∷ others)) rest.images;
        new = new_task t.image t.values ∷ rest.new;
        new_are = λ front long.
            let all : List (List ℕ) = front ++ here.values_text ∷ rest.values in
            let own : slice_index_or all i [] ≡ here.values_text =
            ap (λ k. slice_index_or all k []) (sym long) ∙ text_behind front here.values_text rest.values in
            let gives : values_in t.image.slots (slice_index_or all i []) ≡ Ok t.values = ap (values_in t.image.slots) own ∙ here.gives in
            let longer : length (front ++ here.values_text ∷ []) ≡ i + 1 = length-append front (here.values_text ∷ []) ∙ ap (λ k. k + 1) long in
            let further : tasks_from all (i + 1) images ≡ Ok rest.new =
            ap (λ (ts : List (List ℕ)). tasks_from ts (i + 1) images) (sym (append_assoc front (here.values_text ∷ []) rest.values))
            ∙ rest.new_are (front ++ here.values_text ∷ []) longer in
            ap (λ (r : Result (List ValueOf) (ℕ × ℕ)). values_or_fault i r >>= λ values. tasks_from all (i + 1) images
            >>= λ others. Ok (new_task t.image values ∷ others)) gives
            ∙ ap (λ (r : Result (List NewTask) TasksFault). r >>= λ others. Ok (new_task t.image t.values ∷ others)) further;
        text = (task_text turn budget i (new_task t.image t.values), tasks_text turn budget (i + 1) rest.new, refl, task_told t is i, rest.text);
        done = λ e.
            let both = and_parts (is_end (whole_run budget (new_task t.image t.values)).run)
            (list_all (λ task. is_end (whole_run budget task).run) rest.new) e in
            All-cons (IsDoneWithin sizes budget) t ts (task_done t is both.0) (rest.done both.1);
        all = λ a. and_from (is_end (whole_run budget (new_task t.image t.values)).run) (list_all (λ task. is_end (whole_run budget task).run) rest.new)
            (task_ends t is (All-head (IsDoneWithin sizes budget) t ts a)) (rest.all (All-tail (IsDoneWithin sizes budget) t ts a));
      }

  -- the reply is that of these tasks
  replies : (names : List TaskFiles) (tasks : List TaskOf) (c : ComesTo files sizes turn budget 0 0 names tasks) → 1 ≤ length names → length names ≤ 8
      → word_count (map (λ t. t.image) tasks) ≤ 2 ^ 20 → turns_reply turn budget sizes c.sources c.values ≡ tasks_reply turn budget c.new
  unfolding tasks_of
  replies names tasks c some few small =
      let count = c.count in
      let images : List ImageOf = map (λ t. t.image) tasks in
      let none : eqb (length c.sources) 0 ≡ false = ne_eqb (length c.sources) 0 (λ e. omega arith) in
      let many : ltb 8 (length c.sources) ≡ false = le-ltb 8 (length c.sources) (omega arith) in
      let fits : ltb 1048576 (word_count images) ≡ false = le-ltb 1048576 (word_count images) small in
      let enough : few_enough c.sources ≡ Ok c.sources = rw (none, many) refl in
      let within : small_enough images ≡ Ok images = rw fits refl in
      ap (λ (r : Result (List (List ℕ)) TasksFault). turns_by turn budget
      (r >>= λ few. images_from sizes 0 0 few >>= λ images. small_enough images >>= λ small. tasks_from c.values 0 small)) enough
      ∙ ap (λ (r : Result (List ImageOf) TasksFault). turns_by turn budget
      (r >>= λ images. small_enough images >>= λ small. tasks_from c.values 0 small)) c.images
      ∙ ap (λ (r : Result (List ImageOf) TasksFault). turns_by turn budget (r >>= λ small. tasks_from c.values 0 small)) within
      ∙ ap (turns_by turn budget) (c.new_are [] refl)

  -- so the answer tells them
  answers : (names : List TaskFiles) (tasks : List TaskOf) (c : ComesTo files sizes turn budget 0 0 names tasks) (output : Option (List ℕ × List ℕ))
      (reply : ReplyOf)
      → reply ≡ tasks_reply turn budget c.new → TellsTasks sizes turn budget tasks (answer_with output reply)
  unfolding tasks_reply
  answers names tasks c output reply is = by_all (list_all (λ task. is_end (whole_run budget task).run) c.new) refl
    where
      by_all : (b : Bool) → list_all (λ task. is_end (whole_run budget task).run) c.new ≡ b → TellsTasks sizes turn budget tasks (answer_with output reply)
      by_all true e =
          let verdict : reply.verdict ≡ Done = ap (λ (r : ReplyOf). r.verdict) is ∙ ap tasks_verdict e in
          let text : (answer_with output reply).text ≡ tasks_text turn budget 0 c.new =
          ap (λ (v : Verdict). reply.said ++ verdict_line v) verdict ∙ append-nil reply.said ∙ ap (λ (r : ReplyOf). r.said) is in
          record {
            text = subst (TellsInTurn sizes turn budget 0 tasks) (sym text) c.text;
            ends = inl (ap status_of verdict);
            done = λ h. c.done e;
            all = λ a. ap status_of verdict;
          }
      by_all false e =
          let verdict : reply.verdict ≡ SomeUnfinished = ap (λ (r : ReplyOf). r.verdict) is ∙ ap tasks_verdict e in
          let text : (answer_with output reply).text ≡ tasks_text turn budget 0 c.new =
          ap (λ (v : Verdict). reply.said ++ verdict_line v) verdict ∙ append-nil reply.said ∙ ap (λ (r : ReplyOf). r.said) is in
          record {
            text = subst (TellsInTurn sizes turn budget 0 tasks) (sym text) c.text;
            ends = inr (ap status_of verdict);
            done = λ h. absurd (let e : exit.Unfinished ≡ exit.Done = sym (ap status_of verdict) ∙ h in cc);
            all = λ a. absurd (let none : true ≡ false = sym (c.all a) ∙ e in cc);
          }

each_told : BuiltImplements → BuiltTakesValues → KeptMeansOnly → (turn budget control temporary : ℕ) (names : List TaskFiles) (watches : List Watching)
    (files : Files) (tasks : List TaskOf) → 1 ≤ length names → length names ≤ 8
    → AreTasks files (stack_sizes control temporary) 0 names tasks → word_count (map (λ t. t.image) tasks) ≤ 2 ^ 20
    → TellsTasks (stack_sizes control temporary) turn budget tasks (answer_to (command.Turns turn budget control temporary names) watches files)
unfolding inputs_of reply_by
each_told implement take meant turn budget control temporary names watches files tasks some few are small =
    let sizes = stack_sizes control temporary in
    let c = comes implement take meant files sizes turn budget 0 0 names tasks (omega arith) are in
    let same : turns_reply turn budget sizes (texts_of TaskSource c.both) (texts_of TaskValues c.both) ≡ turns_reply turn budget sizes c.sources c.values =
    ap (λ (ss : List (List ℕ)). turns_reply turn budget sizes ss (texts_of TaskValues c.both)) c.sources_are
    ∙ ap (turns_reply turn budget sizes c.sources) c.values_are in
    subst (λ (r : Result Texts EarlyEnd). TellsTasks sizes turn budget tasks (answer_on (command.Turns turn budget control temporary names) watches r))
    (sym c.there)
    (answers implement take meant files sizes turn budget names tasks c _
    (turns_reply turn budget sizes (texts_of TaskSource c.both) (texts_of TaskValues c.both))
    (same ∙ replies implement take meant files sizes turn budget names tasks c some few small))

-- of a command that words ask for
pub each_task_is_told : BuiltImplements → BuiltTakesValues → KeptMeansOnly → (c : Command) → HasFew c → (watches : List Watching) (files : Files)
    → TellsEach c files (answer_to c watches files)
each_task_is_told implement take meant (command.Turns turn budget control temporary names) few watches files =
    record {
      ready = λ ends. tasks_ready implement turn budget control temporary names watches files few.1 ends;
      told = λ is. each_told implement take meant turn budget control temporary names watches files is.tasks few.0 few.1 is.are is.fit;
    }
each_task_is_told implement take meant c few watches files = tt

-- Where `turns` ends as runs do, all its tasks were ready.
use Rattle.std.proofs.Common.{◌≡◌, ◌≤◌, ◌+◌, ◌*◌, ◌++◌, ℕ, List, [], ◌∷◌, Bool, true, false, Result, Ok, Err, length, map, refl, sym, ap, ◌∙◌, subst, arith}
use Rattle.std.{proofs.Common.{append_assoc, length-append, if◌then◌else◌}, specs.Prelude.{◌^◌, nat_lt, slice_index_or, ◌==◌, ◌||◌}}
use Rattle.std.proofs.lemmas.Bool.{ltb-false}
use Rattle.stack_text.{specs.Results.◌>>=◌, specs.SharedLimits.most_tasks, specs.Values.ValueOf}
use Rattle.stack_shelf.specs.Files.{Files}
use Rattle.fm_words.specs.WindowLimit.{most_window}
use Rattle.fm_image.{specs.Image.ImageOf, proofs.LimitLaws.sized}
use Rattle.fm_loader.specs.Values.{values_in}
use Rattle.fm_turns.specs.Starting.{NewTask, new_task}
use Rattle.level_debuggers.specs.Tallies.{Watching}
use Rattle.gypsy_space.specs.Needs.{StackSizes, stack_sizes}
use Rattle.stack_build.{specs.declared.fault.BuildFault.BuildFault, specs.Build.{BuiltOf, BuildsText, built}, specs.Joined.BuiltImplements}
use Rattle.command_line.specs.declared.command.Command.TheVariants as command
use Rattle.command_line.{specs.declared.command.TaskFiles.TaskFiles, specs.declared.early_end.EarlyEnd.EarlyEnd}
use Rattle.command_line.{specs.declared.role.Role.TheVariants.{TaskSource, TaskValues}, specs.CommandFiles.{task_inputs, inputs_of}, specs.Gathered.AreRead}
use Rattle.command_line.{specs.Gathered.{Texts, texts_of, gathered}, proofs.TaskLaws.{sources_read, values_read}}
use Rattle.stack_commands.{specs.declared.turns.tasks.TasksFault.TasksFault, specs.declared.turns.tasks.TasksFault.TheVariants.{Count, Large, Memory}}
use Rattle.stack_commands.{specs.Prepared.reply_by, specs.Commands.Turns.{image_or_fault, images_from, word_count, small_enough, values_or_fault, tasks_from}}
use Rattle.stack_commands.specs.Commands.Turns.{tasks_of, fault_reply, turns_by, turns_reply}
use Rattle.command_replies.specs.Replies.{status_of}
use Rattle.cli_stack.{specs.Answer.{answer_on, answer_to}, specs.FilesAndSizes.IsReadable, specs.Kept.IsRunEnd, specs.Turns.{TaskOf, AreTasks, HasTasks}}
use Rattle.cli_stack.proofs.DecidesLaws.{build_no_run, early_no_run}

-- 1. No fault of tasks is the end of a run.

abbrev NoRun : TasksFault → Type 0
NoRun fault = IsRunEnd (status_of (fault_reply fault).verdict) → ⊥

abbrev fault_in : {A : Type 0} → Result A TasksFault → TasksFault
fault_in (Ok made) = Memory
fault_in (Err fault) = fault

made_no_fault : {A : Type 0} (made : A) (fault : TasksFault) → Ok made ≡ Err fault → ⊥
made_no_fault made fault e = cc

images_fault : (sizes : StackSizes) (i base : ℕ) (sources : List (List ℕ)) (fault : TasksFault) → images_from sizes i base sources ≡ Err fault → NoRun fault
images_fault sizes i base [] fault e = absurd (made_no_fault _ _ e)
images_fault sizes i base (source ∷ sources) fault e =
    by_built (built source sizes.ctrl sizes.temp base) (λ next f. images_fault sizes (i + 1) next sources f) e
  where
    by_rest : (image : ImageOf) (r : Result (List ImageOf) TasksFault) → ((f : TasksFault) → r ≡ Err f → NoRun f)
        → (r >>= λ images. Ok (image ∷ images)) ≡ Err fault → NoRun fault
    by_rest image (Err f) again e = subst NoRun (ap fault_in e) (again f refl)
    by_rest image (Ok images) again e = absurd (made_no_fault _ _ e)

    by_built : (r : Result BuiltOf BuildFault) → ((next : ℕ) (f : TasksFault) → images_from sizes (i + 1) next sources ≡ Err f → NoRun f)
        → (image_or_fault i r >>= λ image. images_from sizes (i + 1) (base + image.size) sources >>= λ images. Ok (image ∷ images)) ≡ Err fault → NoRun fault
    by_built (Err f) again e = subst NoRun (ap fault_in e) (build_no_run f)
    by_built (Ok b) again e = by_rest b.image (images_from sizes (i + 1) (base + b.image.size) sources) (again (base + b.image.size)) e

tasks_fault : (texts : List (List ℕ)) (i : ℕ) (images : List ImageOf) (fault : TasksFault) → tasks_from texts i images ≡ Err fault → NoRun fault
tasks_fault texts i [] fault e = absurd (made_no_fault _ _ e)
tasks_fault texts i (image ∷ images) fault e = by_values (values_in image.slots (slice_index_or texts i [])) (λ f. tasks_fault texts (i + 1) images f) e
  where
    by_rest : (values : List ValueOf) (r : Result (List NewTask) TasksFault) → ((f : TasksFault) → r ≡ Err f → NoRun f)
        → (r >>= λ tasks. Ok (new_task image values ∷ tasks)) ≡ Err fault → NoRun fault
    by_rest values (Err f) again e = subst NoRun (ap fault_in e) (again f refl)
    by_rest values (Ok tasks) again e = absurd (made_no_fault _ _ e)

    by_values : (r : Result (List ValueOf) (ℕ × ℕ)) → ((f : TasksFault) → tasks_from texts (i + 1) images ≡ Err f → NoRun f)
        → (values_or_fault i r >>= λ values. tasks_from texts (i + 1) images >>= λ tasks. Ok (new_task image values ∷ tasks)) ≡ Err fault → NoRun fault
    by_values (Err f) again e = subst NoRun (ap fault_in e) (λ h. h)
    by_values (Ok values) again e = by_rest values (tasks_from texts (i + 1) images) again e

-- 2. Where there are tasks, their files led to them.

-- a text behind so many others
pub text_behind : (front : List (List ℕ)) (text : List ℕ) (back : List (List ℕ)) → slice_index_or (front ++ text ∷ back) (length front) [] ≡ text
text_behind [] text back = refl
text_behind (t ∷ front) text back = text_behind front text back

fault_not_made : {A : Type 0} (fault : TasksFault) (made : A) → Err fault ≡ Ok made → ⊥
fault_not_made fault made e = cc

-- the tasks of these files, with these images
record Ready (files : Files) (sizes : StackSizes) (base : ℕ) (names : List TaskFiles) (images : List ImageOf) : Type 0 where
  tasks : List TaskOf
  are : AreTasks files sizes base names tasks
  images_are : map (λ task. task.image) tasks ≡ images

module _ (implement : BuiltImplements) (files : Files) (sizes : StackSizes) where
  module _ (i base : ℕ) (n : TaskFiles) (ns : List TaskFiles) (source text : List ℕ) (sources texts front : List (List ℕ)) (images : List ImageOf)
      (new : List NewTask) (long : length front ≡ i)
      (low : base + length (n ∷ ns) * 2 ^ 20 ≤ 2 ^ 31) (there : IsReadable files TaskSource n.source source)
      (values_there : IsReadable files TaskValues n.values text)
      (rest : (size : ℕ) (others : List ImageOf) (more : List NewTask) → size ≤ 2 ^ 20 → images_from sizes (i + 1) (base + size) sources ≡ Ok others
      → tasks_from ((front ++ text ∷ []) ++ texts) (i + 1) others ≡ Ok more → Ready files sizes (base + size) ns others) where
    one_more : (b : BuiltOf) → built source sizes.ctrl sizes.temp base ≡ Ok b → (others : List ImageOf)
        → images_from sizes (i + 1) (base + b.image.size) sources ≡ Ok others
        → (values : List ValueOf) → values_in b.image.slots text ≡ Ok values → (more : List NewTask)
        → tasks_from (front ++ text ∷ texts) (i + 1) others ≡ Ok more
        → Ready files sizes base (n ∷ ns) (b.image ∷ others)
    one_more b made others are values gives more told =
        let short : length source ≤ 2 ^ 31 = omega (arith, there.short) in
        let builds : BuildsText source sizes.ctrl sizes.temp b = rw made at (implement source sizes.ctrl sizes.temp base short (omega (arith, low))) in
        let few : b.image.size ≤ 2 ^ 20 = (sized b.image builds.builds.spells.limits).few in
        let r = rest b.image.size others more few are
        (ap (λ (ts : List (List ℕ)). tasks_from ts (i + 1) others) (append_assoc front (text ∷ []) texts) ∙ told) in
        let task : TaskOf = record { source = builds.source; image = b.image; values = values } in
        record {
          tasks = task ∷ r.tasks;
          are = (
            record {
              text = source;
              there = there;
              read = builds.read;
              found = b;
              made = made;
              same = refl;
              values_text = text;
              values_there = values_there;
              gives = gives;
            },
            r.are,
          );
          images_are = ap (λ (is : List ImageOf). b.image ∷ is) r.images_are;
        }

    by_more : (b : BuiltOf) → built source sizes.ctrl sizes.temp base ≡ Ok b → (others : List ImageOf)
        → images_from sizes (i + 1) (base + b.image.size) sources ≡ Ok others
        → (values : List ValueOf) → values_in b.image.slots text ≡ Ok values → (r : Result (List NewTask) TasksFault)
        → tasks_from (front ++ text ∷ texts) (i + 1) others ≡ r
        → (r >>= λ more. Ok (new_task b.image values ∷ more)) ≡ Ok new → Ready files sizes base (n ∷ ns) (b.image ∷ others)
    by_more b made others are values gives (Err f) told e = absurd (fault_not_made _ _ e)
    by_more b made others are values gives (Ok more) told e = one_more b made others are values gives more told

    by_values : (b : BuiltOf) → built source sizes.ctrl sizes.temp base ≡ Ok b → (others : List ImageOf)
        → images_from sizes (i + 1) (base + b.image.size) sources ≡ Ok others
        → (r : Result (List ValueOf) (ℕ × ℕ)) → values_in b.image.slots text ≡ r
        → (values_or_fault i r >>= λ values. tasks_from (front ++ text ∷ texts) (i + 1) others >>= λ more. Ok (new_task b.image values ∷ more)) ≡ Ok new
        → Ready files sizes base (n ∷ ns) (b.image ∷ others)
    by_values b made others are (Err f) gives e = absurd (fault_not_made _ _ e)
    by_values b made others are (Ok values) gives e = by_more b made others are values gives (tasks_from (front ++ text ∷ texts) (i + 1) others) refl e

    by_images : (b : BuiltOf) → built source sizes.ctrl sizes.temp base ≡ Ok b → (r : Result (List ImageOf) TasksFault)
        → images_from sizes (i + 1) (base + b.image.size) sources ≡ r
        → (r >>= λ others. Ok (b.image ∷ others)) ≡ Ok images → tasks_from (front ++ text ∷ texts) i images ≡ Ok new → Ready files sizes base (n ∷ ns) images
    by_images b made (Err f) are e told = absurd (fault_not_made _ _ e)
    by_images b made (Ok others) are e told =
        let whole : Ok (b.image ∷ others) ≡ Ok images = e in
        let same : b.image ∷ others ≡ images = cc in
        let all : List (List ℕ) = front ++ text ∷ texts in
        let own : slice_index_or all i [] ≡ text = ap (λ k. slice_index_or all k []) (sym long) ∙ text_behind front text texts in
        let read : List ℕ → Result (List NewTask) TasksFault = λ t. values_or_fault i (values_in b.image.slots t)
        >>= λ values. tasks_from all (i + 1) others >>= λ more. Ok (new_task b.image values ∷ more) in
        subst (Ready files sizes base (n ∷ ns)) same
        (by_values b made others are (values_in b.image.slots text) refl (ap read (sym own) ∙ ap (tasks_from all i) same ∙ told))

    by_built : (r : Result BuiltOf BuildFault) → built source sizes.ctrl sizes.temp base ≡ r
        → (image_or_fault i r >>= λ image. images_from sizes (i + 1) (base + image.size) sources >>= λ others. Ok (image ∷ others)) ≡ Ok images
        → tasks_from (front ++ text ∷ texts) i images ≡ Ok new → Ready files sizes base (n ∷ ns) images
    by_built (Err f) made e told = absurd (fault_not_made _ _ e)
    by_built (Ok b) made e told = by_images b made (images_from sizes (i + 1) (base + b.image.size) sources) refl e told

  are_ready : (i base : ℕ) (names : List TaskFiles) (sources texts front : List (List ℕ)) (images : List ImageOf) (new : List NewTask)
      → length front ≡ i → base + length names * 2 ^ 20 ≤ 2 ^ 31
      → AreRead files TaskSource (map (λ task. task.source) names) sources → AreRead files TaskValues (map (λ task. task.values) names) texts
      → images_from sizes i base sources ≡ Ok images → tasks_from (front ++ texts) i images ≡ Ok new → Ready files sizes base names images
  are_ready i base [] [] texts front images new long low here there made told =
      let whole : Ok [] ≡ Ok images = made in
      let same : [] ≡ images = cc in
      record { tasks = []; are = tt; images_are = same }
  are_ready i base [] (source ∷ sources) texts front images new long low here there made told = absurd here
  are_ready i base (n ∷ ns) [] texts front images new long low here there made told = absurd here
  are_ready i base (n ∷ ns) (source ∷ sources) [] front images new long low here there made told = absurd there
  are_ready i base (n ∷ ns) (source ∷ sources) (text ∷ texts) front images new long low here there made told =
      by_built i base n ns source text sources texts front images new long low (record { there = here.0; short = here.1 })
      (record { there = there.0; short = there.1 })
      (λ size others more few are told. are_ready (i + 1) (base + size) ns sources texts (front ++ text ∷ []) others more
      (length-append front (text ∷ []) ∙ ap (λ k. k + 1) long) (omega (arith, low, few)) here.2 there.2 are told)
      (built source sizes.ctrl sizes.temp base) refl made told

  -- 3. The answer.

  module _ (turn budget : ℕ) (names : List TaskFiles) (sources texts : List (List ℕ)) (few : length names ≤ 8)
      (here : AreRead files TaskSource (map (λ task. task.source) names) sources)
      (there : AreRead files TaskValues (map (λ task. task.values) names) texts) where
    by_tasks : (images : List ImageOf) → images_from sizes 0 0 sources ≡ Ok images → word_count images ≤ most_window
        → (r : Result (List NewTask) TasksFault) → tasks_from texts 0 images ≡ r
        → IsRunEnd (status_of (turns_by turn budget r).verdict) → HasTasks files sizes names
    by_tasks images made small (Err f) told ends = absurd (tasks_fault texts 0 images f told ends)
    by_tasks images made small (Ok new) told ends =
        let r = are_ready 0 0 names sources texts [] images new refl (omega (arith, few)) here there made told in
        record { tasks = r.tasks; are = r.are; fit = subst (λ (is : List ImageOf). word_count is ≤ most_window) (sym r.images_are) small }

    by_small : (images : List ImageOf) → images_from sizes 0 0 sources ≡ Ok images → (b : Bool) → nat_lt most_window (word_count images) ≡ b
        → IsRunEnd (status_of (turns_by turn budget
        ((if b then Err (Large (word_count images)) else Ok images) >>= λ small. tasks_from texts 0 small)).verdict) → HasTasks files sizes names
    by_small images made true large ends = absurd ends
    by_small images made false small ends = by_tasks images made (ltb-false most_window (word_count images) small) (tasks_from texts 0 images) refl ends

    by_all : (r : Result (List ImageOf) TasksFault) → images_from sizes 0 0 sources ≡ r
        → IsRunEnd (status_of (turns_by turn budget (r >>= λ images. small_enough images >>= λ small. tasks_from texts 0 small)).verdict)
        → HasTasks files sizes names
    by_all (Err f) made ends = absurd (images_fault sizes 0 0 sources f made ends)
    by_all (Ok images) made ends = by_small images made (nat_lt most_window (word_count images)) refl ends

    by_count : (b : Bool) → IsRunEnd (status_of
        (turns_by turn budget ((if b then Err Count else Ok sources) >>= λ few. images_from sizes 0 0 few >>= λ images. small_enough images
        >>= λ small. tasks_from texts 0 small)).verdict)
        → HasTasks files sizes names
    by_count true ends = absurd ends
    by_count false ends = by_all (images_from sizes 0 0 sources) refl ends

    reply_ready : IsRunEnd (status_of (turns_reply turn budget sizes sources texts).verdict) → HasTasks files sizes names
    unfolding tasks_of
    reply_ready ends = by_count (length sources == 0 || nat_lt most_tasks (length sources)) ends

pub tasks_ready : BuiltImplements → (turn budget control temporary : ℕ) (names : List TaskFiles) (watches : List Watching) (files : Files) → length names ≤ 8
    → IsRunEnd (answer_to (command.Turns turn budget control temporary names) watches files).status → HasTasks files (stack_sizes control temporary) names
unfolding inputs_of reply_by
tasks_ready implement turn budget control temporary names watches files few ends = by_texts (gathered files (task_inputs names)) refl ends
  where
    of_texts : (texts : Texts) → gathered files (task_inputs names) ≡ Ok texts
        → IsRunEnd (status_of (turns_reply turn budget (stack_sizes control temporary) (texts_of TaskSource texts) (texts_of TaskValues texts)).verdict)
        → HasTasks files (stack_sizes control temporary) names
    of_texts texts got ends =
        reply_ready implement files (stack_sizes control temporary) turn budget names (texts_of TaskSource texts) (texts_of TaskValues texts) few
        (sources_read files names texts got) (values_read files names texts got) ends

    by_texts : (r : Result Texts EarlyEnd) → gathered files (task_inputs names) ≡ r
        → IsRunEnd (answer_on (command.Turns turn budget control temporary names) watches r).status
        → HasTasks files (stack_sizes control temporary) names
    by_texts (Err e) got ends = absurd (early_no_run e ends)
    by_texts (Ok texts) got ends = of_texts texts got ends

-- The tasks of `turns` can take turns, and what is told of them then is what each of them comes to alone.
use Rattle.std.proofs.Common.{◌≡◌, ◌≤◌, ◌+◌, ◌*◌, ◌++◌, ℕ, suc, List, [], ◌∷◌, length, map, append-nil, Bool, true, false, ◌&&◌, ◌||◌, if◌then◌else◌, eqb, leb}
use Rattle.std.{proofs.Common.{ltb, None, Result, Ok, Err, IfOk, refl, sym, ap, subst, ◌∙◌, arith}, specs.Prelude.{◌^◌, All, slice_index_or}}
use Rattle.std.{specs.Int.div_ceil, specs.List.list_all, proofs.lemmas.Bool.{and_parts, and_from, or_parts, eqb-true, eq-eqb, eqb-false, ne_eqb, le-leb}}
use Rattle.std.{proofs.lemmas.Bool.{le-ltb, ltb-false}, proofs.lemmas.List.Elements.{All-head, All-tail, All-cons}, proofs.lemmas.List.Sums.sum_by-cons}
use Rattle.stack_text.{specs.Gives.GivesUnless, specs.Results.◌>>=◌, specs.Values.ValueOf}
use Rattle.fm_machine.specs.declared.processor.Run.{Run}
use Rattle.fm_machine.specs.declared.processor.Run.TheVariants as run
use Rattle.fm_image.{specs.Image.ImageOf, proofs.LimitLaws.sized}
use Rattle.fm_loader.specs.Values.{values_in}
use Rattle.display_maps.{specs.Reading.{ReadingOf, reading}, specs.Report.report_text}
use Rattle.fm_turns.{specs.declared.context.TaskContext.TaskContext, specs.declared.fault.TurnsFault.TurnsFault, specs.declared.task.Task.Task}
use Rattle.fm_turns.{specs.Alone.StaysInside, specs.EqualTurns.{RoundIsQuotient, whole_run, state_at_end, EndAsAlone}, specs.OwnMachines.own_machine}
use Rattle.fm_turns.{specs.Readings.readings_of, specs.Starting.{NewTask, new_task, adjoin_from, adjoin, total_size, window_size, started_in, side_by_side}}
use Rattle.fm_turns.{specs.Starting.started, specs.Turns.{TurnsOf, images_of, states_of}}
use Rattle.fm_turns.specs.declared.task.Task.TheVariants as state
use Rattle.gypsy_space.specs.Needs.{StackSizes}
use Rattle.stack_build.{specs.declared.fault.BuildFault.BuildFault, specs.Build.{BuiltOf, built, BuildsText}, specs.Inside.{BuiltAtBase, BuiltRunsInside}}
use Rattle.stack_build.specs.Joined.{BuiltImplements, BuiltTakesValues}
use Rattle.stack_commands.{specs.declared.turns.tasks.TasksFault.TasksFault, specs.declared.turns.tasks.TasksFault.TheVariants.{Count, Large}}
use Rattle.stack_commands.{specs.Internal.Tasks.{fault_of, TasksAreShort, AreReady}, specs.Internal.Told.{told_task, told_of, told_from, has_ended, told_reply}}
use Rattle.stack_commands.specs.Commands.Turns.{few_enough, image_or_fault, images_from, word_count, small_enough, values_or_fault, tasks_from, tasks_of}
use Rattle.stack_commands.specs.Commands.Turns.{last_round, round_line, task_text, tasks_text, is_end, tasks_verdict, tasks_reply}
use Rattle.command_replies.specs.declared.reply.Verdict.TheVariants as verdict
use Rattle.command_replies.{specs.Replies.{reply_text, verdict_line}, specs.Commands.Run.{end_reply, run_reply}}

-- 1. The images are built side by side.

-- the image is built of some text, in a window from this address on
record IsBuiltAt (sizes : StackSizes) (base : ℕ) (image : ImageOf) : Type 0 where
  text : List ℕ
  short : length text ≤ 2 ^ 31
  low : base ≤ 2 ^ 31
  found : BuiltOf
  made : built text sizes.ctrl sizes.temp base ≡ Ok found
  same : found.image ≡ image

-- each window begins where the one before it ends
abbrev AreBuiltFrom : StackSizes → ℕ → List ImageOf → Type 0
AreBuiltFrom sizes base [] = Unit {0}
AreBuiltFrom sizes base (image ∷ images) = IsBuiltAt sizes base image × AreBuiltFrom sizes (base + image.size) images

record AreBuilt (sizes : StackSizes) (base : ℕ) (sources : List (List ℕ)) (images : List ImageOf) : Type 0 where
  built_from : AreBuiltFrom sizes base images
  count : length images ≡ length sources

-- tasks of these images, from this address on, whose runs stay inside
record Follow (base : ℕ) (images : List ImageOf) (tasks : List NewTask) : Type 0 where
  stay : All StaysInside tasks
  side : adjoin_from base tasks ≡ true
  size : total_size tasks ≡ word_count images
  count : length tasks ≡ length images

module _ (implement : BuiltImplements) (take : BuiltTakesValues) (at_base : BuiltAtBase) (inside : BuiltRunsInside) (sizes : StackSizes) where
  builds : (base : ℕ) (image : ImageOf) (b : IsBuiltAt sizes base image) → BuildsText b.text sizes.ctrl sizes.temp b.found
  builds base image b =
      let made = b.made in
      rw made at (implement b.text sizes.ctrl sizes.temp base b.short b.low)

  window_few : (base : ℕ) (image : ImageOf) → IsBuiltAt sizes base image → image.size ≤ 2 ^ 20
  window_few base image b =
      subst (λ (i : ImageOf). i.size ≤ 2 ^ 20) b.same (sized b.found.image (builds base image b).builds.spells.limits).few

  -- the sources that follow are built behind an image
  abbrev LaterBuilt : ℕ → ℕ → List (List ℕ) → Type 0
  LaterBuilt i base sources =
      (image : ImageOf) (rest : List ImageOf) → base + image.size + length sources * 2 ^ 20 ≤ 2 ^ 31
      → images_from sizes (i + 1) (base + image.size) sources ≡ Ok rest
      → AreBuilt sizes (base + image.size) sources rest

  images_built : (i base : ℕ) (sources : List (List ℕ)) (images : List ImageOf) → TasksAreShort sources → images_from sizes i base sources ≡ Ok images
      → base + length sources * 2 ^ 20 ≤ 2 ^ 31
      → AreBuilt sizes base sources images
  images_built i base [] images short made low =
      let none : [] ≡ images = cc in
      subst (λ (xs : List ImageOf). AreBuilt sizes base [] xs) none (record { built_from = tt; count = refl })
  images_built i base (source ∷ sources) images short made low =
      by_built (λ image rest few is. images_built (i + 1) (base + image.size) sources rest
      (All-tail (λ text. length text ≤ 2 ^ 31) source sources short) is few)
      (built source sizes.ctrl sizes.temp base) refl made
    where
      by_rest : LaterBuilt i base sources → (image : ImageOf) → IsBuiltAt sizes base image → (r : Result (List ImageOf) TasksFault)
          → images_from sizes (i + 1) (base + image.size) sources ≡ r
          → (r >>= λ others. Ok (image ∷ others)) ≡ Ok images → AreBuilt sizes base (source ∷ sources) images
      by_rest later image b (Ok rest) is h =
          let few = window_few base image b in
          let all : image ∷ rest ≡ images = cc in
          let more = later image rest (omega arith) is in
          subst (λ (xs : List ImageOf). AreBuilt sizes base (source ∷ sources) xs) all
          (record { built_from = (b, more.built_from); count = ap suc more.count })
      by_rest later image b (Err fault) is h = absurd cc

      by_built : LaterBuilt i base sources → (r : Result BuiltOf BuildFault) → built source sizes.ctrl sizes.temp base ≡ r
          → (image_or_fault i r >>= λ image. images_from sizes (i + 1) (base + image.size) sources >>= λ others. Ok (image ∷ others)) ≡ Ok images
          → AreBuilt sizes base (source ∷ sources) images
      by_built later (Ok b) is h =
          let here : IsBuiltAt sizes base b.image = record {
            text = source;
            short = All-head (λ text. length text ≤ 2 ^ 31) source sources short;
            low = omega (arith, low);
            found = b;
            made = is;
            same = refl;
          } in
          by_rest later b.image here (images_from sizes (i + 1) (base + b.image.size) sources) refl h
      by_built later (Err fault) is h = absurd cc

  -- 2. The tasks follow.

  stays : (base : ℕ) (image : ImageOf) → IsBuiltAt sizes base image → (text : List ℕ) (values : List ValueOf) → values_in image.slots text ≡ Ok values
      → StaysInside (new_task image values)
  stays base image b text values gives =
      let made = builds base image b in
      let found : values_in b.found.image.slots text ≡ Ok values = ap (λ (i : ImageOf). values_in i.slots text) b.same ∙ gives in
      let fits = take b.text sizes.ctrl sizes.temp base made.source b.found text values b.short b.low made.read b.made found in
      subst (λ (i : ImageOf). StaysInside (new_task i values)) b.same
      (inside b.text sizes.ctrl sizes.temp base made.source b.found values b.short b.low made.read b.made fits)

  -- the tasks of the images that are left follow
  abbrev LaterTasks : List (List ℕ) → ℕ → ℕ → ImageOf → List ImageOf → Type 0
  LaterTasks texts i base image images = (rest : List NewTask) → tasks_from texts (i + 1) images ≡ Ok rest → Follow (base + image.size) images rest

  tasks_follow : (texts : List (List ℕ)) (i base : ℕ) (images : List ImageOf) (tasks : List NewTask) → AreBuiltFrom sizes base images
      → tasks_from texts i images ≡ Ok tasks → Follow base images tasks
  tasks_follow texts i base [] tasks b made =
      let none : [] ≡ tasks = cc in
      subst (λ (ts : List NewTask). Follow base [] ts) none (record { stay = λ k d lt. absurd (omega arith); side = refl; size = refl; count = refl })
  tasks_follow texts i base (image ∷ images) tasks b made =
      by_values (λ rest is. tasks_follow texts (i + 1) (base + image.size) images rest b.1 is) (values_in image.slots (slice_index_or texts i [])) refl made
    where
      by_rest : LaterTasks texts i base image images → (values : List ValueOf) → StaysInside (new_task image values)
          → (r : Result (List NewTask) TasksFault) → tasks_from texts (i + 1) images ≡ r
          → (r >>= λ others. Ok (new_task image values ∷ others)) ≡ Ok tasks → Follow base (image ∷ images) tasks
      by_rest later values here (Ok rest) is h =
          let more = later rest is in
          let all : new_task image values ∷ rest ≡ tasks = cc in
          let own : image.base ≡ base = subst (λ (i : ImageOf). i.base ≡ base) b.0.same (at_base b.0.text sizes.ctrl sizes.temp base b.0.found b.0.made) in
          subst (λ (ts : List NewTask). Follow base (image ∷ images) ts) all
          record {
            stay = All-cons StaysInside (new_task image values) rest here more.stay;
            side = and_from (eqb image.base base) (adjoin_from (base + image.size) rest) (eq-eqb image.base base own) more.side;
            size = sum_by-cons (λ task. task.image.size) (new_task image values) rest ∙ ap (λ n. image.size + n) more.size
                ∙ sym (sum_by-cons (λ i. i.size) image images);
            count = ap suc more.count;
          }
      by_rest later values here (Err fault) is h = absurd cc

      by_values : LaterTasks texts i base image images → (r : Result (List ValueOf) (ℕ × ℕ)) → values_in image.slots (slice_index_or texts i []) ≡ r
          → (values_or_fault i r >>= λ values. tasks_from texts (i + 1) images >>= λ others. Ok (new_task image values ∷ others)) ≡ Ok tasks
          → Follow base (image ∷ images) tasks
      by_values later (Ok values) is h =
          by_rest later values (stays base image b.0 (slice_index_or texts i []) values is) (tasks_from texts (i + 1) images) refl h
      by_values later (Err fault) is h = absurd cc

  -- 3. They can take turns.

  starting : (tasks : List NewTask) → 1 ≤ length tasks → length tasks ≤ 8 → adjoin_from 0 tasks ≡ true → total_size tasks ≤ 2 ^ 20
      → started tasks ≡ Ok (side_by_side tasks)
  unfolding window_size
  starting [] some few side small = absurd (omega arith)
  starting (task ∷ others) some few side small =
      let p = and_parts (eqb task.image.base 0) (adjoin_from (0 + task.image.size) others) side in
      let own : task.image.base ≡ 0 = eqb-true task.image.base 0 p.0 in
      let adjoins : adjoin (task ∷ others) ≡ true = subst (λ n. adjoin_from n (task ∷ others) ≡ true) (sym own) side in
      let low : leb 1 (length (task ∷ others)) ≡ true = le-leb 1 (length (task ∷ others)) some in
      let high : leb (length (task ∷ others)) 8 ≡ true = le-leb (length (task ∷ others)) 8 few in
      let fits : ltb 1048576 (total_size (task ∷ others)) ≡ false = le-ltb 1048576 (total_size (task ∷ others)) small in
      let window : window_size (task ∷ others) ≡ Ok (total_size (task ∷ others)) = rw (low, high, adjoins, fits) refl in
      ap (λ (r : Result ℕ TurnsFault). started_in r (task ∷ others)) window

  pub are_ready : (sources texts : List (List ℕ)) (tasks : List NewTask) → TasksAreShort sources → tasks_of sizes sources texts ≡ Ok tasks → AreReady tasks
  unfolding tasks_of
  are_ready sources texts tasks short made = by_count (eqb (length sources) 0 || ltb 8 (length sources)) refl made
    where
      by_size : 1 ≤ length sources → length sources ≤ 8 → (images : List ImageOf) → AreBuilt sizes 0 sources images → (large : Bool)
          → ltb (2 ^ 20) (word_count images) ≡ large
          → ((if large then Err (Large (word_count images)) else Ok images) >>= λ small. tasks_from texts 0 small) ≡ Ok tasks → AreReady tasks
      by_size some few images b true e h = absurd cc
      by_size some few images b false e h =
          let small = ltb-false (2 ^ 20) (word_count images) e in
          let follow = tasks_follow texts 0 0 images tasks b.built_from h in
          let images_count = b.count in
          let count = follow.count in
          let size = follow.size in
          record {
            few = omega arith;
            starts = starting tasks (omega arith) (omega arith) follow.side (omega arith);
            stay = follow.stay;
          }

      by_images : 1 ≤ length sources → length sources ≤ 8 → (r : Result (List ImageOf) TasksFault) → images_from sizes 0 0 sources ≡ r
          → (r >>= λ images. small_enough images >>= λ small. tasks_from texts 0 small) ≡ Ok tasks → AreReady tasks
      by_images some few (Ok images) is h =
          by_size some few images (images_built 0 0 sources images short is (omega arith)) (ltb (2 ^ 20) (word_count images)) refl h
      by_images some few (Err fault) is h = absurd cc

      by_count : (wrong : Bool) → (eqb (length sources) 0 || ltb 8 (length sources)) ≡ wrong
          → ((if wrong then Err Count else Ok sources) >>= λ few. images_from sizes 0 0 few >>= λ images. small_enough images
          >>= λ small. tasks_from texts 0 small) ≡ Ok tasks → AreReady tasks
      by_count true e h = absurd cc
      by_count false e h =
          let p = or_parts (eqb (length sources) 0) (ltb 8 (length sources)) e in
          let some = eqb-false (length sources) 0 p.0 in
          let few = ltb-false 8 (length sources) p.1 in
          by_images (omega arith) few (images_from sizes 0 0 sources) refl h

  -- so they are where a call made them
  pub ready_from : {X : Type 0} (refused : Type 0) (view : X → List NewTask) (sources texts : List (List ℕ)) (images small : List ImageOf)
      (result : Result X TasksFault)
      → TasksAreShort sources
      → 1 ≤ length sources → length sources ≤ 8 → images_from sizes 0 0 sources ≡ Ok images → small_enough images ≡ Ok small
      → GivesUnless refused fault_of view result (tasks_from texts 0 small)
      → IfOk result (λ x. AreReady (view x))
  unfolding tasks_of
  ready_from refused view sources texts images small (Err fault) short some few built fits made = tt
  ready_from refused view sources texts images small (Ok x) short some few built fits made =
      let none : eqb (length sources) 0 ≡ false = ne_eqb (length sources) 0 (λ e. omega arith) in
      let many : ltb 8 (length sources) ≡ false = le-ltb 8 (length sources) few in
      let enough : few_enough sources ≡ Ok sources = rw (none, many) refl in
      are_ready sources texts (view x) short
      (ap (λ (r : Result (List (List ℕ)) TasksFault). r >>= λ few. images_from sizes 0 0 few >>= λ images. small_enough images
      >>= λ small. tasks_from texts 0 small) enough
      ∙ ap (λ (r : Result (List ImageOf) TasksFault). r >>= λ images. small_enough images >>= λ small. tasks_from texts 0 small) built
      ∙ ap (λ (r : Result (List ImageOf) TasksFault). r >>= λ small. tasks_from texts 0 small) fits ∙ made)

-- before the first round the images are the tasks'
pub first_images : (tasks : List NewTask) → images_of (side_by_side tasks) ≡ map (λ task. task.image) tasks
first_images [] = refl
first_images (task ∷ tasks) = ap (λ (images : List ImageOf). task.image ∷ images) (first_images tasks)

-- 2. What is told of each task is what its run alone comes to.

module _ (quotient : RoundIsQuotient) (turn budget : ℕ) (some : 1 ≤ turn) where
  no_round : budget ≡ 0 → 0 ≡ div_ceil budget turn
  no_round none =
      let within : 0 ≤ 0 * turn = omega arith in
      quotient turn 0 0 some within ∙ ap (λ n. div_ceil n turn) (sym none)

  told_alone : (i : ℕ) (task : NewTask) → told_task budget i (state_at_end turn budget (whole_run budget task).run) task.image
      (reading task.image (whole_run budget task).state) ≡ task_text turn budget i task
  unfolding run_reply
  told_alone i task = by (whole_run budget task).run
    where
      spent : (none : Bool) → eqb budget 0 ≡ none
          → let state : Task = if none then state.Running 0 else state.Spent budget (div_ceil budget turn) in
          told_task budget i state task.image (reading task.image (whole_run budget task).state) ≡ round_line i (div_ceil budget turn)
          ++ reply_text (end_reply task.image budget run.Spent (whole_run budget task).state)
      spent true e = ap (λ n. round_line i n ++ verdict_line (verdict.Unfinished budget)) (no_round (eqb-true budget 0 e))
      spent false e = refl

      by : (r : Run) → told_task budget i (state_at_end turn budget r) task.image (reading task.image (whole_run budget task).state)
          ≡ round_line i (last_round turn budget r) ++ reply_text (end_reply task.image budget r (whole_run budget task).state)
      by (run.Ended count) =
          ap (λ (text : List ℕ). round_line i (div_ceil count turn) ++ text)
          (sym (append-nil (report_text task.image (reading task.image (whole_run budget task).state) count)))
      by run.Spent = spent (eqb budget 0) refl
      by (run.Outside address count) = refl

  ended_alone : (r : Run) → has_ended (state_at_end turn budget r) ≡ is_end r
  ended_alone (run.Ended count) = refl
  ended_alone run.Spent = by (eqb budget 0)
    where
      by : (none : Bool) → has_ended (if none then state.Running 0 else state.Spent budget (div_ceil budget turn)) ≡ false
      by true = refl
      by false = refl
  ended_alone (run.Outside address count) = refl

  -- by the lists of how the tasks stand, of their images and of what is read
  told_lists : ℕ → List Task → List ImageOf → List ReadingOf → List ℕ
  told_lists i (s ∷ states) (image ∷ images) (read ∷ reads) = told_task budget i s image read ++ told_lists (i + 1) states images reads
  told_lists i states images reads = []

  by_lists : (turns : TurnsOf) (i : ℕ) (contexts : List TaskContext) → told_from budget turns i contexts
      ≡ told_lists i (map (λ context. context.state) contexts) (map (λ context. context.image) contexts)
      (map (λ context. reading context.image (own_machine turns context)) contexts)
  unfolding told_lists
  by_lists turns i [] = refl
  by_lists turns i (context ∷ contexts) = ap (λ (text : List ℕ). told_of budget turns i context ++ text) (by_lists turns (i + 1) contexts)

  lists_alone : (i : ℕ) (tasks : List NewTask) → told_lists i (map (λ task. state_at_end turn budget (whole_run budget task).run) tasks)
      (map (λ task. task.image) tasks) (map (λ task. reading task.image (whole_run budget task).state) tasks)
      ≡ tasks_text turn budget i tasks
  unfolding told_lists
  lists_alone i [] = refl
  lists_alone i (task ∷ tasks) =
      ap (λ (text : List ℕ). text ++ told_lists (i + 1) (map (λ task. state_at_end turn budget (whole_run budget task).run) tasks)
      (map (λ task. task.image) tasks) (map (λ task. reading task.image (whole_run budget task).state) tasks)) (told_alone i task)
      ∙ ap (λ (text : List ℕ). task_text turn budget i task ++ text) (lists_alone (i + 1) tasks)

  all_ended : (tasks : List NewTask) → list_all has_ended (map (λ task. state_at_end turn budget (whole_run budget task).run) tasks)
      ≡ list_all (λ task. is_end (whole_run budget task).run) tasks
  all_ended [] = refl
  all_ended (task ∷ tasks) =
      ap (λ (b : Bool). b && list_all has_ended (map (λ task. state_at_end turn budget (whole_run budget task).run) tasks))
      (ended_alone (whole_run budget task).run)
      ∙ ap (λ (b : Bool). is_end (whole_run budget task).run && b) (all_ended tasks)

  -- the reply is that of the tasks alone
  pub tells_alone : (tasks : List NewTask) (turns : TurnsOf) → images_of turns ≡ map (λ task. task.image) tasks → EndAsAlone turn budget tasks turns
      → told_reply budget turns ≡ tasks_reply turn budget tasks
  unfolding tasks_reply
  tells_alone tasks turns images ends =
      let states : List Task = map (λ task. state_at_end turn budget (whole_run budget task).run) tasks in
      let reads : List ReadingOf = map (λ task. reading task.image (whole_run budget task).state) tasks in
      let text : told_from budget turns 0 turns.contexts ≡ tasks_text turn budget 0 tasks =
      by_lists turns 0 turns.contexts
      ∙ ap (λ (ss : List Task). told_lists 0 ss (images_of turns) (readings_of turns)) ends.states
      ∙ ap (λ (is : List ImageOf). told_lists 0 states is (readings_of turns)) images
      ∙ ap (λ (rs : List ReadingOf). told_lists 0 states (map (λ task. task.image) tasks) rs) ends.readings
      ∙ lists_alone 0 tasks in
      let ended : list_all has_ended (states_of turns) ≡ list_all (λ task. is_end (whole_run budget task).run) tasks =
      ap (list_all has_ended) ends.states ∙ all_ended tasks in
      λ i. record { said = text i; verdict = tasks_verdict (ended i); state = None }

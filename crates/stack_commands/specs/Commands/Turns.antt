-- The command `turns`: sources that are built side by side, and whose images take turns in one memory. What is replied is said here by
-- each task alone, so no definition knows of that memory.
use Rattle.std.specs.Prelude.{ℕ, ◌+◌, ◌==◌, ◌||◌, List, [], ◌∷◌, ◌++◌, length, sum_by, slice_index_or, nat_lt, if◌then◌else◌, Bool, true}
use Rattle.std.specs.{Prelude.{false, None, Result, Ok, Err, codes}, Fmt.{decimal}, Int.{div_ceil}, List.{list_all}}
use Rattle.fm_words.specs.WindowLimit.{most_window}
use Rattle.stack_text.specs.{SharedLimits.{most_tasks}, Lines.{line}, Results.{◌>>=◌}, Values.{ValueOf}}
use Rattle.fm_machine.specs.declared.processor.Run.{Run}
use Rattle.fm_machine.specs.declared.processor.Run.TheVariants as run
use Rattle.fm_image.specs.Image.{ImageOf}
use Rattle.fm_loader.specs.Values.{values_in}
use Rattle.fm_turns.specs.{EqualTurns.{whole_run}, Starting.{NewTask, new_task}}
use Rattle.gypsy_space.specs.Needs.{StackSizes}
use Rattle.stack_build.specs.{declared.fault.BuildFault.{BuildFault}, Build.{BuiltOf, built}}
use Rattle.stack_commands.specs.{declared.turns.tasks.TasksFault.{TasksFault}, declared.turns.tasks.TasksFault.TheVariants.{Count, Refused}}
use Rattle.stack_commands.specs.{declared.turns.tasks.TasksFault.TheVariants.{Large, Memory}, Commands.SourceText.{build_verdict}}
use Rattle.command_replies.specs.declared.reply.SizeOf.TheVariants as size
use Rattle.command_replies.specs.{declared.reply.Verdict.{Verdict}, declared.reply.Verdict.TheVariants.{Done, Usage, Values, Size}}
use Rattle.command_replies.specs.{declared.reply.Verdict.TheVariants.{SomeUnfinished}, Replies.{ReplyOf, verdict_alone, reply_text}}
use Rattle.command_replies.specs.Commands.Run.{run_reply}

-- 1. The tasks: an image and values for each source, or the first fault. Tasks are counted from 0 here, and from 1 in what is printed.

-- there are 1 to 8 of them; the words of a command never name others
abbrev pub few_enough : List (List ℕ) → Result (List (List ℕ)) TasksFault
few_enough sources = if length sources == 0 || nat_lt most_tasks (length sources) then Err Count else Ok sources

abbrev pub image_or_fault : ℕ → Result BuiltOf BuildFault → Result ImageOf TasksFault
image_or_fault i (Ok built) = Ok built.image
image_or_fault i (Err fault) = Err (Refused (i + 1) (build_verdict fault))

-- the images of sources, counted from i, in windows that lie side by side from an address on
abbrev pub images_from : StackSizes → ℕ → ℕ → List (List ℕ) → Result (List ImageOf) TasksFault
images_from sizes i base [] = Ok []
images_from sizes i base (source ∷ sources) = do
  image ← image_or_fault i (built source sizes.ctrl sizes.temp base)
  images ← images_from sizes (i + 1) (base + image.size) sources
  Ok (image ∷ images)

abbrev pub word_count : List ImageOf → ℕ
word_count images = sum_by (λ image. image.size) images

-- the windows have at most 2^20 words together
abbrev pub small_enough : List ImageOf → Result (List ImageOf) TasksFault
small_enough images = if nat_lt most_window (word_count images) then Err (Large (word_count images)) else Ok images

abbrev pub values_or_fault : ℕ → Result (List ValueOf) (ℕ × ℕ) → Result (List ValueOf) TasksFault
values_or_fault i (Ok values) = Ok values
values_or_fault i (Err fault) = Err (Refused (i + 1) (Values fault.0 fault.1))

-- each image, counted from i, with the values in the text of its number
abbrev pub tasks_from : List (List ℕ) → ℕ → List ImageOf → Result (List NewTask) TasksFault
tasks_from texts i [] = Ok []
tasks_from texts i (image ∷ images) = do
  values ← values_or_fault i (values_in image.slots (slice_index_or texts i []))
  tasks ← tasks_from texts (i + 1) images
  Ok (new_task image values ∷ tasks)

-- the tasks of these sources and texts of values, for stacks of these sizes
unfoldable pub tasks_of : StackSizes → List (List ℕ) → List (List ℕ) → Result (List NewTask) TasksFault
tasks_of sizes sources texts = do
  few ← few_enough sources
  images ← images_from sizes 0 0 few
  small ← small_enough images
  tasks_from texts 0 small

-- 2. What is told of them.

-- the round in which a run is over that comes to its end so, where each turn has so many instructions
abbrev pub last_round : ℕ → ℕ → Run → ℕ
last_round turn budget (run.Ended count) = div_ceil count turn
last_round turn budget run.Spent = div_ceil budget turn
last_round turn budget (run.Outside address count) = div_ceil (count + 1) turn

abbrev pub round_line : ℕ → ℕ → List ℕ
round_line i round = line (codes "task " ++ decimal (i + 1) ++ codes " round " ++ decimal round)

-- its round, and then what `run` says of its image and values
abbrev pub task_text : ℕ → ℕ → ℕ → NewTask → List ℕ
task_text turn budget i task =
    round_line i (last_round turn budget (whole_run budget task).run) ++ reply_text (run_reply task.image task.values budget)

-- tasks that are counted from i, one after the other
abbrev pub tasks_text : ℕ → ℕ → ℕ → List NewTask → List ℕ
tasks_text turn budget i [] = []
tasks_text turn budget i (task ∷ tasks) = task_text turn budget i task ++ tasks_text turn budget (i + 1) tasks

abbrev pub is_end : Run → Bool
is_end (run.Ended count) = true
is_end run = false

-- all came to their defined ends, or some are unfinished
abbrev pub tasks_verdict : Bool → Verdict
tasks_verdict ended = if ended then Done else SomeUnfinished

unfoldable pub tasks_reply : ℕ → ℕ → List NewTask → ReplyOf
tasks_reply turn budget tasks = record {
  said = tasks_text turn budget 0 tasks;
  verdict = tasks_verdict (list_all (λ task. is_end (whole_run budget task).run) tasks);
  state = None;
}

-- a fault of one task has its number before it; no definition runs out of memory
abbrev pub fault_reply : TasksFault → ReplyOf
fault_reply Count = verdict_alone Usage
fault_reply (Refused number verdict) = record { said = line (codes "task " ++ decimal number); verdict = verdict; state = None }
fault_reply (Large words) = verdict_alone (Size size.Words words)
fault_reply Memory = verdict_alone Usage

abbrev pub turns_by : ℕ → ℕ → Result (List NewTask) TasksFault → ReplyOf
turns_by turn budget (Ok tasks) = tasks_reply turn budget tasks
turns_by turn budget (Err fault) = fault_reply fault

-- what is replied to these sources and texts of values, where each turn has so many instructions
abbrev pub turns_reply : ℕ → ℕ → StackSizes → List (List ℕ) → List (List ℕ) → ReplyOf
turns_reply turn budget sizes sources texts = turns_by turn budget (tasks_of sizes sources texts)

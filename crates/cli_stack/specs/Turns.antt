-- That what is told of sources whose images take turns is, of each of them, what its meaning is, or that this isn't done within the budget.
use Rattle.std.specs.{Prelude.{◌≡◌, ◌≤◌, ◌⊎◌, ℕ, ◌+◌, List, [], ◌∷◌, ◌++◌, Ok, All, map}, Int.{div_ceil}}
use Rattle.fm_words.specs.WindowLimit.{most_window}
use Rattle.stack_text.specs.Values.{ValueOf}
use Rattle.stack_shelf.specs.Files.{Files}
use Rattle.fm_image.specs.Image.{ImageOf}
use Rattle.fm_loader.specs.Values.{values_in}
use Rattle.gypsy_syntax.specs.Sources.{SourceOf}
use Rattle.gypsy_space.specs.Needs.{StackSizes, stack_sizes}
use Rattle.gypsy_semantics.specs.Calls.{CurrentCondition}
use Rattle.stack_build.specs.{Build.{BuiltOf, built, accepted_source}, Implements.{Finishes}}
use Rattle.command_line.specs.{declared.command.Command.{Command}, declared.command.Command.TheVariants.{Turns}}
use Rattle.command_line.specs.{declared.command.TaskFiles.{TaskFiles}, declared.role.Role.TheVariants.{TaskSource, TaskValues}}
use Rattle.command_line.specs.declared.status.Status.TheVariants.{Done, Unfinished}
use Rattle.cli_stack.specs.{Answer.{Answer}, Decides.{IsDone, IsNotDone}, FilesAndSizes.{IsReadable}, Kept.{IsRunEnd}}
use Rattle.stack_commands.specs.Commands.Turns.{word_count, round_line}

-- 1. The tasks.

-- a source, its image, and the values of main's formals
pub record TaskOf : Type 0 where
  pub source : SourceOf
  pub image : ImageOf
  pub values : List ValueOf

-- its files are there, the source is built for stacks of these sizes and a window from this base on, and the values fit
pub record IsTask (files : Files) (sizes : StackSizes) (base : ℕ) (names : TaskFiles) (task : TaskOf) : Type 0 where
  pub text : List ℕ
  pub there : IsReadable files TaskSource names.source text
  pub read : accepted_source text ≡ Ok task.source
  pub found : BuiltOf
  pub made : built text sizes.ctrl sizes.temp base ≡ Ok found
  pub same : found.image ≡ task.image
  pub values_text : List ℕ
  pub values_there : IsReadable files TaskValues names.values values_text
  pub gives : values_in task.image.slots values_text ≡ Ok task.values

-- so it is of each task, in windows that lie side by side
abbrev pub AreTasks : Files → StackSizes → ℕ → List TaskFiles → List TaskOf → Type 0
AreTasks files sizes base [] [] = Unit {0}
AreTasks files sizes base (names ∷ others) (task ∷ tasks) =
    IsTask files sizes base names task × AreTasks files sizes (base + task.image.size) others tasks
AreTasks files sizes base names tasks = ⊥

-- 2. What is told of them.

-- the round in which it is over, by the instructions that it makes, and then what `run` answers of it alone: its meaning, or `unfinished`
pub record TellsTask (sizes : StackSizes) (turn budget i : ℕ) (task : TaskOf) (text : List ℕ) : Type 0 where
  pub alone : Answer
  pub made : ℕ
  pub told : text ≡ round_line i (div_ceil made turn) ++ alone.text
  pub either : ((done : IsDone task.source sizes task.image task.values budget alone) × (made ≡ done.count))
      ⊎ (IsNotDone task.source sizes task.values budget alone × (made ≡ budget))

-- tasks that are counted from i, one after the other
abbrev pub TellsInTurn : StackSizes → ℕ → ℕ → ℕ → List TaskOf → List ℕ → Type 0
TellsInTurn sizes turn budget i [] text = text ≡ []
TellsInTurn sizes turn budget i (task ∷ tasks) text =
    (first : List ℕ) × (others : List ℕ) × (text ≡ first ++ others)
    × TellsTask sizes turn budget i task first × TellsInTurn sizes turn budget (i + 1) tasks others

-- the meaning of the task is done within the budget
pub record IsDoneWithin (sizes : StackSizes) (budget : ℕ) (task : TaskOf) : Type 0 where
  pub finals : List ValueOf
  pub way : CurrentCondition
  pub count : ℕ
  pub meant : Finishes task.source sizes task.values finals way count
  pub within : count ≤ budget

-- the status is 0 where all tasks are done within the budget, and else 5
pub record TellsTasks (sizes : StackSizes) (turn budget : ℕ) (tasks : List TaskOf) (answer : Answer) : Type 0 where
  pub text : TellsInTurn sizes turn budget 0 tasks answer.text
  pub ends : (answer.status ≡ Done) ⊎ (answer.status ≡ Unfinished)
  pub done : answer.status ≡ Done → All (IsDoneWithin sizes budget) tasks
  pub all : All (IsDoneWithin sizes budget) tasks → answer.status ≡ Done

-- the files are those of tasks, whose windows have at most 2^20 words together
pub record HasTasks (files : Files) (sizes : StackSizes) (names : List TaskFiles) : Type 0 where
  pub tasks : List TaskOf
  pub are : AreTasks files sizes 0 names tasks
  pub fit : word_count (map (λ task. task.image) tasks) ≤ most_window

pub record TellsTurns (files : Files) (sizes : StackSizes) (turn budget : ℕ) (names : List TaskFiles) (answer : Answer) : Type 0 where
  -- at status 0, 5 or 6 all were ready
  pub ready : IsRunEnd answer.status → HasTasks files sizes names
  -- where all are ready, they are told so, and the status is 0 or 5
  pub told : (is : HasTasks files sizes names) → TellsTasks sizes turn budget is.tasks answer

abbrev pub TellsEach : Command → Files → Answer → Type 0
TellsEach (Turns turn budget control temporary names) files answer =
    TellsTurns files (stack_sizes control temporary) turn budget names answer
TellsEach _ files answer = Unit {0}

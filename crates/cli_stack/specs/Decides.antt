-- What `go` decides: that the meaning is done within the budget, which it then tells, or that it isn't.
use Rattle.std.specs.Prelude.{◌≡◌, ◌≤◌, ◌<◌, ◌⊎◌, ℕ, List, Ok}
use Rattle.stack_text.specs.Values.{ValueOf}
use Rattle.fm_image.specs.Image.{ImageOf}
use Rattle.fm_loader.specs.Values.{values_in}
use Rattle.stack_shelf.specs.Files.{Files}
use Rattle.gypsy_syntax.specs.{Resolved.{program_of}, Sources.{SourceOf}}
use Rattle.gypsy_space.specs.Needs.{StackSizes, stack_sizes}
use Rattle.gypsy_semantics.specs.{Calls.{CurrentCondition}, Meaning.{Unfinished as MeaningUnfinished, meaning}}
use Rattle.stack_build.specs.{Implements.{Finishes}, Moments.{KeepsMoments}}
use Rattle.command_line.specs.{declared.command.Command.{Command}, declared.command.Command.TheVariants.{Run, Go}}
use Rattle.command_line.specs.{declared.role.Role.TheVariants.{Values}, declared.status.Status.TheVariants.{Unfinished}}
use Rattle.command_replies.specs.declared.reply.Verdict.TheVariants as verdict
use Rattle.command_replies.specs.Replies.{verdict_line}
use Rattle.cli_stack.specs.{Answer.{Answer}, FilesAndSizes.{IsReadable}, Kept.{IsRunEnd}, Tells.{IsBuilt, IsRead, TellsReport}}

-- 1. What is decided of a run of an image.

-- the answer is that the budget was used up
pub record TellsUnfinished (budget : ℕ) (answer : Answer) : Type 0 where
  pub status : answer.status ≡ Unfinished
  pub text : answer.text ≡ verdict_line (verdict.Unfinished budget)

-- the meaning is done within the budget, and is told
pub record IsDone (source : SourceOf) (sizes : StackSizes) (image : ImageOf) (values : List ValueOf) (budget : ℕ)
    (answer : Answer) : Type 0 where
  pub finals : List ValueOf
  pub way : CurrentCondition
  pub count : ℕ
  pub meant : Finishes source sizes values finals way count
  pub within : count ≤ budget
  pub tells : TellsReport source image finals way count answer

-- the meaning isn't done within the budget, and that is told
pub record IsNotDone (source : SourceOf) (sizes : StackSizes) (values : List ValueOf) (budget : ℕ) (answer : Answer) : Type 0 where
  pub beyond : (finals : List ValueOf) (way : CurrentCondition) (count : ℕ) → Finishes source sizes values finals way count → budget < count
  pub tells : TellsUnfinished budget answer

pub record Decided (source : SourceOf) (sizes : StackSizes) (image : ImageOf) (values : List ValueOf) (budget : ℕ)
    (answer : Answer) : Type 0 where
  pub either : IsDone source sizes image values budget answer ⊎ IsNotDone source sizes values budget answer
  -- so where the meaning is done at no bound, the answer is `unfinished`, whatever the budget
  pub endless : ((bound : ℕ) → meaning (program_of source) sizes values bound ≡ MeaningUnfinished) → TellsUnfinished budget answer

-- 2. `go`.

-- the files of a source and of its values are there; the source is built for stacks of these sizes, and the values fit
pub record IsReadyToRun (files : Files) (source_name values_name : List ℕ) (sizes : StackSizes) : Type 0 where
  pub source : SourceOf
  pub image : ImageOf
  pub built : IsBuilt files source_name sizes source image
  pub values_text : List ℕ
  pub there : IsReadable files Values values_name values_text
  pub values : List ValueOf
  pub gives : values_in image.slots values_text ≡ Ok values

pub record DecidesGo (files : Files) (source_name values_name : List ℕ) (sizes : StackSizes) (budget : ℕ) (answer : Answer) : Type 0 where
  -- at status 0, 5 or 6 all was ready
  pub ready : IsRunEnd answer.status → IsReadyToRun files source_name values_name sizes
  -- where all is ready, the status is 0 or 5, as the meaning is done within the budget or isn't
  pub decided : (is : IsReadyToRun files source_name values_name sizes) → Decided is.source sizes is.image is.values budget answer

-- 3. All commands: `run` decides it of an image that keeps to a source at every moment.

abbrev pub Decides : Command → Files → Answer → Type 0
Decides (Go source_name values_name control temporary budget image_name) files answer =
    DecidesGo files source_name values_name (stack_sizes control temporary) budget answer
Decides (Run image_name values_name budget) files answer =
    (sizes : StackSizes) (source : SourceOf) (image : ImageOf) (values_text : List ℕ) (values : List ValueOf) →
    IsRead files image_name sizes source image values → KeepsMoments image source sizes → IsReadable files Values values_name values_text →
    values_in image.slots values_text ≡ Ok values → Decided source sizes image values budget answer
Decides _ files answer = Unit {0}

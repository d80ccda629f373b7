-- That a run of an image which does a source quickly tells what the source means.
use Rattle.std.specs.Prelude.{◌≡◌, ◌≤◌, ◌<◌, ◌⊎◌, ℕ, List, Ok}
use Rattle.stack_text.specs.Values.{ValueOf}
use Rattle.fm_image.specs.{Image.{ImageOf}, Spelling.{Spelled}}
use Rattle.fm_loader.specs.Values.{values_in}
use Rattle.stack_shelf.specs.Files.{Files}
use Rattle.gypsy_syntax.specs.{Resolved.{program_of}, Sources.{SourceOf}}
use Rattle.gypsy_space.specs.Needs.{StackSizes}
use Rattle.gypsy_semantics.specs.{Calls.{CurrentCondition}, Views.Moments.{NeverEnds}}
use Rattle.stack_build.specs.Implements.{FitsFormals, Finishes}
use Rattle.quick_generate.specs.DoesQuickly.{DoesQuickly}
use Rattle.command_line.specs.{declared.command.Command.{Command}, declared.command.Command.TheVariants.{Run}}
use Rattle.command_line.specs.declared.role.Role.TheVariants.{Image, Values}
use Rattle.cli_stack.specs.{Answer.{Answer}, Decides.{IsNotDone, TellsUnfinished}, FilesAndSizes.{IsReadable}, Tells.{TellsReport}}

-- a file spells an image that does what the source means, for stacks of these sizes, in no more instructions than are counted; and the
-- values are for the source's variables
pub record IsQuickRead (files : Files) (name : List ℕ) (sizes : StackSizes) (source : SourceOf) (image : ImageOf)
    (values : List ValueOf) : Type 0 where
  pub bytes : List ℕ
  pub readable : IsReadable files Image name bytes
  pub spells : Spelled bytes image
  pub does : DoesQuickly image source sizes
  pub fit : FitsFormals source values

-- the run takes so many instructions: if the budget is enough, the report of the meaning is told, and else that the budget was used up
pub record TellsAtSteps (source : SourceOf) (image : ImageOf) (finals : List ValueOf) (way : CurrentCondition) (count budget : ℕ)
    (answer : Answer) : Type 0 where
  pub steps : ℕ
  pub fewer : steps ≤ count
  pub enough : steps ≤ budget → TellsReport source image finals way steps answer
  pub scarce : budget < steps → TellsUnfinished budget answer

-- the meaning is done, and is told after no more instructions than are counted, and than the budget has
pub record IsDoneQuickly (source : SourceOf) (sizes : StackSizes) (image : ImageOf) (values : List ValueOf) (budget : ℕ)
    (answer : Answer) : Type 0 where
  pub finals : List ValueOf
  pub way : CurrentCondition
  pub count : ℕ
  pub meant : Finishes source sizes values finals way count
  pub steps : ℕ
  pub fewer : steps ≤ count
  pub within : steps ≤ budget
  pub tells : TellsReport source image finals way steps answer

pub record TellsQuickly (source : SourceOf) (sizes : StackSizes) (image : ImageOf) (values : List ValueOf) (budget : ℕ)
    (answer : Answer) : Type 0 where
  -- if the meaning is done after so many counted instructions, it is told after no more
  pub told : (finals : List ValueOf) (way : CurrentCondition) (count : ℕ) → Finishes source sizes values finals way count
      → TellsAtSteps source image finals way count budget answer
  -- the answer is a meaning, or that the budget was used up; and then the meaning isn't done within it
  pub either : IsDoneQuickly source sizes image values budget answer ⊎ IsNotDone source sizes values budget answer
  -- if the source never ends, the budget is used up, whatever it is
  pub endless : NeverEnds (program_of source) sizes values → TellsUnfinished budget answer

-- `run` tells it of such an image
abbrev pub RunsQuickly : Command → Files → Answer → Type 0
RunsQuickly (Run image_name values_name budget) files answer =
    (sizes : StackSizes) (source : SourceOf) (image : ImageOf) (values_text : List ℕ) (values : List ValueOf) →
    IsQuickRead files image_name sizes source image values → IsReadable files Values values_name values_text →
    values_in image.slots values_text ≡ Ok values → TellsQuickly source sizes image values budget answer
RunsQuickly _ files answer = Unit {0}

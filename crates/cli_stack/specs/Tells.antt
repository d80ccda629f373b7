-- That what a command prints is what its source means.
use Rattle.std.specs.Prelude.{◌≡◌, ◌≤◌, ◌⊎◌, ℕ, List, Option, Some, None, Ok, IsSomeAnd}
use Rattle.stack_text.specs.Values.{ValueOf}
use Rattle.fm_image.specs.{Image.{ImageOf}, Spelling.{Spelled}}
use Rattle.fm_loader.specs.Values.{values_in}
use Rattle.display_maps.specs.Report.{report_text}
use Rattle.stack_shelf.specs.Files.{Files}
use Rattle.gypsy_syntax.specs.Sources.{SourceOf}
use Rattle.gypsy_space.specs.Needs.{StackSizes, stack_sizes}
use Rattle.gypsy_semantics.specs.Calls.{CurrentCondition}
use Rattle.stack_build.specs.{Build.{BuiltOf, built, accepted_source}, Implements.{meaning_shown, FitsFormals, Finishes, Implements}}
use Rattle.command_line.specs.{declared.command.Command.{Command}, declared.command.Command.TheVariants.{Run, Go}}
use Rattle.command_line.specs.{declared.role.Role.TheVariants.{Source, Image, Values}, declared.status.Status.TheVariants.{Done}}
use Rattle.cli_stack.specs.{Answer.{Answer}, FilesAndSizes.{ReadsFile, StoresFile, IsReadable}}

-- an image that is built from the source in a file, with these sizes of the stacks, or one that is read
pub data RunnableProgram : Type 0 where
  BuiltFrom : (source : List ℕ) (sizes : StackSizes) → RunnableProgram
  ReadFrom : (image : List ℕ) → RunnableProgram

-- a program, the file of its values, and the most instructions
pub record RunOf : Type 0 where
  pub program : RunnableProgram
  pub values : List ℕ
  pub budget : ℕ

-- what a command runs
abbrev pub planned_run : Command → Option RunOf
planned_run (Run image values budget) = Some (record { program = ReadFrom image; values = values; budget = budget })
planned_run (Go source values control temporary budget image) =
    Some (record { program = BuiltFrom source (stack_sizes control temporary); values = values; budget = budget })
planned_run _ = None

-- the image is built from the source in a file, for stacks of these sizes
pub record IsBuilt (files : Files) (name : List ℕ) (sizes : StackSizes) (source : SourceOf) (image : ImageOf) : Type 0 where
  pub text : List ℕ
  pub readable : IsReadable files Source name text
  pub read : accepted_source text ≡ Ok source
  pub found : BuiltOf
  pub made : built text sizes.ctrl sizes.temp 0 ≡ Ok found
  pub same : found.image ≡ image

-- a file spells the image, which implements the source for stacks of these sizes, and the values are for the source's variables
pub record IsRead (files : Files) (name : List ℕ) (sizes : StackSizes) (source : SourceOf) (image : ImageOf)
    (values : List ValueOf) : Type 0 where
  pub bytes : List ℕ
  pub readable : IsReadable files Image name bytes
  pub spells : Spelled bytes image
  pub implements : Implements image source sizes
  pub fit : FitsFormals source values

-- the program is this image of this source, for stacks of these sizes
abbrev pub IsProgram : Files → RunnableProgram → StackSizes → SourceOf → ImageOf → List ValueOf → Type 0
IsProgram files (BuiltFrom name given) sizes source image values = (given ≡ sizes) × IsBuilt files name sizes source image
IsProgram files (ReadFrom name) sizes source image values = IsRead files name sizes source image values

-- the answer is that all went well, and the report of these variables and this condition after so many instructions
pub record TellsReport (source : SourceOf) (image : ImageOf) (finals : List ValueOf) (way : CurrentCondition) (count : ℕ)
    (answer : Answer) : Type 0 where
  pub status : answer.status ≡ Done
  pub text : answer.text ≡ report_text image (meaning_shown source finals way) count

-- where the files are there, the values fit, and the meaning is done within the budget, its variables and its condition are told
abbrev pub TellsRun : RunOf → Files → Answer → Type 0
TellsRun run files answer =
    (sizes : StackSizes) (source : SourceOf) (image : ImageOf) (values_text : List ℕ) (values finals : List ValueOf)
    (way : CurrentCondition) (count : ℕ)
    → IsProgram files run.program sizes source image values → IsReadable files Values run.values values_text
    → values_in image.slots values_text ≡ Ok values → Finishes source sizes values finals way count
    → count ≤ run.budget → TellsReport source image finals way count answer

-- the command has an image: it reads one, or stores one
abbrev pub HasImage : Command → Type 0
HasImage command = ((name : List ℕ) × ReadsFile command Image name) ⊎ ((name : List ℕ) × StoresFile command Image name)

-- who has an image and reads values runs the image on them, and tells what its source means
abbrev pub TellsMeanings : Command → Files → Answer → Type 0
TellsMeanings command files answer =
    (values : List ℕ) → ReadsFile command Values values → HasImage command
    → IsSomeAnd (planned_run command) (λ run. (run.values ≡ values) × TellsRun run files answer)

-- What the program does with its devices.
use Rattle.std.specs.Prelude.{◌≡◌, ◌≢◌, ◌⊎◌, ℕ, List, Option, Some, IfSome}
use Rattle.stack_shelf.specs.{Files.{Files}, Causes.{Rose}, Shelf.{appended}}
use Rattle.level_debuggers.specs.Tallies.{Watching}
use Rattle.command_line.specs.{declared.command.Command.{Command}, declared.status.Status.{Status}}
use Rattle.command_line.specs.declared.status.Status.TheVariants.{Missing, ShelfFault, SinkFault, Size, OutOfMemory, NoWords}
use Rattle.command_line.specs.{Status.{status_code}, CommandRows.{command_of}, Ends.{end_line}, CommandFiles.{input_names, file_names}}
use Rattle.command_line.specs.declared.early_end.EarlyEnd.TheVariants as end
use Rattle.cli_stack.specs.{Answer.{Answer, answer_by}, World.{World}, Completes.{CompletesCommand}, Agrees.{Agrees}, Causes.{RoseAt}}
use Rattle.cli_stack.specs.{Remains.{HoldsPart, LeavesFiles, PrintsPrefix}, RepliesTo.{Devices, Replies}, Kept.{RunsImage, IsRunEnd}}

-- over a shelf whose files are known
pub record KeepsWithFiles (command : Option Command) (answer : Answer) (files : Files) (before after : World) (status : Status) :
    Type 0 where
  -- it does what is answered, unless a device failed or memory ran out
  pub answers : status ≢ ShelfFault → status ≢ SinkFault → status ≢ OutOfMemory → Agrees answer files before after status
  -- who reads a source and values and stores an image does all that it is for, where nothing is wrong and no device fails
  pub completes : status ≢ OutOfMemory → IfSome command (λ c. CompletesCommand c files before after status)
  -- what such a failure leaves
  pub files_at_10 : status ≡ ShelfFault → HoldsPart (Some files) after.shelf.files answer.output
  pub files_at_11 : status ≡ SinkFault → LeavesFiles files answer.output (file_names command) before after
  pub files_at_14 : status ≡ OutOfMemory →
      (after.shelf.files ≡ Some files) ⊎ LeavesFiles files answer.output (file_names command) before after
  pub text : (status ≡ SinkFault) ⊎ (status ≡ OutOfMemory) → PrintsPrefix answer.text (file_names command) before after

-- a file that the command reads is longer than its role allows
abbrev pub IsTooLong : Option Command → World → World → Status → Type 0
IsTooLong command before after status =
    (status ≡ Size) × RoseAt (λ c. c.overruns) (input_names command) before.shelf after.shelf (λ name. Unit {0})

-- over every shelf and every sink
pub record KeepsPromises {S K : Type 0} (may_refuse : Type 0) (devices : Devices S K) (command : Option Command) (watches : List Watching)
    (before after : World) (status : Status) : Type 0 where
  pub known : IfSome before.shelf.files (λ files.
      KeepsWithFiles command (answer_by command watches files) files before after status)
  -- it replies to some texts, unless a file is missing or too long, a device fails, or memory runs out
  pub replies : status ≢ Missing → status ≢ ShelfFault → status ≢ SinkFault → status ≢ OutOfMemory
      → IsTooLong command before after status ⊎ Replies devices command watches before after status
  -- a call that has its words never ends for want of them
  pub words_read : status ≢ NoWords
  -- why a device's failure is the status, and at which name
  pub missing : status ≡ Missing → RoseAt (λ c. c.absences) (input_names command) before.shelf after.shelf
      (λ name. after.out.taken ≡ appended before.out.taken (end_line (end.Missing name)))
  pub shelf_fault : status ≡ ShelfFault → RoseAt (λ c. c.faults) (file_names command) before.shelf after.shelf
      (λ name. after.out.taken ≡ appended before.out.taken (end_line (end.ShelfFault name)))
  pub sink_fault : status ≡ SinkFault → Rose before.out.faults after.out.faults
  -- memory runs out only where the heap or a device may refuse it
  pub out_of_memory : status ≡ OutOfMemory → may_refuse
  -- only the end of a run changes the place for the machine
  pub kept : ¬ (RunsImage command × IsRunEnd status) → after.out.kept ≡ before.out.kept

-- to these words: the result is the number of a status that keeps all that
abbrev pub Promises : {S K : Type 0} → Type 0 → Devices S K → List (List ℕ) → List Watching → World → World → ℕ → Type 0
Promises may_refuse devices words watches before after result =
    (status : Status) × (result ≡ status_code status) × KeepsPromises may_refuse devices (command_of words) watches before after status

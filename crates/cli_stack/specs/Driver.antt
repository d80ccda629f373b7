-- What the functions of the driver say to one another.
use Rattle.std.specs.Prelude.{◌≡◌, ◌⊎◌, ℕ, ◌++◌, List, Option, Some, None, Result, Ok, Err, IsSomeAnd}
use Rattle.fm_machine.specs.State.{MachineOf}
use Rattle.stack_shelf.specs.{Files.{Files}, Causes.{Counts, Rose}, Shelf.{appended, PrefixAppended}}
use Rattle.level_debuggers.specs.Tallies.{Watching}
use Rattle.command_line.specs.{declared.command.Command.{Command}, declared.early_end.EarlyEnd.{EarlyEnd}}
use Rattle.command_line.specs.declared.early_end.EarlyEnd.TheVariants.{Missing, TooLong, ShelfFault, OutOfMemory}
use Rattle.command_line.specs.{declared.status.Status.{Status}, Devices.{EndsAtOne}, Ends.{end_status, end_line}}
use Rattle.command_line.specs.CommandFiles.{input_names, file_names}
use Rattle.command_line.specs.declared.status.Status.TheVariants as exit
use Rattle.cli_stack.specs.{declared.driver.conclude.Conclusion.{Conclusion}, Answer.{Answer, answer_with, early_answer, answer_by}}
use Rattle.cli_stack.specs.{Answer.{files_after}, World.{ShelfOf, OutOf}, Remains.{HoldsPart}, Causes.{RoseAt}}
use Rattle.stack_commands.specs.{declared.work.Ending.{Ending}, Works.{ending_reply}}
use Rattle.command_replies.specs.{declared.reply.Reply.{Reply}, Replies.{status_of, verdict_line, reply_of}}

-- 1. Performing a command.

-- what a command replies where a session has these watches, or its early end
abbrev pub replied : List Watching → Result Ending EarlyEnd → Result Reply EarlyEnd
replied watches (Ok ending) = Ok (ending_reply watches ending)
replied watches (Err end) = Err end

-- why a command ended early: at a missing or long input, by a failure at a file of its own, or where memory may be refused
abbrev pub HasReason : Type 0 → Counts → Counts → Option Command → EarlyEnd → Type 0
HasReason refused before after command (Missing name) = EndsAtOne refused before after (input_names command) (Missing name)
HasReason refused before after command (TooLong limit) = EndsAtOne refused before after (input_names command) (TooLong limit)
HasReason refused before after command end = EndsAtOne refused before after (file_names command) end

-- the files and the end of a command with these file names and this answer over known files
abbrev pub LeavesAs : Answer → List (List ℕ) → Files → ShelfOf → ShelfOf → Result Reply EarlyEnd → Type 0
LeavesAs answer names files before after (Ok reply) =
    (answer ≡ answer_with answer.output (reply_of reply)) × (after.files ≡ Some (files_after answer.output files))
LeavesAs answer names files before after (Err (Missing name)) =
    (answer ≡ early_answer (Missing name)) × (after.files ≡ Some files)
LeavesAs answer names files before after (Err (TooLong limit)) =
    (answer ≡ early_answer (TooLong limit)) × (after.files ≡ Some files)
LeavesAs answer names files before after (Err (ShelfFault name)) = HoldsPart (Some files) after.files answer.output
LeavesAs answer names files before after (Err OutOfMemory) =
    (after.files ≡ Some files) ⊎ ((after.files ≡ Some (files_after answer.output files))
    ⊎ (HoldsPart (Some files) after.files answer.output × RoseAt (λ c. c.faults) names before after (λ name. Unit {0})))

abbrev pub Leaves : Option Command → List Watching → Files → ShelfOf → ShelfOf → Result Reply EarlyEnd → Type 0
Leaves command watches files before after ran = LeavesAs (answer_by command watches files) (file_names command) files before after ran

-- 2. Printing.

-- the place for the machine afterwards: as before where none was run
abbrev pub machine_kept : Option MachineOf → Option MachineOf → Option MachineOf
machine_kept kept None = kept
machine_kept kept (Some machine) = Some machine

-- all that is printed at the end of a command, its status and its machine; nothing where memory ran out
abbrev pub conclusion_of : Result Reply EarlyEnd → Option Conclusion
conclusion_of (Ok reply) =
    Some (record { text = reply.said ++ verdict_line reply.verdict; status = status_of reply.verdict; machine = reply.machine })
conclusion_of (Err OutOfMemory) = None
conclusion_of (Err end) = Some (record { text = end_line end; status = end_status end; machine = None })

-- all was printed, so the sink took it as `Took` says, and the machine is kept
pub record Printed (Took : List ℕ → Type 0) (conclusion : Conclusion) (status : Status) (before after : OutOf) : Type 0 where
  pub ends : status ≡ conclusion.status
  pub text : after.taken ≡ appended before.taken conclusion.text
  pub took : Took conclusion.text
  pub machine : after.kept ≡ machine_kept before.kept conclusion.machine

-- printing stopped before its end: the sink failed, or memory ran out where it may be refused
pub record Stopped (may_refuse : Type 0) (conclusion : Conclusion) (status : Status) (before after : OutOf) : Type 0 where
  pub text : PrefixAppended before.taken after.taken conclusion.text
  pub machine : after.kept ≡ before.kept
  pub cause : ((status ≡ exit.SinkFault) × Rose before.faults after.faults) ⊎ ((status ≡ exit.OutOfMemory) × may_refuse)

-- memory ran out, where it may be refused, before anything was printed
pub record NotBegun (may_refuse : Type 0) (status : Status) (before after : OutOf) : Type 0 where
  pub ends : status ≡ exit.OutOfMemory
  pub refused : may_refuse
  pub text : after.taken ≡ before.taken
  pub machine : after.kept ≡ before.kept

-- Printing ended, stopped or didn't begin: for want of memory only where it may be refused, or where it had run out before, so that there
-- is nothing to print.
abbrev pub Concludes : Type 0 → (List ℕ → Type 0) → Option Conclusion → Status → OutOf → OutOf → Type 0
Concludes refused Took found status before after =
    NotBegun (refused ⊎ (found ≡ None)) status before after
    ⊎ IsSomeAnd found (λ conclusion. Printed Took conclusion status before after ⊎ Stopped refused conclusion status before after)

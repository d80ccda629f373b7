-- What the program does with the words and the files, where all files are known and no device fails.
use Rattle.std.specs.Prelude.{ℕ, List, Option, Some, None, Result, Ok, Err}
use Rattle.fm_machine.specs.State.{Fm}
use Rattle.stack_shelf.specs.Files.{Files, put_file}
use Rattle.level_debuggers.specs.Tallies.{Watching}
use Rattle.command_line.specs.{declared.command.Command.{Command}, declared.early_end.EarlyEnd.{EarlyEnd}, declared.role.Role.{Role}}
use Rattle.command_line.specs.{declared.status.Status.{Status}, CommandRows.{command_of}, CommandFiles.{inputs_of, output_of}}
use Rattle.command_line.specs.{Gathered.{Texts, gathered}, Ends.{end_status, end_line}}
use Rattle.command_replies.specs.{declared.reply.Verdict.TheVariants.{Usage}, Replies.{ReplyOf, verdict_alone, reply_text, status_of}}
use Rattle.stack_commands.specs.Prepared.{stored_by, reply_by}

-- how the program ends: its status, what it prints, the file that it sets, and the state of the machine that was run
pub record Answer : Type 0 where
  pub status : Status
  pub text : List ℕ
  pub output : Option (List ℕ × List ℕ)
  pub machine : Option Fm

-- an end before there is a reply
abbrev pub early_answer : EarlyEnd → Answer
early_answer early = record { status = end_status early; text = end_line early; output = None; machine = None }

-- the file that is set, where there is a name and something to store
abbrev pub set_file : Option (Role × List ℕ) → Option (List ℕ) → Option (List ℕ × List ℕ)
set_file (Some file) (Some bytes) = Some (file.1, bytes)
set_file (Some file) None = None
set_file None bytes = None

-- the end of a command that replies
abbrev pub answer_with : Option (List ℕ × List ℕ) → ReplyOf → Answer
answer_with output reply =
    record { status = status_of reply.verdict; text = reply_text reply; output = output; machine = reply.state }

abbrev pub answer_on : Command → List Watching → Result Texts EarlyEnd → Answer
answer_on command watches (Err early) = early_answer early
answer_on command watches (Ok texts) =
    answer_with (set_file (output_of command) (stored_by command texts)) (reply_by command watches texts)

-- the end of a command with these watches, over these files
abbrev pub answer_to : Command → List Watching → Files → Answer
answer_to command watches files = answer_on command watches (gathered files (inputs_of command))

-- words that are no command end with `usage`
abbrev pub answer_by : Option Command → List Watching → Files → Answer
answer_by None watches files = answer_with None (verdict_alone Usage)
answer_by (Some command) watches files = answer_to command watches files

-- the end of the program, by the words of its command line, the watches that are handed in, and the files
abbrev pub answer : List (List ℕ) → List Watching → Files → Answer
answer words watches files = answer_by (command_of words) watches files

-- the files afterwards
abbrev pub files_after : Option (List ℕ × List ℕ) → Files → Files
files_after None files = files
files_after (Some output) files = put_file files output.0 output.1

-- Commands in a row: what one answers over the files that another leaves. And the same command with a larger budget.
use Rattle.std.specs.Prelude.{◌≡◌, ◌≢◌, ◌≤◌, ℕ, List}
use Rattle.stack_shelf.specs.Files.{Files}
use Rattle.level_debuggers.specs.Tallies.{Watching}
use Rattle.command_line.specs.{declared.command.Command.{Command}, declared.command.Command.TheVariants.{Mean, Build, Prun, Run, Go, Debug}}
use Rattle.command_line.specs.{declared.command.Command.TheVariants.{Idebug, Turns}, declared.command.TaskFiles.{TaskFiles}}
use Rattle.command_line.specs.{declared.role.Role.TheVariants.{Values}, declared.status.Status.TheVariants.{Done, Unfinished}}
use Rattle.command_line.specs.declared.words.reader.Level.TheVariants.{Fm9001}
use Rattle.cli_stack.specs.{Answer.{Answer, answer_to, files_after}, FilesAndSizes.{IsReadable}}

-- the answer to the second command, over the files that the first one leaves
abbrev pub answer_after : Command → Command → List Watching → Files → Answer
answer_after first second watches files = answer_to second watches (files_after (answer_to first watches files).output files)

-- the same end: the status, the text and the machine
pub record EndsAlike (a b : Answer) : Type 0 where
  pub status : a.status ≡ b.status
  pub text : a.text ≡ b.text
  pub machine : a.machine ≡ b.machine

-- 1. `go` is `build`, and then `run`.

-- where `build` ends well, `go` ends as `run` does on the file that it stored; where the values are there, `go` stores what `build`
-- does; and where `build` doesn't end well, `go` answers as it does
pub record IsInTwo (files : Files) (values : List ℕ) (go build run : Answer) : Type 0 where
  pub runs : build.status ≡ Done → EndsAlike go run
  pub stores : (text : List ℕ) → IsReadable files Values values text → go.output ≡ build.output
  pub stops : (text : List ℕ) → IsReadable files Values values text → build.status ≢ Done → go ≡ build

-- the image gets another name than the values have
abbrev pub GoIsBuildAndRun : Type 0
GoIsBuildAndRun =
    (source values image : List ℕ) (control temporary budget : ℕ) (watches : List Watching) (files : Files) → image ≢ values →
    IsInTwo files values
    (answer_to (Go source values control temporary budget image) watches files)
    (answer_to (Build source control temporary image) watches files)
    (answer_after (Build source control temporary image) (Run image values budget) watches files)

-- 2. `debug fm9001` is `build`, and then `idebug`.

-- where `build` ends well, a session of the source at the level of the processor is one of the image that it stored, under another name
-- than the values and the script have
abbrev pub DebugIsBuildAndIdebug : Type 0
DebugIsBuildAndIdebug =
    (source values script image : List ℕ) (control temporary : ℕ) (watches : List Watching) (files : Files) → image ≢ values →
    image ≢ script → (answer_to (Build source control temporary image) watches files).status ≡ Done →
    EndsAlike
    (answer_to (Debug Fm9001 source values control temporary script) watches files)
    (answer_after (Build source control temporary image) (Idebug image values script) watches files)

-- 3. A larger budget changes no answer of a run that came to an end.

-- a command by its budget, or by the most steps that it makes
abbrev pub IsSettled : (ℕ → Command) → Type 0
IsSettled command =
    (budget more : ℕ) (watches : List Watching) (files : Files) → budget ≤ more →
    (answer_to (command budget) watches files).status ≢ Unfinished →
    answer_to (command more) watches files ≡ answer_to (command budget) watches files

pub record BudgetsSettle : Type 0 where
  pub run : (image values : List ℕ) → IsSettled (Run image values)
  pub go : (source values image : List ℕ) (control temporary : ℕ) →
      IsSettled (λ budget. Go source values control temporary budget image)
  pub mean : (source values : List ℕ) (control temporary : ℕ) → IsSettled (Mean source values control temporary)
  pub prun : (piton : List ℕ) → IsSettled (Prun piton)
  pub turns : (turn control temporary : ℕ) (tasks : List TaskFiles) →
      IsSettled (λ budget. Turns turn budget control temporary tasks)

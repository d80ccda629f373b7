-- What a run of the program really did, by the logs of its devices: what was fetched, what was stored, and what was printed.
use Rattle.std.specs.Prelude.{◌≡◌, ◌≢◌, ◌≤◌, ◌⊎◌, ℕ, List, [], ◌∷◌, ◌++◌, Option, Some, None, IfSome, Ok, take}
use Rattle.stack_shelf.specs.Files.{Files}
use Rattle.level_debuggers.specs.Tallies.{Watching}
use Rattle.device_logs.specs.Logged.{LoggedShelfOf, LoggedSinkOf, log_limit}
use Rattle.stack_text.specs.Values.{ValueOf}
use Rattle.fm_loader.specs.Values.{values_in}
use Rattle.display_maps.specs.Report.{report_text}
use Rattle.gypsy_space.specs.Needs.{StackSizes, stack_sizes}
use Rattle.gypsy_semantics.specs.Calls.{CurrentCondition}
use Rattle.stack_build.specs.Implements.{Finishes, meaning_shown}
use Rattle.command_line.specs.{declared.command.Command.{Command}, declared.command.Command.TheVariants.{Check, Go}}
use Rattle.command_line.specs.{declared.role.Role.{Role}, declared.status.Status.{Status}, declared.status.Status.TheVariants.{Done}}
use Rattle.command_line.specs.{declared.status.Status.TheVariants.{Missing, ShelfFault, SinkFault, Size, OutOfMemory}, Status.{status_code}}
use Rattle.command_line.specs.{CommandFiles.{inputs_of, output_of, input_names}, Gathered.{Texts}}
use Rattle.command_replies.specs.{declared.reply.Verdict.TheVariants.{Usage}, Replies.{reply_text, status_of, verdict_alone}}
use Rattle.stack_commands.specs.Prepared.{reply_by, stored_by}
use Rattle.cli_stack.specs.{Answer.{set_file}, Causes.{RoseAt}, Implements.{IsImplementation, StoresImplementationOf}, RepliesTo.{AreTexts}}
use Rattle.cli_stack.specs.{Quickens.{StoresQuickenedOf}, World.{ShelfOf}}

-- the logs of a shelf and of a sink
pub record Logs : Type 0 where
  pub fetched : Files
  pub stored : Files
  pub printed : List ℕ

-- This text was printed: so says the log of the sink, which ends after 2^24 bytes.
abbrev pub WasPrinted : List ℕ → Logs → Logs → Type 0
WasPrinted text before after = take log_limit after.printed ≡ take log_limit (before.printed ++ text)

abbrev pub logs_of : {S K : Type 0} → LoggedShelfOf S → LoggedSinkOf K → Logs
logs_of shelf out = record { fetched = shelf.fetched; stored = shelf.stored; printed = out.printed }

-- files by their names, with the texts that were fetched under these
abbrev pub files_with : List (Role × List ℕ) → Texts → Files
files_with [] texts = []
files_with (file ∷ files) [] = []
files_with (file ∷ files) (text ∷ texts) = (file.1, text.1) ∷ files_with files texts

abbrev pub file_list : Option (List ℕ × List ℕ) → Files
file_list None = []
file_list (Some file) = file ∷ []

-- It fetched each of the command's files once, and no other; it stored what the command stores of the texts that it got, which
-- implements the source among them; and it printed the command's reply to them, whose status is the result.
pub record RepliedTo (command : Command) (watches : List Watching) (before after : Logs) (status : Status) : Type 0 where
  pub texts : Texts
  pub are : AreTexts command texts
  pub fetched : after.fetched ≡ before.fetched ++ files_with (inputs_of command) texts
  pub stored : after.stored ≡ before.stored ++ file_list (set_file (output_of command) (stored_by command texts))
  pub implements : StoresImplementationOf command texts
  pub quickens : StoresQuickenedOf command texts
  pub printed : WasPrinted (reply_text (reply_by command watches texts)) before after
  pub ends : status ≡ status_of (reply_by command watches texts).verdict

-- of words that are no command it printed how it is called, and did nothing else
pub record ToldUsage (before after : Logs) : Type 0 where
  pub fetched : after.fetched ≡ before.fetched
  pub stored : after.stored ≡ before.stored
  pub printed : WasPrinted (reply_text (verdict_alone Usage)) before after

abbrev pub Replied : Option Command → List Watching → Logs → Logs → Status → Type 0
Replied None watches before after status = ToldUsage before after
Replied (Some command) watches before after status = RepliedTo command watches before after status

-- `go`: it fetched a text under the name of the source and one under that of the values, and no other. It stored one file, under the name
-- of the image, and its bytes are an image that implements the source in that text. The meaning of the source on the values in the other
-- text is done within the budget; and its variables, its condition and its count of instructions are all that it printed.
pub record Went (source values image : List ℕ) (sizes : StackSizes) (budget : ℕ) (before after : Logs) : Type 0 where
  pub text : List ℕ
  pub values_text : List ℕ
  pub bytes : List ℕ
  pub fetched : after.fetched ≡ before.fetched ++ ((source, text) ∷ (values, values_text) ∷ [])
  pub stored : after.stored ≡ before.stored ++ (image, bytes) ∷ []
  pub is : IsImplementation text sizes bytes
  pub given : List ValueOf
  pub gives : values_in is.image.slots values_text ≡ Ok given
  pub finals : List ValueOf
  pub way : CurrentCondition
  pub count : ℕ
  pub meant : Finishes is.source sizes given finals way count
  pub within : count ≤ budget
  pub printed : WasPrinted (report_text is.image (meaning_shown is.source finals way) count) before after

abbrev pub WentBy : Command → Logs → Logs → Type 0
WentBy (Go source values control temporary budget image) before after =
    Went source values image (stack_sizes control temporary) budget before after
WentBy command before after = Unit {0}

-- over every shelf and every sink
pub record RunDid (command : Option Command) (watches : List Watching) (shelf_before shelf_after : ShelfOf) (before after : Logs)
    (status : Status) : Type 0 where
  -- it replied, unless a file is missing or too long, a device fails, or memory runs out
  pub replied : status ≢ Missing → status ≢ ShelfFault → status ≢ SinkFault → status ≢ OutOfMemory
      → ((status ≡ Size) × RoseAt (λ c. c.overruns) (input_names command) shelf_before shelf_after (λ name. Unit {0}))
      ⊎ Replied command watches before after status
  -- at status 0
  pub went : status ≡ Done → IfSome command (λ c. WentBy c before after)

-- the result is the number of a status of which all that holds
abbrev pub HasRun : Option Command → List Watching → ShelfOf → ShelfOf → Logs → Logs → ℕ → Type 0
HasRun command watches shelf_before shelf_after before after result =
    (status : Status) × (result ≡ status_code status) × RunDid command watches shelf_before shelf_after before after status

-- So a `check` that fetches nothing is refused, whatever the devices are: with the same logs before and after it hasn't run.
abbrev pub UnreadIsRefused : Type 0
UnreadIsRefused =
    (source : List ℕ) (watches : List Watching) (shelf_before shelf_after : ShelfOf) (logs : Logs) (status : Status) →
    status ≢ Missing → status ≢ ShelfFault → status ≢ SinkFault → status ≢ OutOfMemory → status ≢ Size →
    ¬ (RunDid (Some (Check source)) watches shelf_before shelf_after logs logs status)

-- That the image which is stored of a Piton text does on the processor what the system does on Piton's machine.
use Rattle.std.specs.{Prelude.{◌≡◌, ◌≤◌, ℕ, List, [], length, Option, Some, Ok, codes, ◌++◌}, Fmt.{decimal}}
use Rattle.stack_shelf.specs.Files.{Files, file_at}
use Rattle.fm_image.specs.{Image.{ImageOf}, Spelling.{Spelled}}
use Rattle.fm_loader.specs.{Loaded.{loaded}, Values.{values_in}}
use Rattle.piton_check.specs.{PitonChecking.{CheckedOf}, Instruction.{SystemView}}
use Rattle.piton_semantics.specs.{Fits.{system_in}, StateView.{started}, State.{PitonState}, Step.{piton_run, run_cost}}
use Rattle.piton_linker.specs.Theorem.{ComesToStand}
use Rattle.level_debuggers.specs.Tallies.{Watching}
use Rattle.command_line.specs.{declared.command.Command.{Command}, declared.command.Command.TheVariants.{Run}}
use Rattle.command_line.specs.{declared.role.Role.TheVariants.{Piton, Image, Values}, declared.status.Status.TheVariants.{Done}}
use Rattle.command_line.specs.Roles.{limit_of}
use Rattle.stack_text.specs.Lines.{line}
use Rattle.command_replies.specs.Commands.PitonText.{checked_in}
use Rattle.cli_stack.specs.{Answer.{Answer, answer_to}, FilesAndSizes.{ReadsFile, StoresFile, IsReadable}}

-- the system reaches this state in so many steps from its opening state, none of which is an error
abbrev pub ReachesState : SystemView → ℕ → PitonState → Type 0
ReachesState system j state = piton_run system j (started system system.stack) ≡ Ok state

-- what those steps cost
abbrev pub cost_to_step : SystemView → ℕ → ℕ
cost_to_step system j = run_cost system j (started system system.stack)

-- wherever the system comes, the machine that is loaded with the image comes to stand for it, in the instructions that the steps
-- cost: inside the window, and at the final program counter exactly where the system has halted, and never before
abbrev pub FollowsSystem : ImageOf → SystemView → Type 0
FollowsSystem image system =
    (j : ℕ) (state : PitonState) → ReachesState system j state → ComesToStand system (loaded image []) (cost_to_step system j) state

-- the answer is that all went well, after so many instructions
pub record TellsCost (count : ℕ) (answer : Answer) : Type 0 where
  pub status : answer.status ≡ Done
  pub text : answer.text ≡ line (codes "finished " ++ decimal count)

-- so `run` answers, wherever a file has these bytes and another gives no values, if the system halts and the budget is enough
abbrev pub TellsCosts : List ℕ → SystemView → Type 0
TellsCosts bytes system =
    (files : Files) (image values values_text : List ℕ) (budget : ℕ) (watches : List Watching) (j : ℕ) (state : PitonState)
    → IsReadable files Image image bytes → IsReadable files Values values values_text → values_in [] values_text ≡ Ok []
    → ReachesState system j state → state.frames ≡ [] → cost_to_step system j ≤ budget
    → TellsCost (cost_to_step system j) (answer_to (Run image values budget) watches files)

-- the bytes are an image file that can be read again, whose image has no variables and does what the system of the Piton text in
-- a file does
pub record HoldsLinked (files : Files) (name bytes : List ℕ) : Type 0 where
  pub text : List ℕ
  pub there : file_at files name ≡ Some text
  pub checked : CheckedOf
  pub read : checked_in text ≡ Ok checked
  pub image : ImageOf
  pub short : length bytes ≤ limit_of Image
  pub spells : Spelled bytes image
  pub slots : image.slots ≡ []
  pub runs : FollowsSystem image (system_in checked)
  pub tells : TellsCosts bytes (system_in checked)

-- who reads a Piton text and stores an image stores one that does what the text's system does
abbrev pub StoresLinked : Command → Files → Option (List ℕ × List ℕ) → Type 0
StoresLinked command files output =
    (piton image stored bytes : List ℕ) → ReadsFile command Piton piton → StoresFile command Image image
    → output ≡ Some (stored, bytes) → HoldsLinked files piton bytes

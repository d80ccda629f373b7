-- What the small commands leave of a file, and what they say of each other.
use Rattle.std.specs.Prelude.{◌≡◌, ◌≢◌, ◌<◌, ℕ, List, Some, All, codes}
use Rattle.stack_text.specs.Lines.{line}
use Rattle.stack_shelf.specs.Files.{Files, file_at}
use Rattle.level_debuggers.specs.Tallies.{Watching}
use Rattle.gypsy_space.specs.Needs.{StackSizes}
use Rattle.space_cert.specs.Covers.{IsAtMost}
use Rattle.command_line.specs.declared.command.Command.TheVariants.{Check, Build, Run, Migrate, Asm, Unasm, Need, Cert}
use Rattle.command_line.specs.declared.status.Status.TheVariants.{Done, Refused}
use Rattle.stack_commands.specs.Commands.Need.{sizes_text}
use Rattle.cli_stack.specs.{Answer.{Answer, answer_to}, InARow.{answer_after}}

-- what is in the file are bytes
abbrev pub HasBytes : Files → List ℕ → Type 0
HasBytes files name = (bytes : List ℕ) → file_at files name ≡ Some bytes → All (λ byte. byte < 256) bytes

-- the file that `migrate` stores runs as the one before, where it isn't stored over the values
abbrev pub MigratedRunsTheSame : Type 0
MigratedRunsTheSame =
    (image output values : List ℕ) (budget : ℕ) (watches : List Watching) (files : Files) → HasBytes files image → output ≢ values →
    (answer_to (Migrate image output) watches files).status ≡ Done →
    answer_after (Migrate image output) (Run output values budget) watches files ≡ answer_to (Run image values budget) watches files

-- `asm` of the text that `unasm` stored stores the very bytes of which the text was made
abbrev pub AssembledIsTheSame : Type 0
AssembledIsTheSame =
    (image assembly again bytes : List ℕ) (watches : List Watching) (files : Files) → HasBytes files image →
    file_at files image ≡ Some bytes → (answer_to (Unasm image assembly) watches files).status ≡ Done →
    (answer_after (Unasm image assembly) (Asm assembly again) watches files).output ≡ Some (again, bytes)

-- `need` tells sizes, and of what it stored `cert` says yes at these and all larger ones
pub record IsCertified (source certificate : List ℕ) (watches : List Watching) (files : Files) : Type 0 where
  pub sizes : StackSizes
  pub told : (answer_to (Need source certificate) watches files).text ≡ sizes_text sizes
  pub yes : (larger : StackSizes) → IsAtMost sizes larger →
      (answer_after (Need source certificate) (Cert source certificate larger.ctrl larger.temp) watches files).text ≡ line (codes "yes")

-- where it isn't stored over the source
abbrev pub NeedIsCertified : Type 0
NeedIsCertified =
    (source certificate : List ℕ) (watches : List Watching) (files : Files) → certificate ≢ source →
    (answer_to (Need source certificate) watches files).status ≡ Done → IsCertified source certificate watches files

-- `check` says ok exactly where `build` refuses no text, and else both answer the same
pub record ChecksAsBuild (check build : Answer) : Type 0 where
  pub goes : check.status ≡ Done → build.status ≢ Refused
  pub stops : check.status ≢ Done → build ≡ check

abbrev pub CheckIsOfBuild : Type 0
CheckIsOfBuild =
    (source image : List ℕ) (control temporary : ℕ) (watches : List Watching) (files : Files) →
    ChecksAsBuild (answer_to (Check source) watches files) (answer_to (Build source control temporary image) watches files)

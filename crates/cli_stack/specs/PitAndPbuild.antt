-- That what `pit` stores carries the meaning of its source, and that `pbuild` of it makes what `build` does.
use Rattle.std.specs.Prelude.{◌≡◌, ◌≢◌, ◌≤◌, ℕ, List, length, Some, Ok}
use Rattle.stack_shelf.specs.Files.{Files, file_at}
use Rattle.level_debuggers.specs.Tallies.{Watching}
use Rattle.fm_image.specs.{Bare.{bare_image}, Image.{ImageOf}, Spelling.{spelling}}
use Rattle.piton_check.specs.PitonChecking.{CheckedOf}
use Rattle.gypsy_codegen.specs.Generation.{SystemImplements}
use Rattle.gypsy_space.specs.Needs.{StackSizes, stack_sizes}
use Rattle.gypsy_syntax.specs.Sources.{SourceOf}
use Rattle.stack_build.specs.Build.{accepted_source}
use Rattle.command_line.specs.{declared.command.Command.TheVariants.{Pit, Build, Pbuild}, declared.role.Role.TheVariants.{Piton}}
use Rattle.command_line.specs.{declared.status.Status.TheVariants.{Done}, Roles.{limit_of}}
use Rattle.command_replies.specs.Commands.PitonText.{checked_in}
use Rattle.cli_stack.specs.{Answer.{Answer, answer_to}, InARow.{EndsAlike, answer_after}}

-- 1. The meaning.

-- the text is that of a checked system, which does on Piton's machine what the source in a file means, at every moment too
pub record HoldsSystem (files : Files) (name : List ℕ) (sizes : StackSizes) (text : List ℕ) : Type 0 where
  pub source_text : List ℕ
  pub there : file_at files name ≡ Some source_text
  pub source : SourceOf
  pub read : accepted_source source_text ≡ Ok source
  pub checked : CheckedOf
  pub reads : checked_in text ≡ Ok checked
  pub implements : SystemImplements source sizes 0 checked

-- so is the text that `pit` stores
abbrev pub PitCarriesMeanings : Type 0
PitCarriesMeanings =
    (source piton stored text : List ℕ) (control temporary : ℕ) (watches : List Watching) (files : Files) →
    (answer_to (Pit source control temporary piton) watches files).output ≡ Some (stored, text) →
    HoldsSystem files source (stack_sizes control temporary) text

-- 2. The code.

-- the same window, registers and words, and nothing that is told of a source
abbrev pub untold : ImageOf → ImageOf
untold image = bare_image image.base image.size image.final_pc image.registers image.words

-- one stores the file of an image, and the other that of the same image which tells nothing of its source
pub record StoresUntold (built linked : Answer) (image name : List ℕ) : Type 0 where
  pub of : ImageOf
  pub told : built.output ≡ Some (image, spelling of)
  pub untold : linked.output ≡ Some (name, spelling (untold of))

-- where `pit` doesn't end well, `build` answers the same; and of a text that `pit` stored, if it is within its limit, `pbuild` ends as
-- `build` does and stores the same code
pub record IsBuildInTwo (piton image name : List ℕ) (build pit pbuild : Answer) : Type 0 where
  pub stops : pit.status ≢ Done → build ≡ pit
  pub ends : (text : List ℕ) → pit.output ≡ Some (piton, text) → length text ≤ limit_of Piton → EndsAlike build pbuild
  pub stores : (text : List ℕ) → pit.output ≡ Some (piton, text) → length text ≤ limit_of Piton → build.status ≡ Done →
      StoresUntold build pbuild image name

abbrev pub BuildIsPitAndPbuild : Type 0
BuildIsPitAndPbuild =
    (source piton image name : List ℕ) (control temporary : ℕ) (watches : List Watching) (files : Files) →
    IsBuildInTwo piton image name
    (answer_to (Build source control temporary image) watches files)
    (answer_to (Pit source control temporary piton) watches files)
    (answer_after (Pit source control temporary piton) (Pbuild piton name) watches files)

-- One answer of `go`, with nothing left to assume: on the files of examples/first it stores an image, and prints these three lines.
use Rattle.std.specs.Prelude.{◌≡◌, ℕ, List, [], ◌∷◌, ◌++◌, Some, codes}
use Rattle.stack_shelf.specs.Files.{Files}
use Rattle.level_debuggers.specs.Tallies.{Watching}
use Rattle.command_line.specs.{declared.command.Command.{Command}, declared.command.Command.TheVariants.{Go}}
use Rattle.command_line.specs.declared.status.Status.TheVariants.{Done}
use Rattle.cli_stack.specs.Answer.{answer_to}

-- examples/first/seven.gypsy and examples/first/nine.values
unfoldable pub seven_text : List ℕ
seven_text =
    codes "(program main" ++ 10 ∷
    codes "(proc main ((x integer)) () () () (mg-simple-constant-assignment x 7)))" ++ 10 ∷ []

abbrev pub nine_text : List ℕ
nine_text = codes "((x 9))" ++ 10 ∷ []

abbrev pub first_files : Files
first_files = (codes "seven.gypsy", seven_text) ∷ (codes "nine.values", nine_text) ∷ []

-- `go seven.gypsy nine.values 100 100 1000000 seven.image`
abbrev pub first_command : Command
first_command = Go (codes "seven.gypsy") (codes "nine.values") 100 100 1000000 (codes "seven.image")

abbrev pub first_lines : List ℕ
first_lines = codes "finished 28" ++ 10 ∷ codes "condition normal" ++ 10 ∷ codes "x = 7" ++ 10 ∷ []

-- its answer on these files
pub record FirstGoes (watches : List Watching) : Type 0 where
  pub status : (answer_to first_command watches first_files).status ≡ Done
  pub text : (answer_to first_command watches first_files).text ≡ first_lines
  pub bytes : List ℕ
  pub output : (answer_to first_command watches first_files).output ≡ Some (codes "seven.image", bytes)

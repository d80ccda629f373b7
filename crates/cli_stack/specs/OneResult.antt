-- That at all sizes of the stacks from those that `need` tells, `go` prints one report.
use Rattle.std.specs.Prelude.{◌≡◌, ◌≤◌, ℕ, List}
use Rattle.stack_shelf.specs.Files.{Files}
use Rattle.level_debuggers.specs.Tallies.{Watching}
use Rattle.gypsy_space.specs.Needs.{StackSizes}
use Rattle.space_cert.specs.Covers.{IsAtMost}
use Rattle.command_line.specs.{declared.command.Command.TheVariants.{Build, Go, Need}, declared.status.Status.TheVariants.{Done}}
use Rattle.stack_commands.specs.Commands.Need.{sizes_text}
use Rattle.cli_stack.specs.Answer.{Answer, answer_to}

-- all went well, and the two print the same
pub record TellsAlso (told again : Answer) : Type 0 where
  pub status : again.status ≡ Done
  pub text : again.text ≡ told.text

-- where `go` ends well with stacks of the sizes s, it does so with those of the sizes t, if an image is built for these at all, and at
-- each budget that is no smaller; and it prints the same
abbrev pub GoAlike : List ℕ → List Watching → Files → StackSizes → StackSizes → Type 0
GoAlike source watches files s t =
    (values image other : List ℕ) (budget more : ℕ) → budget ≤ more →
    (answer_to (Go source values s.ctrl s.temp budget image) watches files).status ≡ Done →
    (answer_to (Build source t.ctrl t.temp other) watches files).status ≡ Done →
    TellsAlso
    (answer_to (Go source values s.ctrl s.temp budget image) watches files)
    (answer_to (Go source values t.ctrl t.temp more other) watches files)

-- `need` tells sizes, and so it is at any two sizes from these on
pub record HasOneResult (source certificate : List ℕ) (watches : List Watching) (files : Files) : Type 0 where
  pub sizes : StackSizes
  pub told : (answer_to (Need source certificate) watches files).text ≡ sizes_text sizes
  pub one : (s t : StackSizes) → IsAtMost sizes s → IsAtMost sizes t → GoAlike source watches files s t

abbrev pub LargerStacksTellTheSame : Type 0
LargerStacksTellTheSame =
    (source certificate : List ℕ) (watches : List Watching) (files : Files) →
    (answer_to (Need source certificate) watches files).status ≡ Done → HasOneResult source certificate watches files

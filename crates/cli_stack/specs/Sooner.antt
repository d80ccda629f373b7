-- That `quick`, and then `run`, prints what `go` prints, after no more instructions.
use Rattle.std.specs.{Prelude.{◌≡◌, ◌≢◌, ◌≤◌, ◌++◌, ℕ, List, codes}, Fmt.{decimal}}
use Rattle.stack_text.specs.Lines.{line}
use Rattle.stack_shelf.specs.Files.{Files}
use Rattle.level_debuggers.specs.Tallies.{Watching}
use Rattle.command_line.specs.{declared.command.Command.TheVariants.{Build, Run, Go, Quick}, declared.status.Status.TheVariants.{Done}}
use Rattle.cli_stack.specs.{Answer.{Answer, answer_to}, InARow.{answer_after}}

-- all went well with both, and they print the same condition and variables, the second after no more instructions than the first
pub record TellsSooner (go run : Answer) : Type 0 where
  pub goes : go.status ≡ Done
  pub runs : run.status ≡ Done
  pub count : ℕ
  pub steps : ℕ
  pub fewer : steps ≤ count
  pub lines : List ℕ
  pub later : go.text ≡ line (codes "finished " ++ decimal count) ++ lines
  pub sooner : run.text ≡ line (codes "finished " ++ decimal steps) ++ lines

-- `quick` refuses what `build` refuses, as it does, and else both end well. If `go` ends well, `run` of what `quick` stored tells the same
-- sooner; and if that run ends well, so does `go` at some budget.
pub record IsGoSooner (build quick : Answer) (go : ℕ → Answer) (budget : ℕ) (run : Answer) : Type 0 where
  pub stops : build.status ≢ Done → quick ≡ build
  pub stores : build.status ≡ Done → quick.status ≡ Done
  pub goes : (go budget).status ≡ Done → TellsSooner (go budget) run
  pub runs : quick.status ≡ Done → run.status ≡ Done → (enough : ℕ) × TellsSooner (go enough) run

-- if the image gets another name than the values have
abbrev pub QuickIsGoSooner : Type 0
QuickIsGoSooner =
    (source values image : List ℕ) (control temporary budget : ℕ) (watches : List Watching) (files : Files) → image ≢ values →
    IsGoSooner
    (answer_to (Build source control temporary image) watches files)
    (answer_to (Quick source control temporary image) watches files)
    (λ most. answer_to (Go source values control temporary most image) watches files)
    budget
    (answer_after (Quick source control temporary image) (Run image values budget) watches files)

-- What a failure leaves of files and of printed text.
use Rattle.std.specs.Prelude.{◌≡◌, ◌⊎◌, ℕ, List, Option, Some, None}
use Rattle.stack_shelf.specs.{Files.{Files}, Shelf.{PartlyStored, PrefixAppended}}
use Rattle.command_line.specs.declared.early_end.EarlyEnd.TheVariants as end
use Rattle.command_line.specs.Ends.{end_line}
use Rattle.cli_stack.specs.{Answer.{files_after}, Causes.{RoseAt}, World.{World}}

-- the file that is set holds part of its bytes
abbrev pub HoldsPart : Option Files → Option Files → Option (List ℕ × List ℕ) → Type 0
HoldsPart old new None = new ≡ old
HoldsPart old new (Some output) = PartlyStored old new output.0 output.1

-- the files are those afterwards, or where the shelf failed, the file that is set holds part of its bytes
abbrev pub LeavesFiles : Files → Option (List ℕ × List ℕ) → List (List ℕ) → World → World → Type 0
LeavesFiles files output names before after =
    (after.shelf.files ≡ Some (files_after output files))
    ⊎ (HoldsPart (Some files) after.shelf.files output × RoseAt (λ c. c.faults) names before.shelf after.shelf (λ name. Unit {0}))

-- a prefix of the text was printed, or where the shelf failed, of the line that says so
abbrev pub PrintsPrefix : List ℕ → List (List ℕ) → World → World → Type 0
PrintsPrefix text names before after =
    PrefixAppended before.out.taken after.out.taken text
    ⊎ RoseAt (λ c. c.faults) names before.shelf after.shelf
    (λ name. PrefixAppended before.out.taken after.out.taken (end_line (end.ShelfFault name)))

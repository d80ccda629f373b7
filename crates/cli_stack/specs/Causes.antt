-- Why a device's failure is the status: a count that rose.
use Rattle.std.specs.Prelude.{◌≡◌, ◌⊎◌, ℕ, List, Contains, IsSome}
use Rattle.stack_shelf.specs.Causes.{Counts, Rose}
use Rattle.command_line.specs.{declared.command.Command.{Command}, declared.command.Command.TheVariants.{Pdebug}}
use Rattle.command_line.specs.declared.role.Role.TheVariants.{Image}
use Rattle.cli_stack.specs.{World.{ShelfOf}, FilesAndSizes.{StoresFile, sizes_of}}

-- a count of the shelf rose at one of these names, of which this holds
abbrev pub RoseAt : (Counts → List ℕ → ℕ) → List (List ℕ) → ShelfOf → ShelfOf → (List ℕ → Type 0) → Type 0
RoseAt kind names before after P =
    (name : List ℕ) × Contains names name × Rose (kind before.counts name) (kind after.counts name) × P name

-- a command whose sizes may be refused: one that takes those of the stacks, stores an image, or runs the system of a Piton text in memory
abbrev pub HasSizes : Command → Type 0
HasSizes command =
    IsSome (sizes_of command) ⊎ ((image : List ℕ) × StoresFile command Image image)
    ⊎ ((piton : List ℕ) × (script : List ℕ) × (command ≡ Pdebug piton script))

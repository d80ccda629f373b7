-- The files that a command reads and stores, and the sizes of the stacks that it takes.
use Rattle.std.specs.Prelude.{◌≡◌, ◌≤◌, ℕ, List, length, Option, Some, None, Contains}
use Rattle.stack_shelf.specs.Files.{Files, file_at}
use Rattle.gypsy_space.specs.Needs.{StackSizes, stack_sizes}
use Rattle.command_line.specs.{declared.command.Command.{Command}, declared.command.Command.TheVariants.{Mean, Pit, Build, Go, Debug}}
use Rattle.command_line.specs.{declared.command.Command.TheVariants.{Turns, Big, Quick}, declared.role.Role.{Role}, Roles.{limit_of}}
use Rattle.command_line.specs.CommandFiles.{inputs_of, output_of}

-- the command reads the file of this name in this role
abbrev pub ReadsFile : Command → Role → List ℕ → Type 0
ReadsFile command role name = Contains (inputs_of command) (role, name)

-- the command stores a file of this name in this role
abbrev pub StoresFile : Command → Role → List ℕ → Type 0
StoresFile command role name = output_of command ≡ Some (role, name)

-- the sizes of the stacks of a source's program, of a command that has such a program
abbrev pub sizes_of : Command → Option StackSizes
sizes_of (Mean source values control temporary limit) = Some (stack_sizes control temporary)
sizes_of (Pit source control temporary piton) = Some (stack_sizes control temporary)
sizes_of (Build source control temporary image) = Some (stack_sizes control temporary)
sizes_of (Go source values control temporary budget image) = Some (stack_sizes control temporary)
sizes_of (Debug level source values control temporary script) = Some (stack_sizes control temporary)
sizes_of (Turns turn budget control temporary tasks) = Some (stack_sizes control temporary)
sizes_of (Big number procedures) = Some (stack_sizes 64 64)
sizes_of (Quick source control temporary image) = Some (stack_sizes control temporary)
sizes_of _ = None

-- the file is there, and within the limit of its role
pub record IsReadable (files : Files) (role : Role) (name text : List ℕ) : Type 0 where
  pub there : file_at files name ≡ Some text
  pub short : length text ≤ limit_of role

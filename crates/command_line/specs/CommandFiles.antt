-- The files that a command reads, in order, and the one that it writes: each with its role and its name.
use Rattle.std.specs.{Prelude.{ℕ, List, [], ◌∷◌, ◌++◌, Option, Some, None, map, if◌then◌else◌}, Option.{option_to_list}}
use Rattle.command_line.specs.{declared.command.Command.{Command}, declared.command.Command.TheVariants.{Check, Mean, Pit, Build, Pcheck}}
use Rattle.command_line.specs.declared.command.Command.TheVariants.{Prun, Pbuild, Run, Go, Show, Migrate, Asm, Unasm, Need, Cert, Debug}
use Rattle.command_line.specs.declared.command.Command.TheVariants.{Pdebug, Idebug, Turns, Big, Mini, Quick}
use Rattle.command_line.specs.{declared.command.TaskFiles.{TaskFiles}, declared.role.Role.{Role}, Roles.{is_role}}
use Rattle.command_line.specs.declared.role.Role.TheVariants as role

-- the files that tasks read, task by task
abbrev pub task_inputs : List TaskFiles → List (Role × List ℕ)
task_inputs [] = []
task_inputs (task ∷ tasks) = (role.TaskSource, task.source) ∷ (role.TaskValues, task.values) ∷ task_inputs tasks

unfoldable pub inputs_of : Command → List (Role × List ℕ)
inputs_of (Check source) = (role.Source, source) ∷ []
inputs_of (Mean source values control temporary limit) = (role.Source, source) ∷ (role.Values, values) ∷ []
inputs_of (Pit source control temporary piton) = (role.Source, source) ∷ []
inputs_of (Build source control temporary image) = (role.Source, source) ∷ []
inputs_of (Pcheck piton) = (role.Piton, piton) ∷ []
inputs_of (Prun piton limit) = (role.Piton, piton) ∷ []
inputs_of (Pbuild piton image) = (role.Piton, piton) ∷ []
inputs_of (Run image values budget) = (role.Image, image) ∷ (role.Values, values) ∷ []
inputs_of (Go source values control temporary budget image) = (role.Source, source) ∷ (role.Values, values) ∷ []
inputs_of (Show image) = (role.Image, image) ∷ []
inputs_of (Migrate image output) = (role.Image, image) ∷ []
inputs_of (Asm assembly image) = (role.Assembly, assembly) ∷ []
inputs_of (Unasm image assembly) = (role.Image, image) ∷ []
inputs_of (Need source certificate) = (role.Source, source) ∷ []
inputs_of (Cert source certificate control temporary) = (role.Source, source) ∷ (role.Certificate, certificate) ∷ []
inputs_of (Debug level source values control temporary script) =
    (role.Source, source) ∷ (role.Values, values) ∷ (role.Script, script) ∷ []
inputs_of (Pdebug piton script) = (role.Piton, piton) ∷ (role.Script, script) ∷ []
inputs_of (Idebug image values script) = (role.SessionImage, image) ∷ (role.Values, values) ∷ (role.Script, script) ∷ []
inputs_of (Turns turn budget control temporary tasks) = task_inputs tasks
inputs_of (Big number procedures) = []
inputs_of (Mini program source) = (role.Infix, program) ∷ []
inputs_of (Quick source control temporary image) = (role.Source, source) ∷ []

unfoldable pub output_of : Command → Option (Role × List ℕ)
output_of (Pit source control temporary piton) = Some (role.Piton, piton)
output_of (Build source control temporary image) = Some (role.Image, image)
output_of (Pbuild piton image) = Some (role.Image, image)
output_of (Go source values control temporary budget image) = Some (role.Image, image)
output_of (Migrate image output) = Some (role.Image, output)
output_of (Asm assembly image) = Some (role.Image, image)
output_of (Unasm image assembly) = Some (role.Assembly, assembly)
output_of (Need source certificate) = Some (role.Certificate, certificate)
output_of (Mini program source) = Some (role.Source, source)
output_of (Quick source control temporary image) = Some (role.QuickImage, image)
output_of _ = None

-- the names of the files of a role, in order
abbrev pub names_in : Role → List (Role × List ℕ) → List (List ℕ)
names_in role [] = []
names_in role (file ∷ files) = if is_role file.0 role then file.1 ∷ names_in role files else names_in role files

-- the names of files
abbrev pub names_of : List (Role × List ℕ) → List (List ℕ)
names_of files = map (λ file. file.1) files

-- the names of the files that a command reads
abbrev pub input_names : Option Command → List (List ℕ)
input_names None = []
input_names (Some command) = names_of (inputs_of command)

-- the names of the files that it reads and writes
abbrev pub file_names : Option Command → List (List ℕ)
file_names None = []
file_names (Some command) = names_of (option_to_list (output_of command) ++ inputs_of command)

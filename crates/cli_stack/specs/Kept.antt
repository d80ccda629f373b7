-- Which commands run an image, and with which statuses a run ends.
use Rattle.std.specs.Prelude.{Option, Some}
use Rattle.command_line.specs.{declared.command.Command.{Command}, declared.command.Command.TheVariants.{Run, Go, Big}}
use Rattle.command_line.specs.{declared.status.Status.{Status}, declared.status.Status.TheVariants.{Done, Unfinished, Outside}}

-- a command that runs an image
abbrev pub RunsImage : Option Command → Type 0
RunsImage (Some (Run image values budget)) = Unit {0}
RunsImage (Some (Go source values control temporary budget image)) = Unit {0}
RunsImage (Some (Big number procedures)) = Unit {0}
RunsImage _ = ⊥

-- a status with which a run of an image ends
abbrev pub IsRunEnd : Status → Type 0
IsRunEnd Done = Unit {0}
IsRunEnd Unfinished = Unit {0}
IsRunEnd Outside = Unit {0}
IsRunEnd _ = ⊥

-- That the status, the files, what was printed and the machine are those of the answer.
use Rattle.std.specs.Prelude.{◌≡◌, Option, Some, None, IsSomeAnd}
use Rattle.fm_machine.specs.State.{Fm, MachineOf}
use Rattle.stack_shelf.specs.{Files.{Files}, Shelf.{appended}}
use Rattle.command_line.specs.declared.status.Status.{Status}
use Rattle.cli_stack.specs.{Answer.{Answer, files_after}, World.{World}}

-- the place holds a machine in this state, or is as before where none was run
abbrev pub HoldsMachine : Option MachineOf → Option MachineOf → Option Fm → Type 0
HoldsMachine before after None = after ≡ before
HoldsMachine before after (Some s) = IsSomeAnd after (λ machine. machine.state ≡ s)

-- the status, the files, what was printed and the machine are those of the answer
pub record Agrees (answer : Answer) (files : Files) (before after : World) (status : Status) : Type 0 where
  pub ends : status ≡ answer.status
  pub files_left : after.shelf.files ≡ Some (files_after answer.output files)
  pub text : after.out.taken ≡ appended before.out.taken answer.text
  pub machine : HoldsMachine before.out.kept after.out.kept answer.machine

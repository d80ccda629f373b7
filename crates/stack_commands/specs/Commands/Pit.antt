-- The command `pit`.
use Rattle.std.specs.Prelude.{ℕ, List, Option, Some, None, Result, Ok, Err}
use Rattle.piton_syntax.specs.{Printed.{piton_text}, Systems.{SystemOf}}
use Rattle.stack_build.specs.declared.fault.BuildFault.{BuildFault}
use Rattle.command_replies.specs.Replies.{ReplyOf, verdict_alone, written_reply}
use Rattle.stack_commands.specs.Commands.SourceText.{build_verdict}

-- what is stored: the text of the generated system
abbrev pub pit_stored : Result SystemOf BuildFault → Option (List ℕ)
pit_stored (Err fault) = None
pit_stored (Ok system) = Some (piton_text system)

abbrev pub pit_reply : List ℕ → Result SystemOf BuildFault → ReplyOf
pit_reply name (Err fault) = verdict_alone (build_verdict fault)
pit_reply name (Ok system) = written_reply name

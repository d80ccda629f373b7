-- The command `go`: what it makes of a source and of values. It stores what `build` does.
use Rattle.std.specs.Prelude.{ℕ, List, Result, Ok, Err}
use Rattle.fm_loader.specs.Values.{values_in}
use Rattle.stack_build.specs.{declared.fault.BuildFault.{BuildFault}, Build.{BuiltOf}}
use Rattle.command_replies.specs.{Replies.{ReplyOf, verdict_alone}, Commands.Run.{values_reply}}
use Rattle.stack_commands.specs.Commands.SourceText.{build_verdict}

-- what is replied
abbrev pub go_reply : Result BuiltOf BuildFault → List ℕ → ℕ → ReplyOf
go_reply (Err fault) values budget = verdict_alone (build_verdict fault)
go_reply (Ok built) values budget = values_reply built.image budget (values_in built.image.slots values)

-- The command `build`.
use Rattle.std.specs.Prelude.{ℕ, List, Option, Some, None, Result, Ok, Err}
use Rattle.stack_build.specs.{declared.fault.BuildFault.{BuildFault}, Build.{BuiltOf}}
use Rattle.command_replies.specs.Replies.{ReplyOf, verdict_alone, built_reply}
use Rattle.stack_commands.specs.Commands.SourceText.{build_verdict}

-- what is stored
abbrev pub image_stored : Result BuiltOf BuildFault → Option (List ℕ)
image_stored (Err fault) = None
image_stored (Ok built) = Some built.bytes

-- how many words the image's window has
abbrev pub build_reply : Result BuiltOf BuildFault → ReplyOf
build_reply (Err fault) = verdict_alone (build_verdict fault)
build_reply (Ok built) = built_reply built.image.size

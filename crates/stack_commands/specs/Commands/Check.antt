-- The command `check`.
use Rattle.std.specs.Prelude.{ℕ, List}
use Rattle.command_replies.specs.Replies.{ReplyOf, judgement_reply}
use Rattle.stack_commands.specs.Commands.SourceText.{accepted_in}

-- the judgement of a source's text
abbrev pub check_reply : List ℕ → ReplyOf
check_reply text = judgement_reply (accepted_in text)

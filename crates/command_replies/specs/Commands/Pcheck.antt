-- The command `pcheck`.
use Rattle.std.specs.Prelude.{ℕ, List}
use Rattle.command_replies.specs.{Replies.{ReplyOf, judgement_reply}, Commands.PitonText.{checked_in}}

-- the judgement of a Piton text
abbrev pub pcheck_reply : List ℕ → ReplyOf
pcheck_reply text = judgement_reply (checked_in text)

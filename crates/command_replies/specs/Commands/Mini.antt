-- The command `mini`: the source that a program of the infix language becomes.
use Rattle.std.specs.Prelude.{ℕ, List, Option, Some, None, Result, Ok, Err}
use Rattle.stack_text.specs.declared.breach.Breach.{Breach}
use Rattle.gypsy_syntax.specs.{Printed.{gypsy_text}, Sources.{SourceOf}}
use Rattle.mini_gypsy.specs.Stored.{lowering_by}
use Rattle.mini_syntax.proofs.AnswerLaws.{read}
use Rattle.command_replies.specs.{declared.reply.RuleLetter.TheVariants.{Y}, declared.reply.Verdict.TheVariants.{Refused}}
use Rattle.command_replies.specs.Replies.{ReplyOf, verdict_alone, written_reply}

-- The source that a text becomes, or the rule that it breaks, and where. Each text is a program that breaks no rule, or has a fault; by
-- `read` it is known which.
unfoldable pub lowering_of : List ℕ → Result SourceOf Breach
lowering_of text = lowering_by (read text)

-- the source's text
abbrev pub lowered_stored : Result SourceOf Breach → Option (List ℕ)
lowered_stored (Ok source) = Some (gypsy_text source)
lowered_stored (Err breach) = None

-- under which name it was stored
abbrev pub lowered_reply : List ℕ → Result SourceOf Breach → ReplyOf
lowered_reply name (Ok source) = written_reply name
lowered_reply name (Err breach) = verdict_alone (Refused Y breach.rule breach.place)

-- what is stored, and what is replied
abbrev pub mini_stored : List ℕ → Option (List ℕ)
mini_stored text = lowered_stored (lowering_of text)

abbrev pub mini_reply : List ℕ → List ℕ → ReplyOf
mini_reply name text = lowered_reply name (lowering_of text)

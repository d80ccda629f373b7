-- What `mini` makes of a text that the lowering has answered.
use Rattle.std.proofs.Common.{◌≡◌, ℕ, List, Some, None, ap}
use Rattle.gypsy_syntax.{specs.Printed.gypsy_text, specs.Sources.SourceOf}
use Rattle.mini_syntax.{specs.MiniReading.IsFault, proofs.AnswerLaws.read}
use Rattle.mini_gypsy.specs.Promises as gypsy
use Rattle.mini_gypsy.proofs.LowerLaws.{fault_read, source_read}
use Rattle.command_replies.{specs.declared.reply.RuleLetter.TheVariants.Y, specs.Replies.{verdict_alone, written_reply}, specs.Commands.Mini.lowering_of}
use Rattle.command_replies.specs.Commands.Mini.{lowered_stored, lowered_reply, mini_stored, mini_reply}
use Rattle.command_replies.specs.declared.reply.Verdict.TheVariants as verdict

pub lowered_file : (text : List ℕ) (s : SourceOf) → gypsy.Lowers text s → mini_stored text ≡ Some (gypsy_text s)
unfolding lowering_of
lowered_file text s a = ap lowered_stored (source_read text s a (read text))

pub lowered_said : (name text : List ℕ) (s : SourceOf) → gypsy.Lowers text s → mini_reply name text ≡ written_reply name
unfolding lowering_of
lowered_said name text s a = ap (lowered_reply name) (source_read text s a (read text))

pub fault_file : (text : List ℕ) (rule place : ℕ) → IsFault text rule place → mini_stored text ≡ None
unfolding lowering_of
fault_file text rule place f = ap lowered_stored (fault_read text rule place f (read text))

pub fault_said : (name text : List ℕ) (rule place : ℕ) → IsFault text rule place → mini_reply name text ≡ verdict_alone (verdict.Refused Y rule place)
unfolding lowering_of
fault_said name text rule place f = ap (lowered_reply name) (fault_read text rule place f (read text))

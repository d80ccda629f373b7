-- What is left to do once the file is stored, as the reply that it leads to.
use Rattle.command_replies.specs.{declared.plan.Pending.{Pending}, Replies.{ReplyOf, reply_of}, Commands.Run.{run_reply}}
use Rattle.command_replies.specs.declared.plan.Pending.TheVariants as pending

abbrev pub pending_reply : Pending → ReplyOf
pending_reply (pending.Reply reply) = reply_of reply
pending_reply (pending.Run run) = run_reply run.image run.values run.budget

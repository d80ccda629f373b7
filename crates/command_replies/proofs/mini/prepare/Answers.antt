use Rattle.std.proofs.Common.{sym, ◌∙◌}
use Rattle.gypsy_syntax.specs.Views.SourceView.{source_of}
use Rattle.command_replies.proofs.MiniLaws.{lowered_file, lowered_said, fault_file, fault_said}
use Rattle.command_replies.proofs.mini.prepare.Goals as goal

pub returns-in-Ok-clause-stored : goal.returns-in-Ok-clause-stored
returns-in-Ok-clause-stored g c = rw (lowered_file c.args.program.now (source_of c.in-Ok.accepted) c.in-Ok.ensures.lowers) c.store.ensures.stored

pub returns-in-Ok-clause-reply : goal.returns-in-Ok-clause-reply
returns-in-Ok-clause-reply g c = rw (lowered_said c.args.name.now c.args.program.now (source_of c.in-Ok.accepted) c.in-Ok.ensures.lowers) c.store.ensures.reply

pub returns-in-Err-Refused-clause-stored : goal.returns-in-Err-Refused-clause-stored
returns-in-Err-Refused-clause-stored g c =
    let fault = rw c.in-Err-Refused.field-0-is at c.in-Err-Refused.ensures.fault in
    c.verdict_alone.ensures.stored ∙ sym (fault_file c.args.program.now c.in-Err-Refused.number c.in-Err-Refused.place fault)

pub returns-in-Err-Refused-clause-reply : goal.returns-in-Err-Refused-clause-reply
returns-in-Err-Refused-clause-reply g c =
    let fault = rw c.in-Err-Refused.field-0-is at c.in-Err-Refused.ensures.fault in
    c.verdict_alone.ensures.reply ∙ sym (fault_said c.args.name.now c.args.program.now c.in-Err-Refused.number c.in-Err-Refused.place fault)

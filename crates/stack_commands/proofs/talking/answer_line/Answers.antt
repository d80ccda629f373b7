use Rattle.std.{proofs.Common.rules, proofs.lemmas.Result.err_from_is_err_and}
use Rattle.stack_commands.proofs.TalkLaws.{followed_line, followed_part, refused_line}
use Rattle.stack_commands.proofs.talking.answer_line.Goals as goal

pub returns-in-Err-Refused-clause-all : goal.returns-in-Err-Refused-clause-all
returns-in-Err-Refused-clause-all g c =
    refused_line g.K.Sink.took _ _ c.args.number c.args.line.now _ _ c.in-Err-Refused.field-0 _ (g.H.Heap.may_refuse c.args.heap) _
    (search (rules, c.in-Err-Refused.rule-is)) c.in-Err-Refused.field-0-is c.in-Err-Refused.ensures

pub returns-in_err-end-clause-prefix : goal.returns-in_err-end-clause-prefix
returns-in_err-end-clause-prefix g c =
    let p = err_from_is_err_and c.from_residual.result c.from_residual.ensures.1 in
    rw p.1
    (followed_part _ _ c.args.number c.args.line.now c.in-Ok.asked.items _ c.in-Ok.ensures (rw c.deref.ensures.value at c.in_err-end.ensures.prefix))

pub returns-clause-all : goal.returns-clause-all
returns-clause-all g c =
    rw c.end_at.ensures
    (followed_line g.K.Sink.took _ _ _ _ c.args.number c.args.line.now c.in-Ok.asked.items _ _ _ c.answers_are_lines.ensures.transcripts c.in-Ok.ensures
    (rw c.deref.ensures.value at c.in_ok-end.ensures.all))

use Rattle.std.{proofs.Common.arith, proofs.lemmas.Result.err_from_is_err_and}
use Rattle.command_line.proofs.GatherLaws.{rose_from}
use Rattle.stack_commands.proofs.TranscriptLaws.{reply_begins, reply_cut, reply_ends, reply_printed, reply_took}
use Rattle.stack_commands.proofs.telling.print_reply.Goals as goal

pub returns-in_err-end-clause-prefix : goal.returns-in_err-end-clause-prefix
returns-in_err-end-clause-prefix g c =
    let p = err_from_is_err_and c.from_residual.result c.from_residual.ensures.1 in
    rw p.1 (reply_begins _ _ c.args.lines.now _ c.in_err-end.ensures.prefix)

pub returns-in_err-print_end-clause-prefix : goal.returns-in_err-print_end-clause-prefix
returns-in_err-print_end-clause-prefix g c =
    let p = err_from_is_err_and c.from_residual-in_err-print_end.result c.from_residual-in_err-print_end.ensures.1 in
    rw p.1 (reply_cut g.K.Sink.took _ _ _ _ c.args.lines.now _ _ _ c.in_ok-end.ensures.all _ c.in_err-print_end.ensures.prefix)

pub returns-in_err-print_end-clause-failed : goal.returns-in_err-print_end-clause-failed
returns-in_err-print_end-clause-failed g c =
    let p = err_from_is_err_and c.from_residual-in_err-print_end.result c.from_residual-in_err-print_end.ensures.1 in
    rw (p.1, p.2) (λ is. rose_from _ _ _ c.print_answers.ensures.faults (c.in_err-print_end.ensures.failed is))

pub returns-clause-ends : goal.returns-clause-ends
returns-clause-ends g c = reply_ends g.K.Sink.took _ _ _ _ c.args.lines.now _ _ _ c.in_ok-end.ensures.all _ c.in_ok-print_end.ensures.ends

pub returns-clause-ok : goal.returns-clause-ok
returns-clause-ok g c = reply_printed g.K.Sink.took _ _ _ _ c.args.lines.now _ _ _ c.in_ok-end.ensures.all _ c.in_ok-print_end.ensures.ok

pub returns-clause-lines : goal.returns-clause-lines
returns-clause-lines g c =
    reply_took g.K.Sink.took _ _ _ _ c.args.lines.now _ _ _ c.in_ok-end.ensures.all _
    c.answers_are_lines.ensures.transcripts c.in_ok-print_end.ensures.lines

pub returns-clause-faults : goal.returns-clause-faults
returns-clause-faults g c = omega (arith, c.print_answers.ensures.faults, c.print_end.ensures.faults)

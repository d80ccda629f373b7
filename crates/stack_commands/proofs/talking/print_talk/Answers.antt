use Rattle.std.proofs.lemmas.Result.{err_from_is_err_and}
use Rattle.stack_commands.{proofs.TalkEndLaws.{closes, cut, cut_within}, proofs.TalkLaws.put_is_no_read}
use Rattle.stack_commands.proofs.talking.print_talk.Goals as goal

pub returns-in_err-end-clause-partly : goal.returns-in_err-end-clause-partly
returns-in_err-end-clause-partly g c =
    let p = err_from_is_err_and c.from_residual.result c.from_residual.ensures.1 in
    rw (p.1, p.2) (cut_within _ _ _ _ _ _ _ g.K.Sink.took _ _ _ _ c.in_err-end.ensures.partly)

pub returns-in_err-print_talk_end-clause-partly : goal.returns-in_err-print_talk_end-clause-partly
returns-in_err-print_talk_end-clause-partly g c =
    let p = err_from_is_err_and c.from_residual-in_err-print_talk_end.result c.from_residual-in_err-print_talk_end.ensures.1 in
    rw p.1
    (cut _ _ _ _ _ g.K.Sink.took _ _ _ _ _ _ _ c.in_ok-end.ensures.all _ _ _ (put_is_no_read _ _ p.2)
    c.in_err-print_talk_end.ensures.prefix)

pub returns-clause-all : goal.returns-clause-all
returns-clause-all g c =
    closes _ _ _ _ _ g.K.Sink.took _ _ _ _ _ _ _ c.in_ok-end.ensures.all _ _ _
    c.in_ok-print_talk_end.ensures.ends c.in_ok-print_talk_end.ensures.ok c.in_ok-print_talk_end.ensures.lines

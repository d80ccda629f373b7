use Rattle.std.{proofs.Common.{◌≡◌, refl}, specs.Prelude.{IfOk, OnErr, OnOk}}
use Rattle.stack_shelf.specs.Shelf.{appended, PrefixAppended}
use Rattle.command_line.{specs.Devices.{lines_of, took_each}, proofs.PrintLaws.nothing_printed}
use Rattle.command_replies.specs.Replies.{reply_text, status_of}
use Rattle.stack_commands.proofs.TranscriptLaws.{replies_as}
use Rattle.stack_commands.proofs.telling.tell_session.Goals as goal

pub returns-in-Err-clause-prefix : goal.returns-in-Err-clause-prefix
returns-in-Err-clause-prefix g c = nothing_printed _ _ _ refl

pub returns-clause-ends : goal.returns-clause-ends
returns-clause-ends g c =
    replies_as (λ reply. IfOk c.print_reply-status.result (λ status. status ≡ status_of reply.verdict))
    _ _ c.args.run.lines.items _ c.in-Ok.ensures.session (rw c.deref.ensures.value at c.print_reply-status.ensures.ends)

pub returns-clause-ok : goal.returns-clause-ok
returns-clause-ok g c =
    replies_as (λ reply. OnOk c.print_reply-status.result
    (g.K.Sink.taken c.print_reply-status.new.out ≡ appended (g.K.Sink.taken c.args.out.now) (reply_text reply)))
    _ _ c.args.run.lines.items _ c.in-Ok.ensures.session (rw c.deref.ensures.value at c.print_reply-status.ensures.ok)

pub returns-clause-lines : goal.returns-clause-lines
returns-clause-lines g c =
    replies_as (λ reply. OnOk c.print_reply-status.result
    (c.print_reply-status.new.out ≡ took_each g.K.Sink.took c.args.out.now (lines_of (reply_text reply))))
    _ _ c.args.run.lines.items _ c.in-Ok.ensures.session (rw c.deref.ensures.value at c.print_reply-status.ensures.lines)

pub returns-clause-prefix : goal.returns-clause-prefix
returns-clause-prefix g c =
    replies_as (λ reply. OnErr c.print_reply-status.result
    (PrefixAppended (g.K.Sink.taken c.args.out.now) (g.K.Sink.taken c.print_reply-status.new.out) (reply_text reply)))
    _ _ c.args.run.lines.items _ c.in-Ok.ensures.session (rw c.deref.ensures.value at c.print_reply-status.ensures.prefix)

use Rattle.std.{proofs.Common.{sym, ◌∙◌}, proofs.lemmas.Result.err_from_is_err_and}
use Rattle.command_line.{specs.CommandWords.{spelled, tasks_within}, proofs.TaskWordLaws.{task_fails, last_task, next_task, none_left}}
use Rattle.command_line.proofs.words.reader.tasks_within.Goals as goal

pub returns-in_err-read : goal.returns-in_err-read
returns-in_err-read g c =
    let p = err_from_is_err_and c.from_residual.result c.from_residual.ensures.1 in
    rw (p.1, p.2) (task_fails c.loop.tasks c.args.most c.loop.counter (spelled c.loop.rest.now) (tasks_within c.args.most (spelled c.args.words.now))
    c.loop-test.true c.loop.invariant (g.H.Heap.may_refuse c.args.heap) c.in_err-read.field-0.0 c.in_err-read.ensures)

pub returns-then-is_empty : goal.returns-then-is_empty
returns-then-is_empty g c =
    rw c.in_ok-push.ensures.ok (last_task c.loop.tasks c.args.most c.loop.counter (spelled c.loop.rest.now)
    (tasks_within c.args.most (spelled c.args.words.now)) c.loop-test.true c.loop.invariant c.in_ok-read.read c.in_ok-read.after.now
    c.in_ok-read.ensures (sym c.is_empty.ensures ∙ c.if-is_empty.true))

pub loop-preserved : goal.loop-preserved
loop-preserved g c =
    rw c.in_ok-push.ensures.ok (next_task c.loop.tasks c.args.most c.loop.counter (spelled c.loop.rest.now)
    (tasks_within c.args.most (spelled c.args.words.now)) c.loop-test.true c.loop.invariant c.in_ok-read.read c.in_ok-read.after.now
    c.in_ok-read.ensures (sym c.is_empty.ensures ∙ c.if-is_empty.false))

pub returns : goal.returns
returns g c = none_left c.loop.tasks c.args.most c.loop.counter (spelled c.loop.rest.now) (tasks_within c.args.most (spelled c.args.words.now))
    c.loop-test.false c.loop.invariant

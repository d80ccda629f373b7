use Rattle.std.{proofs.Common.{arith, sym, ◌∙◌}, proofs.lemmas.Result.err_from_is_err_and}
use Rattle.level_debuggers.{specs.Views.Sessions.session_of, proofs.FollowLaws.{last_line, left_here, next_left, next_line, no_line}}
use Rattle.level_debuggers.proofs.transcript.follow.Goals as goal

pub returns-in-Some-clause-followed : goal.returns-in-Some-clause-followed
returns-in-Some-clause-followed g c =
    let said = c.in_ok-end.ensures.said in
    last_line c.args.lines.now c.loop-line.line-index c.loop-line.text.items
    (session_of (λ w. (goal.Watch-dyn g (w.vtable, w.value)).watching w.value) c.loop-line.session) _ c.push_answer.new.text.items
    (session_of (λ w. (goal.Watch-dyn g (w.vtable, w.value)).watching w.value) c.push_answer.new.session) c.in-Some.end
    c.line-item.result c.loop-line-test.true c.line-item.is (said.0, sym c.in-Some.is ∙ said.1, said.2) c.loop-line.invariant.followed

pub loop-line-preserved : goal.loop-line-preserved
loop-line-preserved g c = record {
  followed =
      let said = c.in_ok-end.ensures.said in
      next_line c.args.lines.now c.loop-line.line-index c.loop-line.text.items
      (session_of (λ w. (goal.Watch-dyn g (w.vtable, w.value)).watching w.value) c.loop-line.session) _ c.push_answer.new.text.items
      (session_of (λ w. (goal.Watch-dyn g (w.vtable, w.value)).watching w.value) c.push_answer.new.session)
      c.line-item.result c.loop-line-test.true c.line-item.is (said.0, sym c.in_default.is ∙ said.1, said.2) c.loop-line.invariant.followed;
  left =
      let said = c.in_ok-end.ensures.said in
      next_left c.args.lines.now c.loop-line.line-index
      (session_of (λ w. (goal.Watch-dyn g (w.vtable, w.value)).watching w.value) c.loop-line.session) _
      c.loop-line.invariant.left c.loop-line.text.items c.push_answer.new.text.items
      (session_of (λ w. (goal.Watch-dyn g (w.vtable, w.value)).watching w.value) c.push_answer.new.session)
      c.line-item.result c.loop-line-test.true c.line-item.is (said.0, sym c.in_default.is ∙ said.1, said.2);
  is = c.push_answer.ensures.is;
}

pub returns-clause-followed : goal.returns-clause-followed
returns-clause-followed g c =
    no_line c.args.lines.now c.loop-line.line-index c.loop-line.text.items
    (session_of (λ w. (goal.Watch-dyn g (w.vtable, w.value)).watching w.value) c.loop-line.session) _ (omega arith) c.loop-line.invariant.followed

pub returns-in_err-end-clause-memory : goal.returns-in_err-end-clause-memory
returns-in_err-end-clause-memory g c =
    let p = err_from_is_err_and c.from_residual.result c.from_residual.ensures.1 in
    rw p.1
    (left_here c.args.lines.now c.loop-line.line-index
    (session_of (λ w. (goal.Watch-dyn g (w.vtable, w.value)).watching w.value) c.loop-line.session) _ c.loop-line.invariant.left
    (session_of (λ w. (goal.Watch-dyn g (w.vtable, w.value)).watching w.value) c.push_answer.new.session)
    c.line-item.result c.loop-line-test.true c.line-item.is c.in_err-end.ensures.memory)

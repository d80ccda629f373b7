use Rattle.std.{proofs.Common.{rules, arith}, proofs.lemmas.Result.err_from_is_err_and}
use Rattle.command_line.proofs.GatherLaws.{rose_from}
use Rattle.stack_commands.{specs.Conversed.line_acts, proofs.TalkLaws.{ended_here, ends_here, full_here, goes_on, nothing_heard, partly_here, put_is_no_read}}
use Rattle.stack_commands.proofs.TalkLaws.{too_long_here, unasked_here, unread_here}
use Rattle.stack_commands.proofs.talking.talk.Goals as goal

pub loop-before-init : goal.loop-before-init
loop-before-init g c = record {
  heard = nothing_heard g.L.Lines.came _ g.K.Sink.took _ _ _;
  faults = search rules;
  counts = search rules;
  overruns = search rules;
  is = c.requires;
}

pub returns-in-Ok-None-clause-all : goal.returns-in-Ok-None-clause-all
returns-in-Ok-None-clause-all g c =
    ended_here _ _ _ g.K.Sink.took _ _ _ _ _ _ _ c.loop-before.invariant.heard _ _ _ (search (rules, c.in-Ok-None.ensures.ended))

pub returns-in-Err-TooLong-clause-all : goal.returns-in-Err-TooLong-clause-all
returns-in-Err-TooLong-clause-all g c =
    too_long_here _ _ _ g.K.Sink.took _ _ _ _ _ _ _ c.loop-before.invariant.heard _ _ _ _
    (search (rules, c.in-Err-TooLong.ensures.overran))
    (rose_from _ _ _ c.loop-before.invariant.overruns (search (rules, c.in-Err-TooLong.ensures.too_long))) c.line_number-number.ensures

pub returns-in-Err-Failed-clause-partly : goal.returns-in-Err-Failed-clause-partly
returns-in-Err-Failed-clause-partly g c =
    unread_here _ _ _ g.K.Sink.took _ _ _ _ _ _ _ c.loop-before.invariant.heard _ _ _ (λ is. cc) (search (rules, c.in-Err-Failed.ensures.broke))

pub returns-in-Err-Memory-clause-partly : goal.returns-in-Err-Memory-clause-partly
returns-in-Err-Memory-clause-partly g c =
    unasked_here _ _ _ g.K.Sink.took _ _ _ _ _ _ _ c.loop-before.invariant.heard _ _ _ (λ is. cc) (λ is. cc)

pub returns-in_err-end-clause-partly : goal.returns-in_err-end-clause-partly
returns-in_err-end-clause-partly g c =
    let p = err_from_is_err_and c.from_residual.result c.from_residual.ensures.1 in
    rw p.1
    (partly_here _ _ _ g.K.Sink.took _ _ _ _ _ _ _ c.loop-before.invariant.heard c.in-Ok-Some.line.items _
    (search (rules, c.in-Ok-Some.ensures.came)) _ c.line_number-number.ensures _ _ _ (put_is_no_read _ _ p.2)
    (rw c.as_slice.ensures.value at c.in_err-end.ensures.prefix))

pub returns-in-Some-clause-all : goal.returns-in-Some-clause-all
returns-in-Some-clause-all g c =
    ends_here _ _ _ g.K.Sink.took _ _ _ _ _ _ _ c.loop-before.invariant.heard c.in-Ok-Some.line.items _
    (search (rules, c.in-Ok-Some.ensures.came)) _ c.line_number-number.ensures _ _ _ _ (rw c.as_slice.ensures.value at c.in_ok-end.ensures.all)
    _ _ c.in-Some.end c.in-Some.is

pub loop-before-preserved : goal.loop-before-preserved
loop-before-preserved g c = record {
  heard =
      goes_on (line_acts g.L.Lines.came g.L.Lines.ended g.L.Lines.overran g.L.Lines.broke) _ _ g.K.Sink.took _ _ _ _ _ _ _
      c.loop-before.invariant.heard c.in-Ok-Some.line.items _ (search (rules, c.in-Ok-Some.ensures.came)) _ c.line_number-number.ensures _ _ _ _
      (rw c.as_slice.ensures.value at c.in_ok-end.ensures.all)
      c.in_default.is;
  faults = search rules;
  counts = search rules;
  overruns = search rules;
  is = c.answer_line.ensures.is;
}

pub returns-clause-all : goal.returns-clause-all
returns-clause-all g c =
    full_here _ _ _ g.K.Sink.took _ _ _ _ _ _ _ c.loop-before.invariant.heard _ _ (omega (arith, c.loop-before-test.false))

use Rattle.std.{proofs.Common.{rules, arith}, proofs.lemmas.Result.err_from_is_err_and}
use Rattle.level_debuggers.proofs.ScriptLaws.{text_stays}
use Rattle.stack_commands.proofs.TranscriptLaws.{all_said, ended, next, partly_printed, stopped}
use Rattle.stack_commands.proofs.telling.print_answers.Goals as goal

pub returns-in_default-clause-prefix : goal.returns-in_default-clause-prefix
returns-in_default-clause-prefix g c =
    stopped text_stays g.K.Sink.took _ _ _ _ _ c.args.lines.now c.loop-line.line-index _ c.loop-line.invariant.so_far

pub returns-in_err-print-clause-prefix : goal.returns-in_err-print-clause-prefix
returns-in_err-print-clause-prefix g c =
    let p = err_from_is_err_and c.from_residual.result c.from_residual.ensures.1 in
    rw p.1
    (partly_printed text_stays g.K.Sink.took _ _ _ _ _ c.args.lines.now c.loop-line.line-index _ c.loop-line.invariant.so_far
    c.answers_are_lines.ensures.answers _ _ c.as_slice.result.now c.clear.ensures.items c.as_slice.ensures.value _
    c.line-item.result c.loop-line-test.true c.line-item.is c.in-Ok.end
    _ c.in-Ok.ensures.said c.in_err-print.ensures.prefix)

pub returns-in-Some-clause-all : goal.returns-in-Some-clause-all
returns-in-Some-clause-all g c =
    ended text_stays g.K.Sink.took _ _ _ _ _ c.args.lines.now c.loop-line.line-index _ c.loop-line.invariant.so_far
    c.answers_are_lines.ensures.answers _ _ c.as_slice.result.now c.clear.ensures.items c.as_slice.ensures.value _
    c.line-item.result c.loop-line-test.true c.line-item.is
    _ _ c.in_ok-print.ensures.ok c.in_ok-print.ensures.lines
    c.in-Ok.end c.in-Some.end c.in-Ok.ensures.said c.in-Some.is

pub loop-line-preserved : goal.loop-line-preserved
loop-line-preserved g c = record {
  so_far =
      next text_stays g.K.Sink.took _ _ _ _ _ c.args.lines.now c.loop-line.line-index _ c.loop-line.invariant.so_far
      c.answers_are_lines.ensures.answers _ _ c.as_slice.result.now c.clear.ensures.items c.as_slice.ensures.value _
      c.line-item.result c.loop-line-test.true c.line-item.is
      _ _ c.in_ok-print.ensures.ok c.in_ok-print.ensures.lines
      c.in-Ok.end c.in-Ok.ensures.said c.in_default-end.is;
  faults = search rules;
  is = c.push_answer.ensures.is;
}

pub returns-clause-all : goal.returns-clause-all
returns-clause-all g c =
    all_said text_stays g.K.Sink.took _ _ _ _ _ c.args.lines.now c.loop-line.line-index _ c.loop-line.invariant.so_far (omega arith)

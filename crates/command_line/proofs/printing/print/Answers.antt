use Rattle.std.{proofs.Common.{rules, ◌≡◌, ◌++◌}, proofs.lemmas.Result.err_from_is_err_and}
use Rattle.command_line.proofs.PrintLaws.{line_printed, later_prefix, line_taken}
use Rattle.command_line.proofs.printing.print.Goals as goal

pub returns-in_err-put-clause-prefix : goal.returns-in_err-put-clause-prefix
returns-in_err-put-clause-prefix g c =
    let p = err_from_is_err_and c.from_residual.result c.from_residual.ensures.1 in
    let printed = c.loop-rest.invariant.printed in
    let whole : printed.0 ++ (c.first_line.result.0.now ++ c.first_line.result.1.now) ≡ c.args.text.now = rw (c.first_line.ensures.whole, printed.1) in
    rw p.1 (later_prefix _ _ _ printed.0 _ _ _ whole printed.2 c.in_err-put.ensures.prefix)

pub loop-rest-preserved : goal.loop-rest-preserved
loop-rest-preserved g c =
    let printed = c.loop-rest.invariant.printed in
    let whole : printed.0 ++ (c.first_line.result.0.now ++ c.first_line.result.1.now) ≡ c.args.text.now = rw (c.first_line.ensures.whole, printed.1) in
    record {
      lines = line_taken g.K.Sink.took _ c.loop-rest.out _ _ _ c.loop-rest.rest.now c.args.text.now c.loop-rest.invariant.lines
          c.first_line.ensures.whole c.first_line.ensures.some c.first_line.ensures.line c.in_ok-put.ensures.took;
      printed = line_printed _ _ _ printed.0 c.first_line.result.0.now _ _ whole printed.2 c.in_ok-put.ensures.ok;
      faults = search rules;
    }

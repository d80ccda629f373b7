use Rattle.std.{proofs.Common.arith, proofs.lemmas.Result.err_from_is_err_and}
use Rattle.command_line.proofs.GatherLaws.{ends_at_input, gave_all}
use Rattle.command_line.proofs.fetching.gather.Goals as goal

pub returns-in_err-text-clause-cause : goal.returns-in_err-text-clause-cause
returns-in_err-text-clause-cause g c =
    let p = err_from_is_err_and c.from_residual.result c.from_residual.ensures.1 in
    rw (p.1, p.2) (ends_at_input _ _ _ _ c.args.inputs.now c.loop-input.input-index c.input-item.result c.as_str.result.now c.in_err-text.field-0.0
    c.loop-input.invariant.counts (omega arith) c.input-item.is c.as_str.ensures c.in_err-text.ensures.cause)

pub returns-clause-gave : goal.returns-clause-gave
returns-clause-gave g c =
    gave_all g.S.Shelf.gave c.args.shelf.now c.loop-input.shelf c.args.inputs.now c.loop-input.input-index c.loop-input.texts
    (omega (arith, c.loop-input-test.false)) c.loop-input.invariant.gave

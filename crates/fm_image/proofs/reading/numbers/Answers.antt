use Rattle.std.proofs.lemmas.Result.{err_from_is_err_and}
use Rattle.fm_image.{specs.Fields.number_at, specs.Reading.numbers_at, proofs.ItemLaws.{goes_on, stops, is_done}}
use Rattle.fm_image.proofs.reading.numbers.Goals as goal

pub returns-in_err-next : goal.returns-in_err-next
returns-in_err-next g c =
    let p = err_from_is_err_and c.from_residual.result c.from_residual.ensures.1 in
    rw (p.1, p.2) (stops (λ earlier. number_at c.args.end) c.loop.numbers.items c.args.count c.loop.counter c.loop.rest.now
    _ (numbers_at c.args.end c.args.count c.args.left.now) c.loop-test.true c.in_err-next.ensures c.loop.invariant)

pub loop-preserved : goal.loop-preserved
loop-preserved g c =
    rw c.in_ok-push.ensures.items (goes_on (λ earlier. number_at c.args.end) c.loop.numbers.items c.args.count c.loop.counter c.loop.rest.now
    c.in_ok-next.next c.in_ok-next.after.now (numbers_at c.args.end c.args.count c.args.left.now) c.loop-test.true c.in_ok-next.ensures
    c.loop.invariant)

pub returns : goal.returns
returns g c = is_done (λ earlier. number_at c.args.end) c.loop.numbers.items c.args.count c.loop.counter c.loop.rest.now
    (numbers_at c.args.end c.args.count c.args.left.now) c.loop-test.false c.loop.invariant

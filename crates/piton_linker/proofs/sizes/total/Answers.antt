use Rattle.std.{proofs.Common.{ap, arith}, proofs.lemmas.List.Sums.{sum_by_more, sum_by_more_le}}
use Rattle.piton_linker.proofs.sizes.total.Goals as goal

pub size-sum-requires : goal.size-sum-requires
size-sum-requires g c =
    let words = g.T.TakesWords.words in
    let within = sum_by_more_le words c.args.parts.now c.loop-part.part-index c.part-item.result c.loop-part-test.true in
    omega (arith, within, ap words c.part-item.is, c.requires)

pub overflow_add-sum : goal.overflow_add-sum
overflow_add-sum g c =
    let words = g.T.TakesWords.words in
    let within = sum_by_more_le words c.args.parts.now c.loop-part.part-index c.part-item.result c.loop-part-test.true in
    omega (arith, within, ap words c.part-item.is, c.requires, c.loop-part.invariant, c.size-sum.ensures)

pub loop-part-preserved : goal.loop-part-preserved
loop-part-preserved g c =
    let words = g.T.TakesWords.words in
    let next = sum_by_more words c.args.parts.now c.loop-part.part-index c.part-item.result c.loop-part-test.true in
    omega (arith, next, ap words c.part-item.is, c.loop-part.invariant, c.size-sum.ensures)

use Rattle.std.{proofs.Common.arith, proofs.lemmas.Result.err_from_is_err_and}
use Rattle.stack_text.proofs.PartLaws.{part_fails, part_read, parts_end}
use Rattle.piton_syntax.specs.Grammar.{temporary_of}
use Rattle.piton_syntax.proofs.reading.program.each_temporary.Goals as goal

pub returns-in_err-temporary : goal.returns-in_err-temporary
returns-in_err-temporary g c =
    let p = err_from_is_err_and c.from_residual.result c.from_residual.ensures.1 in
    rw (p.1, p.2)
    (part_fails temporary_of c.loop-tree.temporaries.items c.loop-tree.tree-index c.args.trees.now c.loop-tree.invariant
    (g.H.Heap.may_refuse c.args.heap) c.in_err-temporary.field-0.0 c.tree-item.result c.loop-tree-test.true c.tree-item.is
    c.in_err-temporary.ensures)

pub loop-tree-preserved : goal.loop-tree-preserved
loop-tree-preserved g c =
    rw c.in_ok-push.ensures.items
    (part_read temporary_of c.loop-tree.temporaries.items c.loop-tree.tree-index c.args.trees.now c.loop-tree.invariant c.tree-item.result
    c.in_ok-temporary.temporary c.loop-tree-test.true c.tree-item.is c.in_ok-temporary.ensures)

pub returns : goal.returns
returns g c = parts_end temporary_of c.loop-tree.temporaries.items c.loop-tree.tree-index c.args.trees.now c.loop-tree.invariant
    (omega (arith, c.loop-tree-test.false))

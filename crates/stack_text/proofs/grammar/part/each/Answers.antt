use Rattle.std.{proofs.Common.{arith, map}, proofs.lemmas.Result.err_from_is_err_and, proofs.lemmas.List.map-append}
use Rattle.stack_text.proofs.PartLaws.{part_fails, part_read, parts_end}
use Rattle.stack_text.proofs.grammar.part.each.Goals as goal

pub returns-in_err-part : goal.returns-in_err-part
returns-in_err-part g c =
    let p = err_from_is_err_and c.from_residual-in_err-part.result c.from_residual-in_err-part.ensures.1 in
    rw (p.1, p.2)
    (part_fails g.T.Part.part_of (map g.T.Part.view c.loop-tree.parts.items) c.loop-tree.tree-index c.args.trees.now c.loop-tree.invariant
    (g.H.Heap.may_refuse c.args.heap) c.in_err-part.field-0.0 c.tree-item.result c.loop-tree-test.true c.tree-item.is c.in_err-part.ensures)

pub loop-tree-preserved : goal.loop-tree-preserved
loop-tree-preserved g c =
    rw (c.in_ok-push.ensures.items, map-append)
    (part_read g.T.Part.part_of (map g.T.Part.view c.loop-tree.parts.items) c.loop-tree.tree-index c.args.trees.now c.loop-tree.invariant
    c.tree-item.result (g.T.Part.view c.in_ok-part.part) c.loop-tree-test.true c.tree-item.is c.in_ok-part.ensures)

pub returns : goal.returns
returns g c = parts_end g.T.Part.part_of (map g.T.Part.view c.loop-tree.parts.items) c.loop-tree.tree-index c.args.trees.now c.loop-tree.invariant
    (omega (arith, c.loop-tree-test.false))

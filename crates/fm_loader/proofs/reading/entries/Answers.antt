use Rattle.std.proofs.lemmas.Result.{err_from_is_err_and}
use Rattle.stack_text.specs.Views.TreeView.{nodes_of}
use Rattle.fm_loader.{specs.Values.entries_of, proofs.TreeLaws.{entries_next, entries_stop, entries_end}}
use Rattle.fm_loader.proofs.reading.entries.Goals as goal

pub returns-in_err-entry_or_fault : goal.returns-in_err-entry_or_fault
returns-in_err-entry_or_fault g c =
    let p = err_from_is_err_and c.from_residual.result c.from_residual.ensures.1 in
    rw (p.1, p.2) (entries_stop (g.H.Heap.may_refuse c.args.heap) c.in_err-entry_or_fault.field-0.0 c.args.trees.now c.loop-tree.tree-index
    c.tree-item.result c.loop-tree.entries.items (entries_of (nodes_of c.args.trees.now)) c.loop-tree-test.true c.tree-item.is
    c.in_err-entry_or_fault.ensures c.loop-tree.invariant)

pub loop-tree-preserved : goal.loop-tree-preserved
loop-tree-preserved g c =
    rw c.in_ok-push.ensures.items (entries_next c.args.trees.now c.loop-tree.tree-index c.tree-item.result c.loop-tree.entries.items
    c.in_ok-entry_or_fault.field-0 (entries_of (nodes_of c.args.trees.now)) c.loop-tree-test.true c.tree-item.is c.in_ok-entry_or_fault.ensures
    c.loop-tree.invariant)

pub returns : goal.returns
returns g c = entries_end c.args.trees.now c.loop-tree.tree-index c.loop-tree.entries.items (entries_of (nodes_of c.args.trees.now))
    c.loop-tree-test.false c.loop-tree.invariant

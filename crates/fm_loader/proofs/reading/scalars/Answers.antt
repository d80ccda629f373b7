use Rattle.stack_text.specs.Views.TreeView.{nodes_of}
use Rattle.fm_loader.{specs.Parsed.scalars_of, proofs.TreeLaws.{scalars_next, scalars_stop, scalars_end}}
use Rattle.fm_loader.proofs.reading.scalars.Goals as goal

pub returns-in-None : goal.returns-in-None
returns-in-None g c =
    scalars_stop c.args.trees.now c.loop-tree.tree-index c.tree-item.result c.loop-tree.scalars (scalars_of (nodes_of c.args.trees.now))
    c.loop-tree-test.true c.tree-item.is c.in-None.ensures c.loop-tree.invariant

pub loop-tree-preserved : goal.loop-tree-preserved
loop-tree-preserved g c =
    rw c.in_ok-push-in-Some.ensures.ok (scalars_next c.args.trees.now c.loop-tree.tree-index c.tree-item.result c.loop-tree.scalars c.in-Some.scalar
    (scalars_of (nodes_of c.args.trees.now)) c.loop-tree-test.true c.tree-item.is c.in-Some.ensures c.loop-tree.invariant)

pub returns : goal.returns
returns g c = scalars_end c.args.trees.now c.loop-tree.tree-index c.loop-tree.scalars (scalars_of (nodes_of c.args.trees.now)) c.loop-tree-test.false
    c.loop-tree.invariant

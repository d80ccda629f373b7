use Rattle.stack_text.{proofs.TreeLaws.is_kept, proofs.TreeInLaws.gives_tree, proofs.ReadLaws.{text_is_well_formed, text_is_in_order}, specs.Trees.IsWellFormed}
use Rattle.stack_text.{specs.PlaceOrder.IsInOrder, specs.Views.TreeView.node_of}
use Rattle.stack_text.proofs.reader.read_text_tree.Goals as goal

pub returns-clause-value : goal.returns-clause-value
returns-clause-value g c = gives_tree (g.H.BoundedHeap.may_refuse c.args.heap) node_of c.args.text.now c.read.result c.read.ensures.value

pub returns-clause-well_formed : goal.returns-clause-well_formed
returns-clause-well_formed g c = is_kept node_of c.args.text.now (g.H.BoundedHeap.may_refuse c.args.heap) IsWellFormed c.read.result c.read.ensures.value
    (text_is_well_formed c.args.text.now c.requires.small)

pub returns-clause-order : goal.returns-clause-order
returns-clause-order g c =
    is_kept node_of c.args.text.now (g.H.BoundedHeap.may_refuse c.args.heap) IsInOrder c.read.result c.read.ensures.value (text_is_in_order c.args.text.now)

use Rattle.stack_text.{proofs.TreeLaws.{is_found, is_only, is_kept, reports_fault}, proofs.TreeInLaws.gives_tree, proofs.ReadLaws.text_is_well_formed}
use Rattle.stack_text.{proofs.ReadLaws.text_is_in_order, specs.Trees.IsWellFormed, specs.PlaceOrder.IsInOrder, specs.Views.TreeView.owned_node}
use Rattle.stack_text.proofs.reader.read_tree.Goals as goal

pub returns-clause-found : goal.returns-clause-found
returns-clause-found g c = is_found owned_node c.args.text.now (g.H.BoundedHeap.may_refuse c.args.heap) c.read_owned.result c.read_owned.ensures

pub returns-clause-only : goal.returns-clause-only
returns-clause-only g c = is_only owned_node c.args.text.now (g.H.BoundedHeap.may_refuse c.args.heap) c.read_owned.result c.read_owned.ensures

pub returns-clause-well_formed : goal.returns-clause-well_formed
returns-clause-well_formed g c = is_kept owned_node c.args.text.now (g.H.BoundedHeap.may_refuse c.args.heap) IsWellFormed c.read_owned.result
    c.read_owned.ensures (text_is_well_formed c.args.text.now c.requires.small)

pub returns-clause-order : goal.returns-clause-order
returns-clause-order g c = is_kept owned_node c.args.text.now (g.H.BoundedHeap.may_refuse c.args.heap) IsInOrder c.read_owned.result c.read_owned.ensures
    (text_is_in_order c.args.text.now)

pub returns-clause-fault : goal.returns-clause-fault
returns-clause-fault g c = reports_fault owned_node c.args.text.now (g.H.BoundedHeap.may_refuse c.args.heap) c.read_owned.result c.read_owned.ensures

pub returns-clause-value : goal.returns-clause-value
returns-clause-value g c = gives_tree (g.H.BoundedHeap.may_refuse c.args.heap) owned_node c.args.text.now c.read_owned.result c.read_owned.ensures

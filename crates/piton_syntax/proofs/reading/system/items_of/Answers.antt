use Rattle.std.proofs.Common.{ap, ◌∙◌}
use Rattle.stack_text.{specs.Views.TreeView.node_of, proofs.TreeViewLaws.node_of-atom}
use Rattle.piton_syntax.proofs.reading.system.items_of.Goals as goal

pub returns-in-Atom : goal.returns-in-Atom
returns-in-Atom c = (_, _, ap node_of c.in-Atom.is ∙ node_of-atom _ _)

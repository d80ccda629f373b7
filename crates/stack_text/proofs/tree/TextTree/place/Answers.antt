use Rattle.std.proofs.Common.{refl}
use Rattle.stack_text.proofs.TreeViewLaws.{node_of-atom, node_of-list}
use Rattle.stack_text.proofs.tree.TextTree.place.Goals as goal

pub returns-in-Atom : goal.returns-in-Atom
returns-in-Atom c = rw (c.in-Atom.is, node_of-atom) refl

pub returns-in-List : goal.returns-in-List
returns-in-List c = rw (c.in-List.is, node_of-list) refl

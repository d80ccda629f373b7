use Rattle.std.proofs.Common.{refl}
use Rattle.stack_text.proofs.TreeViewLaws.{owned_node-atom, owned_node-list}
use Rattle.stack_text.proofs.tree.Tree.place.Goals as goal

pub returns-in-Atom : goal.returns-in-Atom
returns-in-Atom c = rw (c.in-Atom.is, owned_node-atom) refl

pub returns-in-List : goal.returns-in-List
returns-in-List c = rw (c.in-List.is, owned_node-list) refl

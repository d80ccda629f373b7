-- What clauses see of a tree: the same tree with lists in place of the vectors, whether it lends the bytes of its atoms or has its own.
use Rattle.std.specs.Prelude.{List, [], ◌∷◌, map}
use Rattle.stack_text.specs.{Trees.{Node, Nodes, atom, list, none, more}, declared.tree.Tree.{Tree}, declared.tree.Tree.TheOpen.{Tree-F}}
use Rattle.stack_text.specs.{declared.tree.Tree.TheOpen.{Atom as OwnedAtom, List as OwnedList}, declared.tree.Tree.TheFolds.{fold-Tree}}
use Rattle.stack_text.specs.{declared.tree.TextTree.{TextTree}, declared.tree.TextTree.TheOpen.{TextTree-F, Atom, List as ListF}}
use Rattle.stack_text.specs.declared.tree.TextTree.TheFolds.{fold-TextTree}

-- a list of trees as the items of a list
abbrev pub nodes : List Node → Nodes
nodes [] = none
nodes (t ∷ ts) = more t (nodes ts)

-- one level
abbrev pub node_of_layer : TextTree-F Node → Node
node_of_layer (Atom p bytes) = atom p bytes.now
node_of_layer (ListF p ts) = list p (nodes ts.items)

abbrev pub node_of : TextTree → Node
node_of = fold-TextTree Node node_of_layer

abbrev pub nodes_of : List TextTree → Nodes
nodes_of ts = nodes (map node_of ts)

-- one level
abbrev pub owned_layer : Tree-F Node → Node
owned_layer (OwnedAtom p bytes) = atom p bytes.items
owned_layer (OwnedList p ts) = list p (nodes ts.items)

abbrev pub owned_node : Tree → Node
owned_node = fold-Tree Node owned_layer

abbrev pub owned_nodes : List Tree → Nodes
owned_nodes ts = nodes (map owned_node ts)

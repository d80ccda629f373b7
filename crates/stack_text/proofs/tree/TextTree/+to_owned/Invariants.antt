use Rattle.std.proofs.Common.{◌≡◌, map, take}
use Rattle.stack_text.specs.Views.TreeView.{node_of, owned_node}
use Rattle.stack_text.proofs.tree.TextTree.+to_owned.Given as goal

-- what is copied so far
abbrev pub invariant-loop-item : goal.invariant-loop-item
invariant-loop-item g l = map owned_node l.owned.items ≡ map node_of (take l.item-index l.item-items)

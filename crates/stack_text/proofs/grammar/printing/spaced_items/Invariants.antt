use Rattle.std.proofs.Common.{◌≡◌, ◌++◌, map, drop}
use Rattle.stack_text.{specs.Views.TreeView.nodes, specs.TreeText.spaced_text}
use Rattle.stack_text.proofs.grammar.printing.spaced_items.Given as goal

abbrev pub invariant-loop-item : goal.invariant-loop-item
invariant-loop-item g l =
    l.out.items ++ spaced_text (nodes (map g.T.Print.tree (drop l.item-index l.items))) ≡ l.fn.out.items ++ spaced_text (nodes (map g.T.Print.tree l.items))

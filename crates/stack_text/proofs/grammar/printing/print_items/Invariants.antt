use Rattle.std.proofs.Common.{◌≡◌, ◌++◌, map, drop}
use Rattle.stack_text.{specs.Views.TreeView.nodes, specs.TreeText.items_text, specs.Grammar.Printed.items_after}
use Rattle.stack_text.proofs.grammar.printing.print_items.Given as goal

abbrev pub invariant-loop-index : goal.invariant-loop-index
invariant-loop-index g l =
    l.out.items ++ items_after l.index (nodes (map g.T.Print.tree (drop l.index l.items))) ≡ l.fn.out.items ++ items_text (nodes (map g.T.Print.tree l.items))

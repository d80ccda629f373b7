use Rattle.std.proofs.Common.{◌≡◌, ◌++◌, ◌∷◌, take}
use Rattle.stack_text.{specs.TreeText.items_text, specs.Views.TreeView.owned_nodes}
use Rattle.stack_text.proofs.printer.+print_into.Given as goal

abbrev pub invariant-loop-index : goal.invariant-loop-index
invariant-loop-index g l = l.out.items ≡ l.fn.out.items ++ 40 ∷ items_text (owned_nodes (take l.index l.item-items))

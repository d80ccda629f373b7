use Rattle.std.proofs.Common.{◌≡◌, ◌++◌, drop}
use Rattle.stack_text.{specs.TreeText.items_text, specs.Grammar.Printed.items_after}
use Rattle.gypsy_syntax.{specs.Printed.literal_trees, specs.Views.SourceView.items_of_list}
use Rattle.gypsy_syntax.proofs.printing.literals.+literals.Given as goal

abbrev pub invariant-print_values-loop-index : goal.invariant-print_values-loop-index
invariant-print_values-loop-index g l =
    l.out.items ++ items_after l.index (literal_trees (items_of_list (drop l.index l.items))) ≡ l.fn.out.items
    ++ items_text (literal_trees (items_of_list l.items))

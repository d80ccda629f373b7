use Rattle.stack_text.{specs.Views.TreeView.owned_node, proofs.PrintLaws.tree_text_reads}
use Rattle.stack_text.proofs.printer.print_tree.Goals as goal

pub returns-clause-again : goal.returns-clause-again
returns-clause-again g c = rw c.in_ok-print_into.ensures (rw c.new-out.ensures.items (tree_text_reads (owned_node c.args.tree.now) c.requires.form))

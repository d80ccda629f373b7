use Rattle.std.proofs.Common.{◌≡◌, ◌++◌, ◌≤◌}
use Rattle.stack_text.{specs.TreeText.items_text, specs.Views.TreeView.nodes, specs.Grammar.Printed.items_after}
use Rattle.gypsy_space.specs.Callees.{names_of}
use Rattle.space_cert.{specs.CertText.entry_trees, proofs.PrintedLaws.entries_left}
use Rattle.space_cert.proofs.printing.print_entries.Given as goal

-- what is printed, and the entries that are left, are all
abbrev pub invariant-loop-index : goal.invariant-loop-index
invariant-loop-index g l = record {
  text : l.out.items ++ items_after l.printed (nodes (entries_left l.procs l.bounds l.index)) ≡ l.fn.out.items
      ++ items_text (nodes (entry_trees (names_of l.procs) l.bounds));
  few : l.printed ≤ l.index;
}

use Rattle.std.proofs.Common.{◌≡◌, drop, length, true}
use Rattle.stack_text.specs.Views.TreeView.{nodes_of}
use Rattle.space_cert.{specs.Bounded.are_bounds, specs.Covers.no_bounds, specs.CertText.with_entries}
use Rattle.space_cert.proofs.reading.entries.Given as goal

abbrev pub invariant-loop-tree : goal.invariant-loop-tree
invariant-loop-tree g l = record {
  read : with_entries l.names l.bounds.items (nodes_of (drop l.tree-index l.trees))
      ≡ with_entries l.names (no_bounds (length l.names)) (nodes_of l.trees);
  many : length l.bounds.items ≡ length l.names;
  within : are_bounds l.bounds.items ≡ true;
}

use Rattle.std.proofs.Common.{◌≡◌, ◌≤◌, length, drop}
use Rattle.stack_text.{specs.Views.TreeView.nodes_of, specs.Grammar.Judged.each_of, specs.Grammar.Parts.name_or, proofs.ResultLoops.with_front}
use Rattle.stack_text.proofs.grammar.name.each_name.Given as goal

abbrev pub invariant-loop-tree : goal.invariant-loop-tree
invariant-loop-tree g l = record {
  -- the names so far, and those that are left, are those of all trees
  read_is : with_front l.names.items (each_of (name_or l.rule) (nodes_of (drop l.tree-index l.trees))) ≡ each_of (name_or l.rule) (nodes_of l.trees);
  few : length l.names.items ≤ l.tree-index;
}

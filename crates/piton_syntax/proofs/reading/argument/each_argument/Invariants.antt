use Rattle.std.{proofs.Common.{◌≡◌, drop}, specs.Prelude.IsTrue}
use Rattle.stack_text.{specs.Views.TreeView.nodes_of, specs.Grammar.Judged.each_of, proofs.ResultLoops.with_front}
use Rattle.piton_syntax.specs.Grammar.{are_of_kind, argument_of}
use Rattle.piton_syntax.proofs.reading.argument.each_argument.Given as goal

-- the arguments so far, and those that are left, are those of all trees
abbrev pub invariant-loop-tree : goal.invariant-loop-tree
invariant-loop-tree g l = record {
  so_far : with_front l.arguments.items (each_of (argument_of l.kind) (nodes_of (drop l.tree-index l.trees))) ≡ each_of (argument_of l.kind) (nodes_of l.trees);
  kinds : IsTrue (are_of_kind l.kind (nodes_of (drop l.tree-index l.trees)));
}

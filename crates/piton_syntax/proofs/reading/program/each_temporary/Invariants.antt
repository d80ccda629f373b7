use Rattle.std.proofs.Common.{◌≡◌, drop}
use Rattle.stack_text.{specs.Views.TreeView.nodes_of, specs.Grammar.Judged.each_of, proofs.ResultLoops.with_front}
use Rattle.piton_syntax.specs.Grammar.{temporary_of}
use Rattle.piton_syntax.proofs.reading.program.each_temporary.Given as goal

-- the temporaries so far, and those that are left, are those of all trees
abbrev pub invariant-loop-tree : goal.invariant-loop-tree
invariant-loop-tree g l =
    with_front l.temporaries.items (each_of temporary_of (nodes_of (drop l.tree-index l.trees))) ≡ each_of temporary_of (nodes_of l.trees)

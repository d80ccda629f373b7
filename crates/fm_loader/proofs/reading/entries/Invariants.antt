use Rattle.std.proofs.Common.{◌≡◌, drop}
use Rattle.stack_text.{specs.Views.TreeView.nodes_of, proofs.ResultLoops.with_front}
use Rattle.fm_loader.specs.Values.{entries_of}
use Rattle.fm_loader.proofs.reading.entries.Given as goal

-- what was read and what is still to come are all
abbrev pub invariant-loop-tree : goal.invariant-loop-tree
invariant-loop-tree g l = entries_of (nodes_of l.trees) ≡ with_front l.entries.items (entries_of (nodes_of (drop l.tree-index l.trees)))

use Rattle.std.proofs.Common.{◌≡◌, drop}
use Rattle.stack_text.specs.Views.TreeView.{nodes_of}
use Rattle.fm_loader.{specs.Parsed.scalars_of, proofs.TreeLaws.behind_scalars}
use Rattle.fm_loader.proofs.reading.scalars.Given as goal

-- what was read and what is still to come are all
abbrev pub invariant-loop-tree : goal.invariant-loop-tree
invariant-loop-tree g l = scalars_of (nodes_of l.trees) ≡ behind_scalars l.scalars (scalars_of (nodes_of (drop l.tree-index l.trees)))

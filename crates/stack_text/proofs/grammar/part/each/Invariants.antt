use Rattle.std.proofs.Common.{◌≡◌, drop, map}
use Rattle.stack_text.{specs.Views.TreeView.nodes_of, specs.Grammar.Judged.each_of, proofs.ResultLoops.with_front}
use Rattle.stack_text.proofs.grammar.part.each.Given as goal

-- the parts so far, and those that are left, are those of all trees
abbrev pub invariant-loop-tree : goal.invariant-loop-tree
invariant-loop-tree g l =
    with_front (map g.T.Part.view l.parts.items) (each_of g.T.Part.part_of (nodes_of (drop l.tree-index l.trees))) ≡
    each_of g.T.Part.part_of (nodes_of l.trees)

use Rattle.std.proofs.Common.{◌≡◌, drop, map}
use Rattle.stack_text.{specs.Views.TreeView.nodes_of, specs.Grammar.Judged.each_of, proofs.ResultLoops.with_front}
use Rattle.gypsy_syntax.{specs.Grammar.statement_in, specs.Views.SourceView.stmt_of}
use Rattle.gypsy_syntax.proofs.reading.statements.+statements.Given as goal

-- the statements so far, and those that are still to come, are those of all trees
abbrev pub invariant-statements-loop-tree : goal.invariant-statements-loop-tree
invariant-statements-loop-tree g l =
    with_front (map stmt_of l.parts.items) (each_of statement_in (nodes_of (drop l.tree-index l.trees))) ≡ each_of statement_in (nodes_of l.trees)

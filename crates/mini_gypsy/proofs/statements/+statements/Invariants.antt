use Rattle.std.proofs.Common.{◌≡◌, ◌++◌, drop, map}
use Rattle.gypsy_syntax.specs.Views.SourceView.{stmt_of}
use Rattle.mini_gypsy.specs.Lowered.{statement_parts}
use Rattle.mini_syntax.{specs.ProgramView.block_in, specs.Sorted.AreFine}
use Rattle.mini_gypsy.proofs.statements.+statements.Given as goal

-- what was lowered, and what is still to come, is all
abbrev pub invariant-append_statements-loop-statement : goal.invariant-append_statements-loop-statement
invariant-append_statements-loop-statement g l = record {
  fine : AreFine (map (λ d. d.sort) l.declared) (block_in (drop l.statement-index l.statements));
  parts :
      map stmt_of l.parts.items ++ statement_parts (map (λ d. d.name) l.declared) (block_in (drop l.statement-index l.statements)) ≡
      map stmt_of l.fn.parts.items ++ statement_parts (map (λ d. d.name) l.declared) (block_in l.statements);
}

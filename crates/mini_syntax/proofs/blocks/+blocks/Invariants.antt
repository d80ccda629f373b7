use Rattle.std.proofs.Common.{◌+◌, ◌*◌, [], ◌∷◌, length}
use Rattle.mini_syntax.specs.declared.expected.Expected.TheVariants as wants
use Rattle.mini_syntax.{specs.Internal.Lexemes.left_of, specs.Internal.Phrases.Awaits, proofs.ReadingLaws.SoFar}
use Rattle.mini_syntax.proofs.blocks.+blocks.Given as goal

-- statements ask for one with as many tokens left, which asks for one of its kind, and that for blocks with one less
abbrev pub decreases-while_statement : goal.decreases-while_statement
decreases-while_statement g l = 4 * length (left_of l.cursor.now)

abbrev pub decreases-if_statement : goal.decreases-if_statement
decreases-if_statement g l = 4 * length (left_of l.cursor.now)

abbrev pub decreases-statement : goal.decreases-statement
decreases-statement g l = 4 * length (left_of l.cursor.now) + 1

abbrev pub decreases-statements : goal.decreases-statements
decreases-statements g l = 4 * length (left_of l.cursor.now) + 2

abbrev pub decreases-block : goal.decreases-block
decreases-block g l = 4 * length (left_of l.cursor.now) + 3

abbrev pub invariant-statements-loop-kind : goal.invariant-statements-loop-kind
invariant-statements-loop-kind g l = record {
  awaits : Awaits (wants.MoreStatements ∷ []) (left_of l.cursor);
  read : SoFar l.scope.declared.items (left_of l.fn.cursor) (left_of l.cursor) l.fn.best l.best l.statements.items;
}

abbrev pub decreases-statements-loop-kind : goal.decreases-statements-loop-kind
decreases-statements-loop-kind g l = length (left_of l.cursor)

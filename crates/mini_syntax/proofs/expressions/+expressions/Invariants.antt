use Rattle.std.proofs.Common.{◌+◌, ◌*◌, length}
use Rattle.mini_syntax.{specs.Internal.Lexemes.left_of, proofs.LevelLaws.Going}
use Rattle.mini_syntax.proofs.expressions.+expressions.Given as goal

-- an expression asks for its operands with as many tokens left, or fewer, and a factor for an expression with one less
abbrev pub decreases-factor : goal.decreases-factor
decreases-factor g l = 3 * length (left_of l.cursor.now)

abbrev pub decreases-expression_within : goal.decreases-expression_within
decreases-expression_within g l = 3 * length (left_of l.cursor.now) + 1

abbrev pub decreases-expression : goal.decreases-expression
decreases-expression g l = 3 * length (left_of l.cursor.now) + 2

abbrev pub invariant-expression_within-loop-op : goal.invariant-expression_within-loop-op
invariant-expression_within-loop-op g l =
    Going l.level l.scope.declared.items (left_of l.fn.cursor) (left_of l.cursor) l.fn.best l.best l.left

abbrev pub decreases-expression_within-loop-op : goal.decreases-expression_within-loop-op
decreases-expression_within-loop-op g l = length (left_of l.cursor)

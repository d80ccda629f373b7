-- The operators between operands: their tokens, and how closely they bind.
use Rattle.std.specs.Prelude.{ℕ, ◌-◌, Bool, true, false, not, if◌then◌else◌, Option, Some, None}
use Rattle.mini_syntax.specs.{declared.lexer.TokenKind.{TokenKind}, declared.operator.Infix.{Infix}}
use Rattle.mini_syntax.specs.{declared.operator.Infix.TheVariants.{Or, And, AtMost, Equals, Add, Subtract, Multiply}, Tokens.{Token}}
use Rattle.mini_syntax.specs.Tokens.{word_at, mark_at}
use Rattle.mini_syntax.specs.declared.lexer.TokenKind.TheVariants as kind
use Rattle.mini_syntax.specs.declared.mark.Mark.TheVariants as mark
use Rattle.mini_syntax.specs.declared.word.Word.TheVariants as word

-- an operator of a lower level binds closer
abbrev pub level_of : Infix → ℕ
level_of Multiply = 1
level_of Add = 2
level_of Subtract = 2
level_of AtMost = 3
level_of Equals = 3
level_of And = 4
level_of Or = 5

-- the level of the loosest one
abbrev pub any_level : ℕ
any_level = 5

abbrev pub is_comparison : Infix → Bool
is_comparison AtMost = true
is_comparison Equals = true
is_comparison op = false

-- the levels that operands have at most: a right one binds closer than the operator, and so does the left one of a comparison; other
-- operators associate to the left
abbrev pub right_level : Infix → ℕ
right_level op = level_of op - 1

abbrev pub left_level : Infix → ℕ
left_level op = if is_comparison op then right_level op else level_of op

-- whether a comparison came since the last `and` or `or`, after an operator
abbrev pub compared_after : Infix → Bool → Bool
compared_after Or compared = false
compared_after And compared = false
compared_after AtMost compared = true
compared_after Equals compared = true
compared_after op compared = compared

-- an operator may come; a comparison only where none came
abbrev pub may_follow : Infix → Bool → Bool
may_follow AtMost compared = not compared
may_follow Equals compared = not compared
may_follow op compared = true

-- the token of an operator
abbrev pub infix_token : ℕ → Infix → Token
infix_token place Or = word_at place word.Or
infix_token place And = word_at place word.And
infix_token place AtMost = mark_at place mark.AtMost
infix_token place Equals = mark_at place mark.Equals
infix_token place Add = mark_at place mark.Plus
infix_token place Subtract = mark_at place mark.Minus
infix_token place Multiply = mark_at place mark.Times

-- the operator that a token of the kind is
abbrev pub infix_of : TokenKind → Option Infix
infix_of (kind.Word word.Or) = Some Or
infix_of (kind.Word word.And) = Some And
infix_of (kind.Mark mark.AtMost) = Some AtMost
infix_of (kind.Mark mark.Equals) = Some Equals
infix_of (kind.Mark mark.Plus) = Some Add
infix_of (kind.Mark mark.Minus) = Some Subtract
infix_of (kind.Mark mark.Times) = Some Multiply
infix_of k = None

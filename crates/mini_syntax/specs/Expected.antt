-- What may come next in a program, token by token: a stack of what is still expected. A text's tokens go on to a program as long as
-- each of them is taken.
use Rattle.std.specs.Prelude.{◌≡◌, List, [], ◌∷◌, reverse, Option, Some, None, Bool, true, false, if◌then◌else◌, Result, Ok, Err}
use Rattle.std.specs.List.{list_all}
use Rattle.stack_text.specs.declared.memory.Memory.{Memory}
use Rattle.mini_syntax.specs.{declared.expected.Answer.{Answer}, declared.expected.Answer.TheVariants.{Refused, LeftOut, Then}}
use Rattle.mini_syntax.specs.{declared.expected.Expected.{Expected}, declared.expected.Push.{Push}, declared.lexer.TokenKind.{TokenKind}}
use Rattle.mini_syntax.specs.{declared.mark.Mark.{Mark}, declared.operator.Infix.{Infix}, Precedence.{compared_after, infix_of, may_follow}}
use Rattle.mini_syntax.specs.Tokens.{Token, kind_of}
use Rattle.mini_syntax.specs.declared.expected.Expected.TheVariants as wants
use Rattle.mini_syntax.specs.declared.expected.Push.TheVariants as push
use Rattle.mini_syntax.specs.declared.lexer.TokenKind.TheVariants as kind
use Rattle.mini_syntax.specs.declared.mark.Mark.TheVariants as mark
use Rattle.mini_syntax.specs.declared.word.Word.TheVariants as word

-- an expression begins with an operand, and goes on with operators and operands, or with none
abbrev pub expression : List Expected → List Expected
expression rest = wants.Operand ∷ wants.MoreExpression false ∷ rest

-- `{`, statements, `}`
abbrev pub a_block : List Expected → List Expected
a_block rest = wants.Mark mark.OpenBlock ∷ wants.MoreStatements ∷ wants.Mark mark.CloseBlock ∷ rest

abbrev pub same_mark : Mark → Mark → Bool
same_mark mark.Semicolon mark.Semicolon = true
same_mark mark.Becomes mark.Becomes = true
same_mark mark.AtMost mark.AtMost = true
same_mark mark.Equals mark.Equals = true
same_mark mark.Plus mark.Plus = true
same_mark mark.Minus mark.Minus = true
same_mark mark.Times mark.Times = true
same_mark mark.Open mark.Open = true
same_mark mark.Close mark.Close = true
same_mark mark.OpenBlock mark.OpenBlock = true
same_mark mark.CloseBlock mark.CloseBlock = true
same_mark m n = false

-- How what is expected meets a token: the token isn't taken, or the expectation is left out, or the token is taken, and something is
-- expected then.

abbrev pub wanted : Bool → Answer
wanted test = if test then Then push.Nothing else Refused

abbrev pub more : Bool → Push → Answer
more test what = if test then Then what else LeftOut

-- after an operand an operator may come, and then an operand and more; two comparisons want an `and` or an `or` between them
abbrev pub infix_answer : Bool → Option Infix → Answer
infix_answer compared None = LeftOut
infix_answer compared (Some op) = if may_follow op compared then Then (push.OperandAndMore (compared_after op compared)) else Refused

abbrev pub answer_of : Expected → TokenKind → Answer
answer_of wants.Name kind.Name = Then push.Nothing
answer_of wants.Name k = Refused
answer_of (wants.Mark m) (kind.Mark n) = wanted (same_mark m n)
answer_of (wants.Mark m) k = Refused
answer_of wants.Else (kind.Word word.Else) = Then push.Nothing
answer_of wants.Else k = Refused
answer_of wants.Operand kind.Name = Then push.Nothing
answer_of wants.Operand kind.Number = Then push.Nothing
answer_of wants.Operand (kind.Word (word.Truth b)) = Then push.Nothing
answer_of wants.Operand (kind.Word word.Not) = Then push.Operand
answer_of wants.Operand (kind.Mark mark.Minus) = Then push.Operand
answer_of wants.Operand (kind.Mark mark.Open) = Then push.Bracket
answer_of wants.Operand k = Refused
answer_of (wants.MoreExpression compared) k = infix_answer compared (infix_of k)
answer_of wants.MoreDeclarations (kind.Word (word.Sort s)) = Then push.Declaration
answer_of wants.MoreDeclarations k = LeftOut
answer_of wants.MoreStatements kind.Name = Then push.Assignment
answer_of wants.MoreStatements (kind.Word word.While) = Then push.Loop
answer_of wants.MoreStatements (kind.Word word.If) = Then push.Branch
answer_of wants.MoreStatements k = LeftOut

-- what is expected then
abbrev pub pushed : Push → List Expected → List Expected
pushed push.Nothing rest = rest
pushed push.Operand rest = wants.Operand ∷ rest
pushed push.Bracket rest = expression (wants.Mark mark.Close ∷ rest)
pushed (push.OperandAndMore compared) rest = wants.Operand ∷ wants.MoreExpression compared ∷ rest
pushed push.Declaration rest = wants.Name ∷ wants.Mark mark.Semicolon ∷ wants.MoreDeclarations ∷ rest
pushed push.Assignment rest = wants.Mark mark.Becomes ∷ expression (wants.Mark mark.Semicolon ∷ wants.MoreStatements ∷ rest)
pushed push.Loop rest = expression (a_block (wants.MoreStatements ∷ rest))
pushed push.Branch rest = expression (a_block (wants.Else ∷ a_block (wants.MoreStatements ∷ rest)))

-- what is expected after a token, or nothing where it isn't taken
abbrev pub answered : Answer → List Expected → Option (List Expected) → Option (List Expected)
answered Refused rest later = None
answered LeftOut rest later = later
answered (Then what) rest later = Some (pushed what rest)

abbrev pub takes : List Expected → TokenKind → Option (List Expected)
takes [] k = None
takes (x ∷ rest) k = answered (answer_of x k) rest (takes rest k)

-- after all tokens of a list
abbrev pub taken : Option (List Expected) → List Token → Option (List Expected)
taken None ts = None
taken (Some st) [] = Some st
taken (Some st) (t ∷ ts) = taken (takes st (kind_of t)) ts

-- a whole program
abbrev pub at_start : List Expected
at_start = wants.MoreDeclarations ∷ wants.MoreStatements ∷ []

-- whether all that is expected may be left out
abbrev pub may_be_empty : Expected → Bool
may_be_empty wants.Name = false
may_be_empty (wants.Mark m) = false
may_be_empty wants.Else = false
may_be_empty wants.Operand = false
may_be_empty x = true

abbrev pub is_over : List Expected → Bool
is_over st = list_all may_be_empty st

-- The code's stack has its top last.

abbrev pub PushesUnless : Type 0 → List Expected → Push → Result (Unit {0}) Memory → List Expected → Type 0
PushesUnless refused old what (Ok u) new = reverse new ≡ pushed what (reverse old)
PushesUnless refused old what (Err e) new = refused

-- the token was taken, or isn't
abbrev pub Takes : List Expected → TokenKind → Bool → List Expected → Type 0
Takes old k true new = takes (reverse old) k ≡ Some (reverse new)
Takes old k false new = takes (reverse old) k ≡ None

-- What the reader has read of a text's tokens: a tree of the grammar, what it means with sorts and positions in place of names, and the
-- rules that it breaks.
use Rattle.std.specs.Prelude.{◌≡◌, ℕ, ◌≤◌, nat_le, List, ◌∷◌, ◌++◌, Bool, true, Option, Some, None, if◌then◌else◌}
use Rattle.stack_text.specs.{declared.breach.Breach.{Breach}, Breaches.{Notes}}
use Rattle.mini_syntax.specs.{declared.blocks.StatementKind.{StatementKind}, declared.expected.Expected.{Expected}}
use Rattle.mini_syntax.specs.{declared.expressions.FactorKind.{FactorKind}, declared.lexer.TokenKind.{TokenKind}}
use Rattle.mini_syntax.specs.{declared.operator.Infix.{Infix}, declared.program.Declared.{Declared}, declared.program.Statement.{Statement}}
use Rattle.mini_syntax.specs.{declared.sort.Sort.{Sort}, declared.typed.Typed.{Typed}, Breaches.{expression_exp, expression_sort}}
use Rattle.mini_syntax.specs.Breaches.{expression_breaches, form_breaches, block_breaches, forms_breaches, form_stmt, block_stmt}
use Rattle.mini_syntax.specs.{Breaches.{forms_stmt}, Expected.{is_over, taken}, Grammar.{Expression, Form, Block, Forms, expression_level}}
use Rattle.mini_syntax.specs.Grammar.{binds, form_binds, block_binds, forms_bind, expression_tokens, form_tokens, block_tokens}
use Rattle.mini_syntax.specs.{Grammar.{forms_tokens}, Precedence.{infix_of, level_of}, Internal.Lexemes.{next_kind}, ProgramView.{exp_of}}
use Rattle.mini_syntax.specs.{ProgramView.{statement_in, block_in}, Tokens.{Token}}
use Rattle.mini_syntax.specs.declared.blocks.StatementKind.TheVariants as a_statement
use Rattle.mini_syntax.specs.declared.expected.Expected.TheVariants as wants
use Rattle.mini_syntax.specs.declared.expressions.FactorKind.TheVariants as a_factor
use Rattle.mini_syntax.specs.declared.lexer.TokenKind.TheVariants as kind
use Rattle.mini_syntax.specs.declared.mark.Mark.TheVariants as mark
use Rattle.mini_syntax.specs.declared.operator.Prefix.TheVariants as before
use Rattle.mini_syntax.specs.declared.word.Word.TheVariants as word

-- the tokens end a program where these are expected
pub record Completes (st : List Expected) (ts : List Token) : Type 0 where
  pub last : List Expected
  pub taken_is : taken (Some st) ts ≡ Some last
  pub over : is_over last ≡ true

-- an operand is expected, and more of its expression
pub record AwaitsOperand (ts : List Token) : Type 0 where
  pub compared : Bool
  pub rest : List Expected
  pub completes : Completes (wants.Operand ∷ wants.MoreExpression compared ∷ rest) ts

-- and where some more are expected after these
pub record Awaits (front : List Expected) (ts : List Token) : Type 0 where
  pub rest : List Expected
  pub completes : Completes (front ++ rest) ts

-- the kind of factor that begins with it
abbrev pub factor_kind : TokenKind → Option FactorKind
factor_kind kind.Name = Some a_factor.Variable
factor_kind kind.Number = Some a_factor.Number
factor_kind (kind.Word (word.Truth b)) = Some (a_factor.Truth b)
factor_kind (kind.Word word.Not) = Some (a_factor.Operator before.Not)
factor_kind (kind.Mark mark.Minus) = Some (a_factor.Operator before.Minus)
factor_kind (kind.Mark mark.Open) = Some a_factor.Bracket
factor_kind k = None

-- the operator of a kind, where its level isn't higher
abbrev pub within : ℕ → Option Infix → Option Infix
within level None = None
within level (Some op) = if nat_le (level_of op) level then Some op else None

abbrev pub infix_within : ℕ → TokenKind → Option Infix
infix_within level k = within level (infix_of k)

-- the sort with which a declaration begins
abbrev pub sort_declared : TokenKind → Option Sort
sort_declared (kind.Word (word.Sort sort)) = Some sort
sort_declared k = None

-- the kind of statement that begins with it
abbrev pub statement_kind : TokenKind → Option StatementKind
statement_kind kind.Name = Some a_statement.Assignment
statement_kind (kind.Word word.While) = Some a_statement.While
statement_kind (kind.Word word.If) = Some a_statement.If
statement_kind k = None

-- what was read is worth what the tree is, and what breaks a rule in it was noted
pub record IsTyped (ds : List Declared) (tree : Expression) (best next : Option Breach) (typed : Typed) : Type 0 where
  pub exp_is : exp_of typed.exp ≡ expression_exp ds tree
  pub sort_is : typed.sort ≡ expression_sort ds tree
  pub noted : Notes best (expression_breaches ds tree) next

-- an expression of the level was read from the old tokens, and the new ones follow, which begin with no operator of the level
pub record Reads (level : ℕ) (ds : List Declared) (old new : List Token) (best next : Option Breach) (typed : Typed) : Type 0 where
  pub tree : Expression
  pub close : expression_level tree ≤ level
  pub bound : binds tree ≡ true
  pub tokens_are : old ≡ expression_tokens tree ++ new
  pub typed_as : IsTyped ds tree best next typed
  pub ends : None ≡ infix_within level (next_kind new)

-- so with a statement, a block, and statements up to a token with which none begins
pub record ReadsForm (ds : List Declared) (old new : List Token) (best next : Option Breach) (statement : Statement) : Type 0 where
  pub tree : Form
  pub bound : form_binds tree ≡ true
  pub tokens_are : old ≡ form_tokens tree ++ new
  pub means : statement_in statement ≡ form_stmt ds tree
  pub noted : Notes best (form_breaches ds tree) next

pub record ReadsBlock (ds : List Declared) (old new : List Token) (best next : Option Breach) (body : List Statement) : Type 0 where
  pub tree : Block
  pub bound : block_binds tree ≡ true
  pub tokens_are : old ≡ block_tokens tree ++ new
  pub means : block_in body ≡ block_stmt ds tree
  pub noted : Notes best (block_breaches ds tree) next

pub record ReadsForms (ds : List Declared) (old new : List Token) (best next : Option Breach) (body : List Statement) : Type 0 where
  pub tree : Forms
  pub bound : forms_bind tree ≡ true
  pub tokens_are : old ≡ forms_tokens tree ++ new
  pub means : block_in body ≡ forms_stmt ds tree
  pub noted : Notes best (forms_breaches ds tree) next
  pub ends : (st : List Expected) → Completes (wants.MoreStatements ∷ st) new → Completes st new

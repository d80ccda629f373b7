-- What clauses see of the code's programs.
use Rattle.std.specs.Prelude.{List, [], ◌∷◌}
use Rattle.mini_syntax.specs.declared.program.Exp.{Exp, Variable, Number, Truth, Before', Between'}
use Rattle.mini_syntax.specs.declared.program.Statement.{Statement, Assign, While', If', Row_of-Statement, end_of-Statement}
use Rattle.mini_syntax.specs.declared.program.Statement.{more_of-Statement}
use Rattle.mini_syntax.specs.Language as seen

abbrev pub exp_of : Exp → seen.Exp
exp_of (Variable sort index) = seen.Variable sort index
exp_of (Number n) = seen.Number n
exp_of (Truth b) = seen.Truth b
exp_of (Before' op p e) = seen.Before op (exp_of e)
exp_of (Between' op p a q b) = seen.Between op (exp_of a) (exp_of b)

abbrev mutual
  pub statement_in : Statement → seen.Stmt
  statement_in (Assign index value) = seen.Assign index (exp_of value)
  statement_in (While' test shape body) = seen.While (exp_of test) (row_in body)
  statement_in (If' test shape then other_shape otherwise) = seen.If (exp_of test) (row_in then) (row_in otherwise)

  pub row_in : {m : _} → Row_of-Statement m → seen.Stmt
  row_in end_of-Statement = seen.Nothing
  row_in (more_of-Statement s rest) = seen.Then (statement_in s) (row_in rest)

-- statements in turn
abbrev pub block_in : List Statement → seen.Stmt
block_in [] = seen.Nothing
block_in (s ∷ ss) = seen.Then (statement_in s) (block_in ss)

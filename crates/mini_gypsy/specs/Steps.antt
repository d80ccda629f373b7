-- The lowering, with positions in place of names. Beside the declared variables main has temporaries: one of each sort for
-- each depth of an expression.
use Rattle.std.specs.Prelude.{ℕ, pos, suc, ◌+◌, List, [], ◌∷◌, ◌++◌}
use Rattle.gypsy_syntax.specs.{declared.predef.Predef.{Predef}, Effects.{integer_value, truth_value}, Programs.{Leave, Var, Lit}}
use Rattle.gypsy_syntax.specs.declared.predef.Predef.TheVariants as row
use Rattle.gypsy_syntax.specs.Programs as gypsy
use Rattle.mini_syntax.specs.{declared.sort.Sort.{Sort}, declared.sort.Sort.TheVariants.{Int, Bool}, declared.operator.Prefix.{Prefix}}
use Rattle.mini_syntax.specs.{declared.operator.Prefix.TheVariants.{Not, Minus}, declared.operator.Infix.{Infix}}
use Rattle.mini_syntax.specs.{declared.operator.Infix.TheVariants.{Or, And, AtMost, Equals, Add, Subtract, Multiply}, Language.{Exp}}
use Rattle.mini_syntax.specs.Language.{Variable, Number, Truth, Before, Between, Stmt, Nothing, Then, Assign, While, If}
use Rattle.mini_syntax.specs.{Operands.{prefix_sort, infix_sort, sort_of}, Sorted.{depths}}

-- the place of a sort's temporary at a depth, among the temporaries, and after n declared variables
abbrev pub temporary : Sort → ℕ → ℕ
temporary Int k = k
temporary Bool k = depths + k

abbrev pub temporary_at : ℕ → Sort → ℕ → ℕ
temporary_at n sort k = n + temporary sort k

-- the predefined procedures that the operators become
abbrev pub prefix_row : Prefix → Predef
prefix_row Not = row.MgBooleanNot
prefix_row Minus = row.MgIntegerUnaryMinus

abbrev pub infix_row : Infix → Predef
infix_row Or = row.MgBooleanOr
infix_row And = row.MgBooleanAnd
infix_row AtMost = row.MgIntegerLe
infix_row Equals = row.MgSimpleVariableEq
infix_row Add = row.MgIntegerAdd
infix_row Subtract = row.MgIntegerSubtract
infix_row Multiply = row.MgIntegerMultiply

-- statements in turn
abbrev pub in_turn : List gypsy.Stmt → gypsy.Stmt
in_turn [] = gypsy.Skip
in_turn (s ∷ ss) = gypsy.Seq s (in_turn ss)

abbrev pub set_variable : ℕ → ℕ → gypsy.Stmt
set_variable i j = gypsy.Apply 0 row.MgSimpleVariableAssignment (Var i ∷ Var j ∷ [])

-- after n declared variables, the expression's value goes to the temporary of its sort at depth k; none below it changes
unfoldable pub value_steps : ℕ → ℕ → Exp → List gypsy.Stmt
value_steps n k (Variable sort i) = set_variable (temporary_at n sort k) i ∷ []
value_steps n k (Number c) =
    gypsy.Apply 0 row.MgSimpleConstantAssignment (Var (temporary_at n Int k) ∷ Lit (integer_value (pos c)) ∷ []) ∷ []
value_steps n k (Truth b) =
    gypsy.Apply 0 row.MgSimpleConstantAssignment (Var (temporary_at n Bool k) ∷ Lit (truth_value b) ∷ []) ∷ []
value_steps n k (Before op e) =
    value_steps n k e ++
    gypsy.Apply 0 (prefix_row op) (Var (temporary_at n (prefix_sort op) k) ∷ Var (temporary_at n (sort_of e) k) ∷ []) ∷ []
value_steps n k (Between op a b) =
    value_steps n k a ++ (value_steps n (suc k) b ++
    gypsy.Apply 0 (infix_row op)
    (Var (temporary_at n (infix_sort op) k) ∷ Var (temporary_at n (sort_of a) k) ∷ Var (temporary_at n (sort_of b) (suc k)) ∷ []) ∷ [])

-- a block has a statement, even if it is empty
abbrev pub block_of : List gypsy.Stmt → gypsy.Stmt
block_of ss = in_turn (gypsy.NoOp 0 ∷ ss)

-- one of two blocks, by the test that was put at depth 0
abbrev pub choice_of : ℕ → gypsy.Stmt → gypsy.Stmt → gypsy.Stmt
choice_of n s t = gypsy.If 0 (temporary_at n Bool 0) s t

unfoldable pub statement_steps : ℕ → Stmt → List gypsy.Stmt
unfolding value_steps
statement_steps n Nothing = []
statement_steps n (Then s t) = statement_steps n s ++ statement_steps n t
statement_steps n (Assign i e) = value_steps n 0 e ++ set_variable i (temporary_at n (sort_of e) 0) ∷ []
statement_steps n (While e s) =
    gypsy.Loop 0 (in_turn (value_steps n 0 e ++ choice_of n (block_of (statement_steps n s)) (gypsy.Signal 0 Leave) ∷ [])) ∷ []
statement_steps n (If e s t) =
    value_steps n 0 e ++ choice_of n (block_of (statement_steps n s)) (block_of (statement_steps n t)) ∷ []

-- The source that a program of the infix language becomes: a procedure `main`, whose formals are the declared variables, and whose
-- locals are the temporaries.
use Rattle.std.specs.Prelude.{ℕ, zero, suc, pos, ◌+◌, ◌/◌, ◌%◌, List, [], ◌∷◌, ◌++◌, map, false, codes}
use Rattle.stack_text.specs.{declared.shape.Kind.{Kind}, declared.shape.Kind.TheVariants.{Integer, Boolean}, Grammar.Printed.{unplaced}}
use Rattle.gypsy_syntax.specs.{declared.literal.Decl.{Decl}, Made.{new_simple, new_decl, new_seq, new_branch, new_predef, new_proc}}
use Rattle.gypsy_syntax.specs.{Made.{new_source}, Sources.{LiteralOf, integer, truth, ArgOf, variable, constant, StmtOf, no_op, signal}}
use Rattle.gypsy_syntax.specs.Sources.{loop, LocalOf, ProcOf, SourceOf}
use Rattle.gypsy_syntax.specs.declared.predef.Predef.TheVariants as row
use Rattle.mini_syntax.specs.{declared.program.Declared.{Declared}, declared.sort.Sort.{Sort}, declared.sort.Sort.TheVariants.{Int, Bool}}
use Rattle.mini_syntax.specs.{Lawful.{nth_name}, Language.{Exp, Variable, Number, Truth, Before, Between, Stmt, Nothing, Then, Assign}}
use Rattle.mini_syntax.specs.{Language.{While, If}, Sorted.{depths}, Operands.{sort_of, prefix_sort, infix_sort}}
use Rattle.mini_gypsy.specs.Steps.{prefix_row, infix_row}

abbrev pub kind_of : Sort → Kind
kind_of Int = Integer
kind_of Bool = Boolean

-- the temporaries are `i$00` to `i$40` and `b$00` to `b$40`
abbrev pub letter_of : Sort → ℕ
letter_of Int = 105
letter_of Bool = 98

abbrev pub temporary_name : Sort → ℕ → List ℕ
temporary_name sort k = letter_of sort ∷ 36 ∷ (48 + k / 10) ∷ (48 + k % 10) ∷ []

abbrev pub decl_of : List ℕ → Sort → Decl
decl_of name sort = new_decl (unplaced name) (new_simple 0 (kind_of sort))

-- what a temporary holds at the start
abbrev pub zero_of : Sort → LiteralOf
zero_of Int = integer 0 (pos 0)
zero_of Bool = truth 0 false

abbrev pub temporary_local : Sort → ℕ → LocalOf
temporary_local sort k = record { decl = decl_of (temporary_name sort k) sort; value = zero_of sort }

-- the temporaries of a sort from a depth on, so many
unfoldable pub locals_from : Sort → ℕ → ℕ → List LocalOf
locals_from sort k zero = []
locals_from sort k (suc count) = temporary_local sort k ∷ locals_from sort (k + 1) count

unfoldable pub temporaries : List LocalOf
temporaries = locals_from Int 0 depths ++ locals_from Bool 0 depths

abbrev pub argument : List ℕ → ArgOf
argument name = variable (unplaced name)

-- `(mg-simple-variable-assignment a b)`
abbrev pub set_name : List ℕ → List ℕ → StmtOf
set_name a b = new_predef 0 row.MgSimpleVariableAssignment (argument a ∷ argument b ∷ [])

-- Where the declared variables have these names, the expression's value goes to the temporary of its sort at depth k; none below it
-- changes.
unfoldable pub value_parts : List (List ℕ) → ℕ → Exp → List StmtOf
value_parts names k (Variable sort i) = set_name (temporary_name sort k) (nth_name names i) ∷ []
value_parts names k (Number n) =
    new_predef 0 row.MgSimpleConstantAssignment (argument (temporary_name Int k) ∷ constant (integer 0 (pos n)) ∷ []) ∷ []
value_parts names k (Truth b) =
    new_predef 0 row.MgSimpleConstantAssignment (argument (temporary_name Bool k) ∷ constant (truth 0 b) ∷ []) ∷ []
value_parts names k (Before op e) =
    value_parts names k e ++
    new_predef 0 (prefix_row op) (argument (temporary_name (prefix_sort op) k) ∷ argument (temporary_name (sort_of e) k) ∷ []) ∷ []
value_parts names k (Between op a b) =
    value_parts names k a ++ (value_parts names (suc k) b ++
    new_predef 0 (infix_row op)
    (argument (temporary_name (infix_sort op) k) ∷ argument (temporary_name (sort_of a) k) ∷
    argument (temporary_name (sort_of b) (suc k)) ∷ []) ∷ [])

-- a block has a statement, even if it is empty
abbrev pub block_parts : List StmtOf → StmtOf
block_parts parts = new_seq 0 (no_op 0 ∷ parts)

-- one of two statements, by the test that was put at depth 0
abbrev pub choice_parts : StmtOf → StmtOf → StmtOf
choice_parts s t = new_branch 0 (unplaced (temporary_name Bool 0)) s t

abbrev pub leave : StmtOf
leave = signal 0 (unplaced (codes "leave"))

unfoldable pub statement_parts : List (List ℕ) → Stmt → List StmtOf
unfolding value_parts
statement_parts names Nothing = []
statement_parts names (Then s t) = statement_parts names s ++ statement_parts names t
statement_parts names (Assign i e) = value_parts names 0 e ++ set_name (nth_name names i) (temporary_name (sort_of e) 0) ∷ []
statement_parts names (While e s) =
    loop 0 (new_seq 0 (value_parts names 0 e ++ choice_parts (block_parts (statement_parts names s)) leave ∷ [])) ∷ []
statement_parts names (If e s t) =
    value_parts names 0 e ++ choice_parts (block_parts (statement_parts names s)) (block_parts (statement_parts names t)) ∷ []

abbrev pub main_procedure : List Declared → Stmt → ProcOf
main_procedure ds s =
    new_proc 0 (unplaced (codes "main")) (map (λ d. decl_of d.name d.sort) ds) [] temporaries []
    (block_parts (statement_parts (map (λ d. d.name) ds) s))

abbrev pub lowered : List Declared → Stmt → SourceOf
lowered ds s = new_source 0 (unplaced (codes "main")) (main_procedure ds s ∷ [])

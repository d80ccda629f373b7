-- What is wrong with a program: a name declared earlier (5), a name that isn't declared (6), an operator, `:=`, `while` or `if` with
-- operands of wrong sorts, where these are known (7), a number over 2147483647 (8), and the name of variable 101 (9). The least place
-- decides, and then the least rule. And the program with positions in place of names.
use Rattle.std.specs.Prelude.{ℕ, ◌+◌, ◌-◌, ◌*◌, List, [], ◌∷◌, ◌++◌, length, map, true, false, not, ◌==◌, nat_lt, if◌then◌else◌, Option}
use Rattle.std.specs.{Prelude.{Some, None, is_none, is_some, option_map}, Str.{bytes_eq}}
use Rattle.std.specs.Prelude as std
use Rattle.mini_syntax.specs.{InfixLimits.{most_infix_variables}, declared.program.Declared.{Declared}, declared.scope.Variable.{Variable}}
use Rattle.mini_syntax.specs.{declared.sort.Sort.{Sort}, declared.sort.Sort.TheVariants.{Int, Bool}, declared.operator.Prefix.{Prefix}}
use Rattle.mini_syntax.specs.{declared.operator.Infix.{Infix}, Grammar.{Expression, variable, number, truth, unary, binary, group, Form}}
use Rattle.mini_syntax.specs.Grammar.{assign, loop, branch, Block, block, Forms, no_forms, form, Decl, InfixProgram}
use Rattle.mini_syntax.specs.{Operands.{prefix_takes, infix_takes, prefix_sort, infix_sort}, Language.{Exp, Stmt}}
use Rattle.stack_text.specs.{declared.breach.Breach.{Breach}, Breaches.{when}}
use Rattle.mini_syntax.specs.Language as language

-- the declared variables, in order
abbrev pub declared_by : Decl → Declared
declared_by d = record { name = d.name; sort = d.sort }

abbrev pub declared_of : InfixProgram → List Declared
declared_of p = map declared_by p.decls

abbrev pub names_of : List Declared → List (List ℕ)
names_of ds = map (λ d. d.name) ds

-- the first declaration of a name, with its position
abbrev pub named_from : ℕ → List Declared → List ℕ → Option Variable
named_from n [] name = None
named_from n (d ∷ ds) name = if bytes_eq name d.name then Some record { index = n; sort = d.sort } else named_from (n + 1) ds name

abbrev pub variable_named : List Declared → List ℕ → Option Variable
variable_named ds name = named_from 0 ds name

-- Expressions with sorts and positions. In a program that is refused, a name that isn't declared stands for a number at position 0, and a
-- number that is too large for 0.

abbrev pub or_first : Option Variable → Variable
or_first None = record { index = 0; sort = Int }
or_first (Some v) = v

abbrev pub variable_exp : Variable → Exp
variable_exp v = language.Variable v.sort v.index

-- the number that digits write
abbrev pub number_after : ℕ → List ℕ → ℕ
number_after n [] = n
number_after n (digit ∷ digits) = number_after (10 * n + (digit - 48)) digits

abbrev pub number_of : List ℕ → ℕ
number_of digits = number_after 0 digits

abbrev pub is_too_large : ℕ → std.Bool
is_too_large n = nat_lt 2147483647 n

abbrev pub number_exp : ℕ → Exp
number_exp n = language.Number (if is_too_large n then 0 else n)

abbrev pub expression_exp : List Declared → Expression → Exp
expression_exp ds (variable place name) = variable_exp (or_first (variable_named ds name))
expression_exp ds (number place digits) = number_exp (number_of digits)
expression_exp ds (truth place b) = language.Truth b
expression_exp ds (unary place op e) = language.Before op (expression_exp ds e)
expression_exp ds (binary a place op b) = language.Between op (expression_exp ds a) (expression_exp ds b)
expression_exp ds (group place e closing) = expression_exp ds e

abbrev pub sort_named : List Declared → List ℕ → Option Sort
sort_named ds name = option_map (λ v. v.sort) (variable_named ds name)

-- the sort of an expression, where it is known; one with an operator has that of its result
abbrev pub expression_sort : List Declared → Expression → Option Sort
expression_sort ds (variable place name) = sort_named ds name
expression_sort ds (number place digits) = Some Int
expression_sort ds (truth place b) = Some Bool
expression_sort ds (unary place op e) = Some (prefix_sort op)
expression_sort ds (binary a place op b) = Some (infix_sort op)
expression_sort ds (group place e closing) = expression_sort ds e

-- an operator whose operands have wrong sorts, where these are known
abbrev pub infix_breaches : ℕ → Infix → Option Sort → Option Sort → List Breach
infix_breaches place op (Some s) (Some t) = when (not (infix_takes op s t)) place 7
infix_breaches place op s t = []

abbrev pub prefix_breaches : ℕ → Prefix → Option Sort → List Breach
prefix_breaches place op (Some s) = when (not (prefix_takes op s)) place 7
prefix_breaches place op None = []

-- those of the operands, and then of the operator
abbrev pub expression_breaches : List Declared → Expression → List Breach
expression_breaches ds (variable place name) = when (is_none (variable_named ds name)) place 6
expression_breaches ds (number place digits) = when (is_too_large (number_of digits)) place 8
expression_breaches ds (truth place b) = []
expression_breaches ds (unary place op e) = expression_breaches ds e ++ prefix_breaches place op (expression_sort ds e)
expression_breaches ds (binary a place op b) =
    expression_breaches ds a ++ (expression_breaches ds b ++ infix_breaches place op (expression_sort ds a) (expression_sort ds b))
expression_breaches ds (group place e closing) = expression_breaches ds e

-- Statements.

abbrev pub same_sort : Sort → Sort → std.Bool
same_sort Int Int = true
same_sort Bool Bool = true
same_sort s t = false

-- `:=` between a variable and an expression, and a test
abbrev pub assigns_breaches : ℕ → Option Sort → Option Sort → List Breach
assigns_breaches place (Some s) (Some t) = when (not (same_sort s t)) place 7
assigns_breaches place s t = []

abbrev pub test_breaches : ℕ → Option Sort → List Breach
test_breaches place (Some s) = when (not (same_sort s Bool)) place 7
test_breaches place None = []

abbrev mutual
  pub form_stmt : List Declared → Form → Stmt
  form_stmt ds (assign place name becomes e closing) = language.Assign (or_first (variable_named ds name)).index (expression_exp ds e)
  form_stmt ds (loop place e b) = language.While (expression_exp ds e) (block_stmt ds b)
  form_stmt ds (branch place e b otherwise c) = language.If (expression_exp ds e) (block_stmt ds b) (block_stmt ds c)

  pub block_stmt : List Declared → Block → Stmt
  block_stmt ds (block place fs closing) = forms_stmt ds fs

  pub forms_stmt : List Declared → Forms → Stmt
  forms_stmt ds no_forms = language.Nothing
  forms_stmt ds (form f rest) = language.Then (form_stmt ds f) (forms_stmt ds rest)

abbrev mutual
  pub form_breaches : List Declared → Form → List Breach
  form_breaches ds (assign place name becomes e closing) =
      when (is_none (variable_named ds name)) place 6 ++
      (expression_breaches ds e ++ assigns_breaches becomes (sort_named ds name) (expression_sort ds e))
  form_breaches ds (loop place e b) = expression_breaches ds e ++ (test_breaches place (expression_sort ds e) ++ block_breaches ds b)
  form_breaches ds (branch place e b otherwise c) =
      expression_breaches ds e ++ (test_breaches place (expression_sort ds e) ++ (block_breaches ds b ++ block_breaches ds c))

  pub block_breaches : List Declared → Block → List Breach
  block_breaches ds (block place fs closing) = forms_breaches ds fs

  pub forms_breaches : List Declared → Forms → List Breach
  forms_breaches ds no_forms = []
  forms_breaches ds (form f rest) = form_breaches ds f ++ forms_breaches ds rest

-- a declaration after these, and several
abbrev pub decl_breaches : List Declared → Decl → List Breach
decl_breaches earlier d =
    when (is_some (variable_named earlier d.name)) d.place 5 ++ when (length earlier == most_infix_variables) d.place 9

abbrev pub decls_breaches : List Declared → List Decl → List Breach
decls_breaches earlier [] = []
decls_breaches earlier (d ∷ ds) = decl_breaches earlier d ++ decls_breaches (earlier ++ declared_by d ∷ []) ds

-- all of them
abbrev pub breaches : InfixProgram → List Breach
breaches p = decls_breaches [] p.decls ++ forms_breaches (declared_of p) p.forms

abbrev pub body_of : InfixProgram → Stmt
body_of p = forms_stmt (declared_of p) p.forms

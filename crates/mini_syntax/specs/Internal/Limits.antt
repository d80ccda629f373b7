-- The limits of a program: at most 40 operators in an expression, and at most 40 levels of brackets and of blocks.
use Rattle.std.specs.{Prelude.{◌≡◌, ℕ, suc, ◌+◌, ◌≤◌, max, true}, List.{list_all}}
use Rattle.mini_syntax.specs.Grammar.{Expression, unary, binary, group, Form, assign, loop, branch, Block, block, Forms, no_forms, form}
use Rattle.mini_syntax.specs.{Grammar.{InfixProgram}, Names.{is_variable_name}}

-- how many operators an expression has
abbrev pub expression_operators : Expression → ℕ
expression_operators (unary place op e) = suc (expression_operators e)
expression_operators (binary a place op b) = suc (expression_operators a + expression_operators b)
expression_operators (group place e closing) = expression_operators e
expression_operators e = 0

-- how many brackets nest
abbrev pub expression_brackets : Expression → ℕ
expression_brackets (unary place op e) = expression_brackets e
expression_brackets (binary a place op b) = max (expression_brackets a) (expression_brackets b)
expression_brackets (group place e closing) = suc (expression_brackets e)
expression_brackets e = 0

-- how many blocks nest
abbrev mutual
  pub form_blocks : Form → ℕ
  form_blocks (assign place name becomes e closing) = 0
  form_blocks (loop place e b) = block_blocks b
  form_blocks (branch place e b otherwise c) = max (block_blocks b) (block_blocks c)

  pub block_blocks : Block → ℕ
  block_blocks (block place fs closing) = suc (forms_blocks fs)

  pub forms_blocks : Forms → ℕ
  forms_blocks no_forms = 0
  forms_blocks (form f rest) = max (form_blocks f) (forms_blocks rest)

abbrev pub IsSmall : Expression → Type 0
IsSmall e = (expression_operators e ≤ 40) × (expression_brackets e ≤ 40)

-- each expression of statements is small
abbrev mutual
  pub FormIsSmall : Form → Type 0
  FormIsSmall (assign place name becomes e closing) = IsSmall e
  FormIsSmall (loop place e b) = IsSmall e × BlockIsSmall b
  FormIsSmall (branch place e b otherwise c) = IsSmall e × BlockIsSmall b × BlockIsSmall c

  pub BlockIsSmall : Block → Type 0
  BlockIsSmall (block place fs closing) = FormsAreSmall fs

  pub FormsAreSmall : Forms → Type 0
  FormsAreSmall no_forms = Unit {0}
  FormsAreSmall (form f rest) = FormIsSmall f × FormsAreSmall rest

-- a program within the limits, whose declared names are names
pub record KeepsLimits (p : InfixProgram) : Type 0 where
  pub names : list_all (λ d. is_variable_name d.name) p.decls ≡ true
  pub expressions : FormsAreSmall p.forms
  pub blocks : forms_blocks p.forms ≤ 40

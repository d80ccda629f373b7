-- The grammar of the infix language: a program with all of its tokens, and the tokens of each form. A text is a program where both
-- have the same tokens. An expression is a tree, and how closely its operators bind is a test of it.
use Rattle.std.specs.Prelude.{ℕ, List, [], ◌∷◌, ◌++◌, ◌≡◌, Bool, true, ◌&&◌, nat_le}
use Rattle.mini_syntax.specs.declared.mark.Mark.TheVariants as mark
use Rattle.mini_syntax.specs.{declared.operator.Infix.{Infix}, declared.operator.Prefix.{Prefix}}
use Rattle.mini_syntax.specs.{declared.operator.Prefix.TheVariants.{Not, Minus}, declared.sort.Sort.{Sort}, Precedence.{level_of}}
use Rattle.mini_syntax.specs.{Precedence.{left_level, right_level, infix_token}, Tokens.{Token, name_at, number_at, word_at, mark_at}}
use Rattle.mini_syntax.specs.Tokens.{tokens_in}
use Rattle.mini_syntax.specs.declared.word.Word.TheVariants as word

-- EXP = FACTOR | EXP INFIX EXP
-- FACTOR = NAME | NUMBER | "true" | "false" | "not" FACTOR | "-" FACTOR | "(" EXP ")"
pub data Expression : Type 0 where
  variable : (place : ℕ) (name : List ℕ) → Expression
  number : (place : ℕ) (digits : List ℕ) → Expression
  truth : (place : ℕ) (b : Bool) → Expression
  unary : (place : ℕ) (op : Prefix) (e : Expression) → Expression
  binary : (a : Expression) (place : ℕ) (op : Infix) (b : Expression) → Expression
  group : (place : ℕ) (e : Expression) (closing : ℕ) → Expression

-- the level of its operator between operands; a factor binds closest
abbrev pub expression_level : Expression → ℕ
expression_level (binary a place op b) = level_of op
expression_level e = 0

-- each operator has operands that bind as closely as it wants
abbrev pub binds : Expression → Bool
binds (unary place op e) = nat_le (expression_level e) 0 && binds e
binds (binary a place op b) =
    (nat_le (expression_level a) (left_level op) && nat_le (expression_level b) (right_level op)) && (binds a && binds b)
binds (group place e closing) = binds e
binds e = true

abbrev pub prefix_token : ℕ → Prefix → Token
prefix_token place Not = word_at place word.Not
prefix_token place Minus = mark_at place mark.Minus

abbrev pub expression_tokens : Expression → List Token
expression_tokens (variable place name) = name_at place name ∷ []
expression_tokens (number place digits) = number_at place digits ∷ []
expression_tokens (truth place b) = word_at place (word.Truth b) ∷ []
expression_tokens (unary place op e) = prefix_token place op ∷ expression_tokens e
expression_tokens (binary a place op b) = expression_tokens a ++ infix_token place op ∷ expression_tokens b
expression_tokens (group place e closing) =
    mark_at place mark.Open ∷ (expression_tokens e ++ mark_at closing mark.Close ∷ [])

-- STMT = NAME ":=" EXP ";" | "while" EXP BLOCK | "if" EXP BLOCK "else" BLOCK; BLOCK = "{" STMT* "}"
mutual
  pub data Form : Type 0 where
    assign : (place : ℕ) (name : List ℕ) (becomes : ℕ) (e : Expression) (closing : ℕ) → Form
    loop : (place : ℕ) (e : Expression) (b : Block) → Form
    branch : (place : ℕ) (e : Expression) (b : Block) (otherwise : ℕ) (c : Block) → Form

  pub data Block : Type 0 where
    block : (place : ℕ) (fs : Forms) (closing : ℕ) → Block

  pub data Forms : Type 0 where
    no_forms : Forms
    form : (f : Form) (rest : Forms) → Forms

abbrev mutual
  pub form_tokens : Form → List Token
  form_tokens (assign place name becomes e closing) =
      name_at place name ∷ mark_at becomes mark.Becomes ∷ (expression_tokens e ++ mark_at closing mark.Semicolon ∷ [])
  form_tokens (loop place e b) = word_at place word.While ∷ (expression_tokens e ++ block_tokens b)
  form_tokens (branch place e b otherwise c) =
      word_at place word.If ∷ (expression_tokens e ++ (block_tokens b ++ word_at otherwise word.Else ∷ block_tokens c))

  pub block_tokens : Block → List Token
  block_tokens (block place fs closing) = mark_at place mark.OpenBlock ∷ (forms_tokens fs ++ mark_at closing mark.CloseBlock ∷ [])

  pub forms_tokens : Forms → List Token
  forms_tokens no_forms = []
  forms_tokens (form f rest) = form_tokens f ++ forms_tokens rest

-- their expressions bind so
abbrev mutual
  pub form_binds : Form → Bool
  form_binds (assign place name becomes e closing) = binds e
  form_binds (loop place e b) = binds e && block_binds b
  form_binds (branch place e b otherwise c) = binds e && (block_binds b && block_binds c)

  pub block_binds : Block → Bool
  block_binds (block place fs closing) = forms_bind fs

  pub forms_bind : Forms → Bool
  forms_bind no_forms = true
  forms_bind (form f rest) = form_binds f && forms_bind rest

-- DECL = ("int" | "bool") NAME ";"
pub record Decl : Type 0 where
  pub start : ℕ
  pub sort : Sort
  pub place : ℕ
  pub name : List ℕ
  pub closing : ℕ

abbrev pub decl_tokens : Decl → List Token
decl_tokens d = word_at d.start (word.Sort d.sort) ∷ name_at d.place d.name ∷ mark_at d.closing mark.Semicolon ∷ []

abbrev pub decls_tokens : List Decl → List Token
decls_tokens [] = []
decls_tokens (d ∷ ds) = decl_tokens d ++ decls_tokens ds

-- PROGRAM = DECL* STMT*
pub record InfixProgram : Type 0 where
  pub decls : List Decl
  pub forms : Forms
  pub bound : forms_bind forms ≡ true

abbrev pub program_tokens : InfixProgram → List Token
program_tokens p = decls_tokens p.decls ++ forms_tokens p.forms

-- the text is the program
abbrev pub IsProgram : List ℕ → InfixProgram → Type 0
IsProgram text p = tokens_in text ≡ program_tokens p

-- a program goes on with these tokens
abbrev pub GoesOn : List Token → Type 0
GoesOn ts = (p : InfixProgram) × (rest : List Token) × (program_tokens p ≡ ts ++ rest)

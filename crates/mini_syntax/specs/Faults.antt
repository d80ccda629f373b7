-- What keeps a text from being a program, from left to right: a byte or a name that is no token (1), a token with which no program goes
-- on, or the text's end where it ends too early (2), a bracket or brace that opens level 41 of its kind (3), and operator 41 of one
-- expression (4). The first that comes decides, and at one place the least rule.
use Rattle.std.specs.Prelude.{◌≡◌, ℕ, ◌+◌, ◌-◌, ◌≤◌, ◌⊎◌, List, [], ◌∷◌, ◌++◌, length, Bool, true, false, if◌then◌else◌}
use Rattle.mini_syntax.specs.{declared.lexer.TokenKind.{TokenKind}, Grammar.{InfixProgram, IsProgram, GoesOn}, Tokens.{Token, wrong_at}}
use Rattle.mini_syntax.specs.Tokens.{place_of, kind_of, tokens_in}
use Rattle.mini_syntax.specs.declared.lexer.TokenKind.TheVariants as kind
use Rattle.mini_syntax.specs.declared.mark.Mark.TheVariants as mark
use Rattle.mini_syntax.specs.declared.word.Word.TheVariants as word

abbrev pub opens_bracket : TokenKind → Bool
opens_bracket (kind.Mark mark.Open) = true
opens_bracket k = false

abbrev pub closes_bracket : TokenKind → Bool
closes_bracket (kind.Mark mark.Close) = true
closes_bracket k = false

abbrev pub opens_block : TokenKind → Bool
opens_block (kind.Mark mark.OpenBlock) = true
opens_block k = false

abbrev pub closes_block : TokenKind → Bool
closes_block (kind.Mark mark.CloseBlock) = true
closes_block k = false

-- `not` and both minus signs count
abbrev pub is_operator : TokenKind → Bool
is_operator (kind.Word word.Or) = true
is_operator (kind.Word word.And) = true
is_operator (kind.Word word.Not) = true
is_operator (kind.Mark mark.AtMost) = true
is_operator (kind.Mark mark.Equals) = true
is_operator (kind.Mark mark.Plus) = true
is_operator (kind.Mark mark.Minus) = true
is_operator (kind.Mark mark.Times) = true
is_operator k = false

-- an expression follows
abbrev pub begins_expression : TokenKind → Bool
begins_expression (kind.Word word.While) = true
begins_expression (kind.Word word.If) = true
begins_expression (kind.Mark mark.Becomes) = true
begins_expression k = false

-- how many tokens are of a kind that passes a test
abbrev pub count_of : (TokenKind → Bool) → List Token → ℕ
count_of test [] = 0
count_of test (t ∷ ts) = (if test (kind_of t) then 1 else 0) + count_of test ts

-- how many brackets, and how many blocks, are open after these tokens
abbrev pub open_brackets : List Token → ℕ
open_brackets ts = count_of opens_bracket ts - count_of closes_bracket ts

abbrev pub open_blocks : List Token → ℕ
open_blocks ts = count_of opens_block ts - count_of closes_block ts

-- how many operators the last expression has, where so many came before
abbrev pub operators_from : ℕ → List Token → ℕ
operators_from n [] = n
operators_from n (t ∷ ts) =
    operators_from (if begins_expression (kind_of t) then 0 else if is_operator (kind_of t) then n + 1 else n) ts

abbrev pub operators : List Token → ℕ
operators ts = operators_from 0 ts

-- a token after these breaks a rule
pub data BreaksAt (before : List Token) : Token → ℕ → Type 0 where
  no_token : (place : ℕ) → BreaksAt before (wrong_at place) 1
  no_program : (t : Token) → (GoesOn (before ++ t ∷ []) → ⊥) → BreaksAt before t 2
  brackets : (t : Token) → GoesOn (before ++ t ∷ []) → opens_bracket (kind_of t) ≡ true → 40 ≤ open_brackets before → BreaksAt before t 3
  blocks : (t : Token) → GoesOn (before ++ t ∷ []) → opens_block (kind_of t) ≡ true → 40 ≤ open_blocks before → BreaksAt before t 3
  too_many : (t : Token) → GoesOn (before ++ t ∷ []) → is_operator (kind_of t) ≡ true → 40 ≤ operators before → BreaksAt before t 4

-- none of the tokens breaks a rule
abbrev pub AreFree : List Token → Type 0
AreFree ts = (before : List Token) (t : Token) (after : List Token) (rule : ℕ) → ts ≡ before ++ t ∷ after → BreaksAt before t rule → ⊥

-- the first token that breaks a rule
pub record BreaksFirst (text : List ℕ) (rule place : ℕ) : Type 0 where
  pub before : List Token
  pub token : Token
  pub after : List Token
  pub parts : tokens_in text ≡ before ++ token ∷ after
  pub free : AreFree before
  pub breaks : BreaksAt before token rule
  pub least : (other : ℕ) → BreaksAt before token other → rule ≤ other
  pub at : place ≡ place_of token

-- the text ends too early
pub record EndsEarly (text : List ℕ) (rule place : ℕ) : Type 0 where
  pub free : AreFree (tokens_in text)
  pub no_program : (p : InfixProgram) → IsProgram text p → ⊥
  pub rule_is : rule ≡ 2
  pub at : place ≡ length text

-- what is wrong with the text's tokens
abbrev pub IsTextFault : List ℕ → ℕ → ℕ → Type 0
IsTextFault text rule place = BreaksFirst text rule place ⊎ EndsEarly text rule place

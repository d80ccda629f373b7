-- A program of the infix language with fewer than 40 tokens breaks no rule of tokens.
use Rattle.std.proofs.Common.{◌≡◌, ℕ, ◌+◌, ◌<◌, ◌≤◌, List, [], ◌∷◌, ◌++◌, length, length-append, append_assoc, Bool, true, false, refl, sym, ap, ◌∙◌, subst}
use Rattle.std.{proofs.Common.arith, specs.Prelude.{◌&&◌, if◌then◌else◌}}
use Rattle.mini_syntax.{specs.declared.lexer.TokenKind.TokenKind, specs.Faults.{AreFree, BreaksAt, no_token, no_program, brackets, blocks, too_many, count_of}}
use Rattle.mini_syntax.{specs.Faults.{operators_from, begins_expression, is_operator, opens_bracket, opens_block}, specs.Grammar.{InfixProgram, GoesOn}}
use Rattle.mini_syntax.{specs.Grammar.program_tokens, specs.Tokens.{Token, name_at, number_at, word_at, mark_at, wrong_at, kind_of}}

abbrev is_right : Token → Bool
is_right (wrong_at place) = false
is_right (name_at place bytes) = true
is_right (number_at place digits) = true
is_right (word_at place w) = true
is_right (mark_at place m) = true

abbrev all_right : List Token → Bool
all_right [] = true
all_right (t ∷ ts) = is_right t && all_right ts

-- no count is greater than the number of tokens
few_of : (test : TokenKind → Bool) (ts : List Token) → count_of test ts ≤ length ts
few_of test [] = omega arith
few_of test (t ∷ ts) = let h = few_of test ts in pick (test (kind_of t)) h
  where
    pick : (b : Bool) → count_of test ts ≤ length ts → (if b then 1 else 0) + count_of test ts ≤ length (t ∷ ts)
    pick true h = omega arith
    pick false h = omega arith

few_operators : (n : ℕ) (ts : List Token) → operators_from n ts ≤ n + length ts
few_operators n [] = omega arith
few_operators n (t ∷ ts) = pick (begins_expression (kind_of t)) (is_operator (kind_of t)) (few_operators 0 ts) (few_operators (n + 1) ts) (few_operators n ts)
  where
    pick : (b o : Bool) → operators_from 0 ts ≤ 0 + length ts → operators_from (n + 1) ts ≤ n + 1 + length ts → operators_from n ts ≤ n + length ts →
        operators_from (if b then 0 else if o then n + 1 else n) ts ≤ n + length (t ∷ ts)
    pick true o f g h = omega arith
    pick false true f g h = omega arith
    pick false false f g h = omega arith

right_in : (before : List Token) (t : Token) (after : List Token) → all_right (before ++ t ∷ after) ≡ true → is_right t ≡ true
right_in [] t after e = pick (is_right t) e
  where
    pick : (b : Bool) → (b && all_right after) ≡ true → b ≡ true
    pick true f = refl
    pick false f = cc
right_in (u ∷ before) t after e = right_in before t after (pick (is_right u) e)
  where
    pick : (b : Bool) → (b && all_right (before ++ t ∷ after)) ≡ true → all_right (before ++ t ∷ after) ≡ true
    pick true f = f
    pick false f = cc

-- fewer than 40 tokens of a program, none of which is wrong, break no rule
pub short_is_free : (p : InfixProgram) → length (program_tokens p) < 40 → all_right (program_tokens p) ≡ true → AreFree (program_tokens p)
short_is_free p few right before t after rule parts breaks = pick t rule parts breaks
  where
    shorter : (u : Token) → program_tokens p ≡ before ++ u ∷ after → length before < 40
    shorter u e = let h : length (program_tokens p) ≡ length before + length (u ∷ after) = ap length e ∙ length-append before (u ∷ after) in omega arith

    goes_on : (u : Token) → program_tokens p ≡ before ++ u ∷ after → GoesOn (before ++ u ∷ [])
    goes_on u e = (p, after, e ∙ sym (append_assoc before (u ∷ []) after))

    pick : (u : Token) (r : ℕ) → program_tokens p ≡ before ++ u ∷ after → BreaksAt before u r → ⊥
    pick u r e (no_token place) =
        let h : false ≡ true = right_in before (wrong_at place) after (subst (λ (ts : List Token). all_right ts ≡ true) e right) in absurd cc
    pick u r e (no_program v none) = none (goes_on u e)
    pick u r e (brackets v g o many) = let h = few_of opens_bracket before in absurd (omega (arith, h, many, shorter u e))
    pick u r e (blocks v g o many) = let h = few_of opens_block before in absurd (omega (arith, h, many, shorter u e))
    pick u r e (too_many v g o many) = let h = few_operators 0 before in absurd (omega (arith, h, many, shorter u e))

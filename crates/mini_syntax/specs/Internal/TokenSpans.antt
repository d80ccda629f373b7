-- A token that was found in a text.
use Rattle.std.specs.{Prelude.{◌≡◌, ℕ, ◌<◌, ◌≤◌, List, ◌∷◌, Bool, drop, length, slice_range}, Char.{is_ascii_digit}}
use Rattle.mini_syntax.specs.{declared.lexer.Run.{Run}, declared.lexer.TokenSpan.{TokenSpan}, Names.{is_word_byte}, Tokens.{Token, Mode}}
use Rattle.mini_syntax.specs.Tokens.{between, in_word, in_number, token_of, tokens}
use Rattle.mini_syntax.specs.declared.lexer.Run.TheVariants as runs

-- the bytes of a word and of a number, and the mode in one
abbrev pub run_test : Run → ℕ → Bool
run_test runs.Word = is_word_byte
run_test runs.Number = is_ascii_digit

abbrev pub run_mode : Run → Mode
run_mode runs.Word = in_word
run_mode runs.Number = in_number

-- its token
abbrev pub token_in : List ℕ → TokenSpan → Token
token_in text found = token_of found.kind found.start (slice_range text found.start found.end)

-- the tokens from a place on are the one that was found, and those after it
pub record FindsToken (text : List ℕ) (from : ℕ) (found : TokenSpan) : Type 0 where
  pub tokens_are : tokens between from (drop from text) ≡ token_in text found ∷ tokens between found.end (drop found.end text)
  pub in_order : (from ≤ found.start) × (found.start < found.end) × (found.end ≤ length text)

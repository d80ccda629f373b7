-- A token that was found in a text.
use Rattle.std.specs.Prelude.{◌≡◌, ℕ, ◌<◌, ◌≤◌, List, ◌∷◌, drop, length, slice_range}
use Rattle.stack_text.specs.Tokens.{Token, opens_at, closes_at, atom_at, invalid_at, between, tokens}
use Rattle.stack_text.specs.{declared.lexer.TokenSpan.{TokenSpan}, declared.lexer.TokenKind.{TokenKind}}
use Rattle.stack_text.specs.declared.lexer.TokenKind.TheVariants.{Opening, Closing, Atom, Invalid}

-- the token of a kind at a place, with its bytes
abbrev pub token_of : TokenKind → ℕ → List ℕ → Token
token_of Opening at bytes = opens_at at
token_of Closing at bytes = closes_at at
token_of Atom at bytes = atom_at at bytes
token_of Invalid at bytes = invalid_at at

abbrev pub token_in : List ℕ → TokenSpan → Token
token_in text found = token_of found.kind found.start (slice_range text found.start found.end)

-- the tokens from a place on are the one that was found, and those after it
pub record FindsToken (text : List ℕ) (from : ℕ) (found : TokenSpan) : Type 0 where
  pub tokens_are : tokens between from (drop from text) ≡ token_in text found ∷ tokens between found.end (drop found.end text)
  pub in_order : (from ≤ found.start) × (found.start < found.end) × (found.end ≤ length text)

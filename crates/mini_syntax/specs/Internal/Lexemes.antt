-- Tokens as the code has them.
use Rattle.std.specs.Prelude.{List, [], ◌∷◌, map}
use Rattle.mini_syntax.specs.{declared.lexeme.Cursor.{Cursor}, declared.lexeme.Lexeme.{Lexeme}, declared.lexer.TokenKind.{TokenKind}}
use Rattle.mini_syntax.specs.Tokens.{Token, kind_of, token_of}
use Rattle.mini_syntax.specs.declared.lexer.TokenKind.TheVariants as kind

abbrev pub token_seen : Lexeme → Token
token_seen l = token_of l.kind l.place l.bytes.now

-- the tokens that are still to be read
abbrev pub left_of : Cursor → List Token
left_of c = map token_seen c.left.now

-- what the next token is
abbrev pub next_kind : List Token → TokenKind
next_kind [] = kind.Wrong
next_kind (t ∷ ts) = kind_of t

-- The tokens of a text of the infix language, with the places of their first bytes.
use Rattle.std.specs.Prelude.{ℕ, ◌+◌, List, [], ◌∷◌, ◌++◌, length, Bool, true, false, ◌==◌, ◌||◌, nat_le, if◌then◌else◌, Option, Some, None}
use Rattle.std.specs.Char.{is_ascii_alphabetic, is_ascii_digit}
use Rattle.mini_syntax.specs.{InfixLimits.{most_infix_name_bytes}, declared.lexer.TokenKind.{TokenKind}, declared.mark.Mark.{Mark}}
use Rattle.mini_syntax.specs.{declared.word.Word.{Word}, Names.{is_word_byte, word_named}}
use Rattle.mini_syntax.specs.declared.lexer.TokenKind.TheVariants as kind
use Rattle.mini_syntax.specs.declared.mark.Mark.TheVariants as mark

-- a name; a number with its digits; a word of the language; a mark; or what is no token: a byte with which none begins, or a name
-- that is too long
pub data Token : Type 0 where
  name_at : (place : ℕ) (bytes : List ℕ) → Token
  number_at : (place : ℕ) (digits : List ℕ) → Token
  word_at : (place : ℕ) (word : Word) → Token
  mark_at : (place : ℕ) (mark : Mark) → Token
  wrong_at : (place : ℕ) → Token

abbrev pub place_of : Token → ℕ
place_of (name_at place bytes) = place
place_of (number_at place digits) = place
place_of (word_at place w) = place
place_of (mark_at place m) = place
place_of (wrong_at place) = place

abbrev pub kind_of : Token → TokenKind
kind_of (name_at place bytes) = kind.Name
kind_of (number_at place digits) = kind.Number
kind_of (word_at place w) = kind.Word w
kind_of (mark_at place m) = kind.Mark m
kind_of (wrong_at place) = kind.Wrong

-- the token of a kind at a place, with its bytes
abbrev pub token_of : TokenKind → ℕ → List ℕ → Token
token_of kind.Name at bytes = name_at at bytes
token_of kind.Number at bytes = number_at at bytes
token_of (kind.Word w) at bytes = word_at at w
token_of (kind.Mark m) at bytes = mark_at at m
token_of kind.Wrong at bytes = wrong_at at

-- space, tab, LF and CR
abbrev pub is_blank : ℕ → Bool
is_blank byte = byte == 32 || byte == 9 || byte == 10 || byte == 13

-- the mark of one byte, or of the byte and the next
abbrev pub second_is : List ℕ → ℕ → Mark → Option Mark
second_is [] byte m = None
second_is (b ∷ bytes) byte m = if b == byte then Some m else None

abbrev pub mark_of : ℕ → List ℕ → Option Mark
mark_of byte rest =
    if byte == 59 then Some mark.Semicolon else
    if byte == 58 then second_is rest 61 mark.Becomes else
    if byte == 60 then second_is rest 61 mark.AtMost else
    if byte == 61 then Some mark.Equals else
    if byte == 43 then Some mark.Plus else
    if byte == 45 then Some mark.Minus else
    if byte == 42 then Some mark.Times else
    if byte == 40 then Some mark.Open else
    if byte == 41 then Some mark.Close else
    if byte == 123 then Some mark.OpenBlock else
    if byte == 125 then Some mark.CloseBlock else
    None

-- whether a mark has two bytes
abbrev pub is_pair : Option Mark → Bool
is_pair (Some mark.Becomes) = true
is_pair (Some mark.AtMost) = true
is_pair _ = false

-- the longest run of bytes that pass a test
abbrev pub longest_run : (ℕ → Bool) → List ℕ → List ℕ
longest_run test [] = []
longest_run test (b ∷ bytes) = if test b then b ∷ longest_run test bytes else []

-- what the text is in before a byte: between tokens, in a word, in a number, or in a mark of two bytes
pub data Mode : Type 0 where
  between : Mode
  in_word : Mode
  in_number : Mode
  in_pair : Mode

-- a word of the language, or a name, which has 60 bytes at most
abbrev pub named_kind : Option Word → TokenKind
named_kind (Some w) = kind.Word w
named_kind None = kind.Name

abbrev pub word_kind : List ℕ → TokenKind
word_kind bytes = if nat_le (length bytes) most_infix_name_bytes then named_kind (word_named bytes) else kind.Wrong

abbrev pub word_token : ℕ → List ℕ → Token
word_token at bytes = token_of (word_kind bytes) at bytes

abbrev pub mark_token : ℕ → Option Mark → Token
mark_token at None = wrong_at at
mark_token at (Some m) = mark_at at m

-- the token that begins with a byte, if the byte isn't blank
abbrev pub fresh : ℕ → ℕ → List ℕ → List Token
fresh at byte rest =
    if is_blank byte then [] else
    if is_ascii_alphabetic byte then word_token at (longest_run is_word_byte (byte ∷ rest)) ∷ [] else
    if is_ascii_digit byte then number_at at (longest_run is_ascii_digit (byte ∷ rest)) ∷ [] else
    mark_token at (mark_of byte rest) ∷ []

abbrev pub after_fresh : ℕ → List ℕ → Mode
after_fresh byte rest =
    if is_ascii_alphabetic byte then in_word else
    if is_ascii_digit byte then in_number else
    if is_pair (mark_of byte rest) then in_pair else between

-- the token that begins with the first of the bytes, if one does: a token is as long as can be
abbrev pub begins : Mode → ℕ → ℕ → List ℕ → List Token
begins between at byte rest = fresh at byte rest
begins in_word at byte rest = if is_word_byte byte then [] else fresh at byte rest
begins in_number at byte rest = if is_ascii_digit byte then [] else fresh at byte rest
begins in_pair at byte rest = []

abbrev pub next : Mode → ℕ → List ℕ → Mode
next between byte rest = after_fresh byte rest
next in_word byte rest = if is_word_byte byte then in_word else after_fresh byte rest
next in_number byte rest = if is_ascii_digit byte then in_number else after_fresh byte rest
next in_pair byte rest = between

-- the tokens of the bytes from a place on
unfoldable pub tokens : Mode → ℕ → List ℕ → List Token
tokens mode at [] = []
tokens mode at (b ∷ bytes) = begins mode at b bytes ++ tokens (next mode b bytes) (at + 1) bytes

abbrev pub tokens_in : List ℕ → List Token
tokens_in text = tokens between 0 text

-- The tokens of a text, with the places of their first bytes.
use Rattle.std.specs.Prelude.{ℕ, ◌+◌, List, [], ◌∷◌, ◌++◌, ◌==◌, ◌&&◌, ◌||◌, nat_le, if◌then◌else◌}
use Rattle.stack_text.specs.{declared.class.Class.{Class}, declared.class.Class.TheVariants.{LineEnd, Space, Semicolon, Opening, Closing}}
use Rattle.stack_text.specs.declared.class.Class.TheVariants.{AtomByte, Invalid}

-- LF; space, tab or CR; `;`; `(`; `)`; another of 0x21 to 0x7E; or none of these
abbrev pub class_of : ℕ → Class
class_of byte =
    if byte == 10 then LineEnd else
    if byte == 32 || byte == 9 || byte == 13 then Space else
    if byte == 59 then Semicolon else
    if byte == 40 then Opening else
    if byte == 41 then Closing else
    if nat_le 0x21 byte && nat_le byte 0x7E then AtomByte else Invalid

-- a token: a parenthesis, an atom with its bytes, or a byte that no token has
pub data Token : Type 0 where
  opens_at : ℕ → Token
  closes_at : ℕ → Token
  atom_at : ℕ → List ℕ → Token
  invalid_at : ℕ → Token

-- what the text is in before a byte
pub data Mode : Type 0 where
  between : Mode
  in_atom : Mode
  in_comment : Mode

-- what it is in after a byte of a class: a comment ends at LF alone, and any byte but an atom's ends an atom
abbrev pub next : Mode → Class → Mode
next in_comment LineEnd = between
next in_comment _ = in_comment
next _ Semicolon = in_comment
next _ AtomByte = in_atom
next _ _ = between

abbrev pub if_atom_byte : Class → List ℕ → List ℕ
if_atom_byte AtomByte bytes = bytes
if_atom_byte _ bytes = []

-- the longest run of atom bytes at the front
abbrev pub atom_run : List ℕ → List ℕ
atom_run [] = []
atom_run (b ∷ bs) = if_atom_byte (class_of b) (b ∷ atom_run bs)

-- the token that begins with the first of the bytes, which lies at a place, if one does
abbrev pub begins : Mode → Class → ℕ → List ℕ → List Token
begins in_comment _ at bytes = []
begins in_atom AtomByte at bytes = []
begins between AtomByte at bytes = atom_at at (atom_run bytes) ∷ []
begins _ Opening at bytes = opens_at at ∷ []
begins _ Closing at bytes = closes_at at ∷ []
begins _ Invalid at bytes = invalid_at at ∷ []
begins _ _ at bytes = []

-- the tokens of the bytes from a place on
unfoldable pub tokens : Mode → ℕ → List ℕ → List Token
tokens mode at [] = []
tokens mode at (b ∷ bs) = begins mode (class_of b) at (b ∷ bs) ++ tokens (next mode (class_of b)) (at + 1) bs

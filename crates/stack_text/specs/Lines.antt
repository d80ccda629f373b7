-- Lines of a text.
use Rattle.std.specs.{Prelude.{ℕ, List, [], ◌∷◌, ◌++◌, length, Bool, ◌&&◌, nat_le}, List.{list_all}}
use Rattle.stack_text.specs.SharedLimits.{most_line_bytes}

-- a text and a line feed
abbrev pub line : List ℕ → List ℕ
line text = text ++ 10 ∷ []

-- a space, a tilde or a byte between
abbrev pub is_plain_byte : ℕ → Bool
is_plain_byte byte = nat_le 32 byte && nat_le byte 126

-- at most 256 bytes, all of them plain
unfoldable pub is_plain_line : List ℕ → Bool
is_plain_line bytes = nat_le (length bytes) most_line_bytes && list_all is_plain_byte bytes

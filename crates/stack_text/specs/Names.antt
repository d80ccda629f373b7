-- Which bytes are a name, and where one stands.
use Rattle.std.specs.Prelude.{ℕ, List, [], ◌∷◌, length, position, Option, Some, None, Bool, false, not, ◌&&◌, ◌||◌, ◌==◌, nat_le}
use Rattle.std.specs.{Prelude.{if◌then◌else◌, codes}, List.{list_all, list_any}, Str.{bytes_eq}, Char.{is_ascii_alphabetic}}
use Rattle.std.specs.Char.{is_ascii_alphanumeric}
use Rattle.stack_text.specs.SharedLimits.{most_name_bytes}

-- `-`, `_`, `*` or `$`
abbrev pub is_mark : ℕ → Bool
is_mark byte = byte == 45 || byte == 95 || byte == 42 || byte == 36

-- a letter, a digit or a mark
abbrev pub is_name_byte : ℕ → Bool
is_name_byte byte = is_ascii_alphanumeric byte || is_mark byte

abbrev pub begins_with_letter : List ℕ → Bool
begins_with_letter [] = false
begins_with_letter (byte ∷ bytes) = is_ascii_alphabetic byte

-- the words for the two truth values, which are no names
abbrev pub is_truth_word : List ℕ → Bool
is_truth_word bytes = bytes_eq bytes (codes "true") || bytes_eq bytes (codes "false")

-- a letter and up to 63 more letters, digits and marks, other than a word for a truth value
abbrev pub is_name : List ℕ → Bool
is_name bytes =
    begins_with_letter bytes && list_all is_name_byte bytes && nat_le (length bytes) most_name_bytes && not (is_truth_word bytes)

-- the name that the bytes are, if they are one
abbrev pub name_of : List ℕ → Option (List ℕ)
name_of bytes = if is_name bytes then Some bytes else None

-- one of these
abbrev pub is_among : List ℕ → List (List ℕ) → Bool
is_among name names = list_any (bytes_eq name) names

-- where the name stands first
unfoldable pub place_among : List ℕ → List (List ℕ) → Option ℕ
place_among name names = position (bytes_eq name) names

-- Words in hexadecimal digits.
use Rattle.std.specs.{Prelude.{ℕ, List}, Int.{w32, to_be_bytes}}
use Rattle.hex.specs.Hex.{encode_lower}

-- a word in eight hexadecimal digits, with lower-case letters and the highest digit first
unfoldable pub hex_digits : ℕ → List ℕ
hex_digits word = encode_lower (to_be_bytes w32 word)

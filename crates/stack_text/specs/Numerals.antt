-- Numerals: decimal digits, with or without a `-` before them. They may begin with zeros.
use Rattle.std.specs.Prelude.{ℕ, ℤ, pos, negsuc, ◌<◌, ◌^◌, List, length, drop, Option, Some, None, Bool, ◌&&◌, nat_lt, if◌then◌else◌}
use Rattle.std.specs.{Prelude.{IsTrue}, List.{list_all}, Char.{is_ascii_digit}, Str.Parse.{starts_with_minus, signed_digits_value}}

-- one decimal digit or more
abbrev pub is_digits : List ℕ → Bool
is_digits bytes = nat_lt 0 (length bytes) && list_all is_ascii_digit bytes

abbrev pub is_numeral : List ℕ → Bool
is_numeral bytes = is_digits (if starts_with_minus bytes then drop 1 bytes else bytes)

-- the number of a numeral of any length
abbrev pub numeral_value : List ℕ → ℤ
numeral_value bytes = signed_digits_value 10 bytes

-- from -2^127 to 2^127 - 1, where `negsuc n` is -(n + 1)
abbrev pub fits_128_bits : ℤ → Bool
fits_128_bits (pos n) = nat_lt n (2 ^ 127)
fits_128_bits (negsuc n) = nat_lt n (2 ^ 127)

-- a number of 128 bits
abbrev pub IsNumber : ℤ → Type 0
IsNumber z = IsTrue (fits_128_bits z)

-- a number of 128 bits that is not negative
abbrev pub IsNatural : ℤ → Type 0
IsNatural (pos n) = n < 2 ^ 127
IsNatural (negsuc n) = ⊥

-- the number of a numeral, if the bytes are one and it is in the 128-bit range
abbrev pub numeral_of : List ℕ → Option ℤ
numeral_of bytes = if is_numeral bytes && fits_128_bits (numeral_value bytes) then Some (numeral_value bytes) else None

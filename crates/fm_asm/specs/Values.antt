-- Values: a number, or a label that stands for one.
use Rattle.std.specs.{Prelude.{ℕ, List, Option, Some, None, Result, Ok, Err, if◌then◌else◌, codes, option_map}, Int.{w32, from_be_bytes}}
use Rattle.hex.specs.{Hex.{decode_sized}, declared.error.FromHexError.{FromHexError}}
use Rattle.stack_text.specs.{Names.{is_name}, Numerals.{is_digits, numeral_value}}
use Rattle.fm_words.specs.Word.{unsigned_32}
use Rattle.fm_asm.specs.declared.value.Value as declared
use Rattle.fm_asm.specs.declared.value.Value.TheVariants as variants
use Rattle.fm_asm.specs.Cuts.{after_prefix}

-- a number, which is `None` where it has more than 32 bits, or a label
pub data Value : Type 0 where
  number : Option ℕ → Value
  label : List ℕ → Value

-- what clauses see of a `Value`
abbrev pub value_of : declared.Value → Value
value_of (variants.Number n) = number n
value_of (variants.Label name) = label name.now

-- the number of decimal digits, if it fits 32 bits
abbrev pub decimal_value : List ℕ → Option ℕ
decimal_value digits = unsigned_32 (numeral_value digits)

-- the number of a word, if that is decimal digits
unfoldable pub decimal_in : List ℕ → Option (Option ℕ)
decimal_in word = if is_digits word then Some (decimal_value word) else None

abbrev pub number_of_bytes : Result (List ℕ) FromHexError → Option ℕ
number_of_bytes (Ok bytes) = Some (from_be_bytes w32 bytes)
number_of_bytes (Err fault) = None

-- the number of eight hexadecimal digits, of either case
unfoldable pub hex_value : List ℕ → Option ℕ
hex_value digits = number_of_bytes (decode_sized digits 4)

abbrev pub as_number : ℕ → Value
as_number n = number (Some n)

abbrev pub hexadecimal_after : Option (List ℕ) → Option Value
hexadecimal_after None = None
hexadecimal_after (Some digits) = option_map as_number (hex_value digits)

-- the value of a word, if that is decimal digits, a label, or `0x` and eight hexadecimal digits
unfoldable pub value_in : List ℕ → Option Value
value_in word =
    if is_digits word then Some (number (decimal_value word))
    else (if is_name word then Some (label word) else hexadecimal_after (after_prefix (codes "0x") word))

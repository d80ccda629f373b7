-- What is in a word, and what goes back into one: each goes on or fails.
use Rattle.std.specs.Prelude.{ℕ, ℤ, Result, Ok, Err, Bool, true, false}
use Rattle.piton_words.specs.{declared.word.Word.{Word}, declared.word.Word.TheVariants.{Int, Nat, Bitv, Bool as Truth, Addr}}
use Rattle.piton_words.specs.{declared.outcome.Outcome.{Outcome}, declared.outcome.WordError.{WordError}}
use Rattle.piton_words.specs.declared.outcome.WordError.TheVariants.{Tag, Range}

-- what a word of one type has in it; any other word has the wrong tag
abbrev pub int_of : Word → Result ℤ WordError
int_of (Int i) = Ok i
int_of word = Err Tag

abbrev pub nat_of : Word → Result ℕ WordError
nat_of (Nat n) = Ok n
nat_of word = Err Tag

abbrev pub bitv_of : Word → Result ℕ WordError
bitv_of (Bitv bits) = Ok bits
bitv_of word = Err Tag

abbrev pub bool_of : Word → Result Bool WordError
bool_of (Truth b) = Ok b
bool_of word = Err Tag

-- an area and an offset
abbrev pub addr_of : Word → Result (ℕ × ℕ) WordError
addr_of (Addr area offset) = Ok (area, offset)
addr_of word = Err Tag

-- the condition of a row holds, or what it asks is out of range
abbrev pub where_true : Bool → Result Outcome WordError → Result Outcome WordError
where_true true answer = answer
where_true false answer = Err Range

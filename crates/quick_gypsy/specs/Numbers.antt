-- Values as numbers in memory.
use Rattle.std.specs.Prelude.{ℕ, List, [], ◌∷◌, ◌++◌, map}
use Rattle.stack_text.specs.Values.{ValueOf}
use Rattle.fm_words.specs.Word.{word_of_int}

-- a number for each item: of an integer modulo 2^32, of a Boolean 1 or 0, of a character its code
abbrev pub value_numbers : ValueOf → List ℕ
value_numbers v = map word_of_int v.items

-- those of variables, one after the other
abbrev pub numbers_of : List ValueOf → List ℕ
numbers_of [] = []
numbers_of (v ∷ x) = value_numbers v ++ numbers_of x

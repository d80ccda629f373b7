-- Names and words of the infix language.
use Rattle.std.specs.{Prelude.{ℕ, List, [], ◌∷◌, length, Bool, true, false, ◌&&◌, ◌||◌, ◌==◌, nat_le, Option, is_none, codes}, List.{find}}
use Rattle.std.specs.{List.{list_all}, Str.{bytes_eq}, Char.{is_ascii_alphanumeric}}
use Rattle.mini_syntax.specs.{InfixLimits.{most_infix_name_bytes}, declared.word.Word.{Word}}
use Rattle.stack_text.specs.Names.{begins_with_letter}
use Rattle.mini_syntax.specs.declared.sort.Sort.TheVariants as sort
use Rattle.mini_syntax.specs.declared.word.Word.TheVariants as word

-- a letter, a digit or `_`
abbrev pub is_word_byte : ℕ → Bool
is_word_byte byte = is_ascii_alphanumeric byte || byte == 95

-- the words that are no names
abbrev pub spelling : Word → List ℕ
spelling (word.Sort sort.Int) = codes "int"
spelling (word.Sort sort.Bool) = codes "bool"
spelling word.While = codes "while"
spelling word.If = codes "if"
spelling word.Else = codes "else"
spelling word.Or = codes "or"
spelling word.And = codes "and"
spelling word.Not = codes "not"
spelling (word.Truth true) = codes "true"
spelling (word.Truth false) = codes "false"

abbrev pub words : List Word
words =
    word.Sort sort.Int ∷ word.Sort sort.Bool ∷ word.While ∷ word.If ∷ word.Else ∷ word.Or ∷ word.And ∷ word.Not ∷
    word.Truth true ∷ word.Truth false ∷ []

abbrev pub word_named : List ℕ → Option Word
word_named bytes = find (λ w. bytes_eq bytes (spelling w)) words

-- a letter, and then up to 59 letters, digits and `_`, but none of the words
abbrev pub is_variable_name : List ℕ → Bool
is_variable_name bytes =
    begins_with_letter bytes && list_all is_word_byte bytes && nat_le (length bytes) most_infix_name_bytes && is_none (word_named bytes)

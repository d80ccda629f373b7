-- Words as the text of Piton has them, with names in place of positions.
use Rattle.std.specs.{Prelude.{ℕ, ℤ, pos, List, [], ◌∷◌, ◌++◌, unwrap_or, slice_get}, List.{flat_map}, Option.{option_map}}
use Rattle.stack_text.specs.{Grammar.Printed.{unplaced}, TreeText.{tree_text}}
use Rattle.piton_words.specs.declared.word.Word.{Word}
use Rattle.piton_words.specs.declared.word.Word.TheVariants as word
use Rattle.piton_syntax.specs.{declared.word_text.Number.{Number}, declared.word_text.WordItem.{WordItem}}
use Rattle.piton_syntax.specs.{declared.word_text.WordText.{WordText}, Printed.{word_tree}, Systems.{AreaOf, ProgramOf, SystemOf}}
use Rattle.piton_syntax.specs.declared.word_text.WordItem.TheVariants as item

-- The name of the area or the program at a position. Where there is none, which no word of a run names, the main program's name
-- stands for it.
abbrev pub area_name_at : SystemOf → ℕ → List ℕ
area_name_at system area = unwrap_or (option_map (λ (a : AreaOf). a.name.name) (slice_get system.areas area)) system.main.name

abbrev pub program_name_at : SystemOf → ℕ → List ℕ
program_name_at system program =
    unwrap_or (option_map (λ (p : ProgramOf). p.name.name) (slice_get system.programs program)) system.main.name

-- with 0 for its place
abbrev pub number_item : ℤ → Number
number_item number = record { place = 0; number = number }

abbrev pub named_item : SystemOf → Word → WordItem
named_item system (word.Int number) = item.Int (number_item number)
named_item system (word.Nat number) = item.Nat (number_item (pos number))
named_item system (word.Bitv number) = item.Bitv (number_item (pos number))
named_item system (word.Bool truth) = item.Bool truth
named_item system (word.Addr area offset) = item.Addr (unplaced (area_name_at system area)) (number_item (pos offset))
named_item system (word.Pc program place) = item.Pc (unplaced (program_name_at system program)) (number_item (pos place))
named_item system (word.Subr program) = item.Subr (unplaced (program_name_at system program))

abbrev pub named_word : SystemOf → Word → WordText
named_word system word = record { place = 0; item = named_item system word }

-- a word as the text has it
abbrev pub word_text : SystemOf → Word → List ℕ
word_text system word = tree_text (word_tree (named_word system word))

-- a line of a name and words, with a space before each word
abbrev pub words_line : SystemOf → List ℕ → List Word → List ℕ
words_line system name words = name ++ flat_map (λ word. 32 ∷ word_text system word) words ++ 10 ∷ []

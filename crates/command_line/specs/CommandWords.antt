-- The words of a command line, read one after the other.
use Rattle.std.specs.Prelude.{◌≡◌, ℕ, zero, suc, ℤ, pos, negsuc, ◌-◌, ◌^◌, List, [], ◌∷◌, length, map, String, string_bytes, ◌&&◌, nat_le}
use Rattle.std.specs.{Prelude.{Option, Some, None, Result, Ok, Err, codes, if◌then◌else◌}, Global.{Global}, Str.{bytes_eq}}
use Rattle.stack_text.specs.{SharedLimits.{most_stack, most_steps}, Numerals.{is_digits, numeral_of}, Options.{◌>>=◌}}
use Rattle.command_line.specs.{declared.command.TaskFiles.{TaskFiles}, declared.words.reader.WordsFault.{WordsFault}}
use Rattle.command_line.specs.{declared.words.reader.WordsFault.TheVariants.{Usage, Memory}, declared.words.reader.Level.{Level}}
use Rattle.command_line.specs.declared.words.reader.Level.TheVariants.{Gypsy, Piton, Fm9001}

abbrev pub CommandWords : Type 0
CommandWords = List (List ℕ)

-- the bytes of the words
abbrev pub spelled : List (String Global) → CommandWords
spelled words = map (λ word. string_bytes word) words

-- What a call read, seen by view, is what the words have, and it is refused exactly where they have nothing, unless memory was refused.
abbrev pub ReadsWordsUnless : {X Y : Type 0} → Type 0 → (X → Y) → Result X WordsFault → Option Y → Type 0
ReadsWordsUnless refused view (Ok x) found = found ≡ Some (view x)
ReadsWordsUnless refused view (Err Usage) found = found ≡ None
ReadsWordsUnless refused view (Err Memory) found = refused

-- the same of a reader that takes no memory, and so can't run out of it
abbrev pub ReadsExactly : {X Y : Type 0} → (X → Y) → Result X WordsFault → Option Y → Type 0
ReadsExactly view (Ok x) found = found ≡ Some (view x)
ReadsExactly view (Err Usage) found = found ≡ None
ReadsExactly view (Err Memory) found = ⊥

-- what is read from words, and the words after it
abbrev pub Reader : Type 0 → Type 0
Reader A = CommandWords → Option (A × CommandWords)

-- the first word
unfoldable pub first : Reader (List ℕ)
first [] = None
first (word ∷ words) = Some (word, words)

-- the name of a file, which is any word
unfoldable pub file : Reader (List ℕ)
file words = do
  word ← first words
  Some (word.0, word.1)

abbrev pub where_within : ℕ → ℕ → Option ℤ → Option ℕ
where_within low high None = None
where_within low high (Some (pos n)) = if nat_le low n && nat_le n high then Some n else None
where_within low high (Some (negsuc n)) = None

-- the number that 1 to 20 digits spell, where it is within these bounds
unfoldable pub number_within : ℕ → ℕ → List ℕ → Option ℕ
number_within low high word =
    if is_digits word && nat_le (length word) 20 then where_within low high (numeral_of word) else None

-- a stack has 1 to 65,536 words
abbrev pub size_of_stack : List ℕ → Option ℕ
size_of_stack word = number_within 1 most_stack word

-- the size of a stack
unfoldable pub size : Reader ℕ
size words = do
  word ← first words
  number ← size_of_stack word.0
  Some (number, word.1)

-- the most instructions or steps, at most 2^40
unfoldable pub limit : Reader ℕ
limit words = do
  word ← first words
  number ← number_within 0 most_steps word.0
  Some (number, word.1)

-- the number that a large source is made from
unfoldable pub seed : Reader ℕ
seed words = do
  word ← first words
  number ← number_within 0 (2 ^ 32 - 1) word.0
  Some (number, word.1)

-- a large source calls 1 to 900 procedures
abbrev pub count_of_procedures : List ℕ → Option ℕ
count_of_procedures word = number_within 1 900 word

-- how many procedures a large source calls
unfoldable pub procedures : Reader ℕ
procedures words = do
  word ← first words
  number ← count_of_procedures word.0
  Some (number, word.1)

unfoldable pub level_named : List ℕ → Option Level
level_named word =
    if bytes_eq word (codes "gypsy") then Some Gypsy
    else (if bytes_eq word (codes "piton") then Some Piton
    else (if bytes_eq word (codes "fm9001") then Some Fm9001 else None))

-- the level of a debug session
unfoldable pub debug_level : Reader Level
debug_level words = do
  word ← first words
  named ← level_named word.0
  Some (named, word.1)

-- a turn is 1 to 2^40 instructions
abbrev pub length_of_turn : List ℕ → Option ℕ
length_of_turn word = number_within 1 most_steps word

-- how many instructions a turn has
unfoldable pub turn_length : Reader ℕ
turn_length words = do
  word ← first words
  number ← length_of_turn word.0
  Some (number, word.1)

-- the first task, and the words after it
unfoldable pub task : Reader TaskFiles
task words = do
  source ← file words
  values ← file source.1
  Some (record { source = source.0; values = values.0 }, values.1)

-- no task at the end of the words, else these
abbrev pub unless_ended : CommandWords → Option (List TaskFiles) → Option (List TaskFiles)
unless_ended [] others = Some []
unless_ended (word ∷ words) others = others

-- one task or more, and at most so many, up to the last word
unfoldable pub tasks_within : ℕ → CommandWords → Option (List TaskFiles)
tasks_within zero words = None
tasks_within (suc n) words = do
  first ← task words
  others ← unless_ended first.1 (tasks_within n first.1)
  Some (first.0 ∷ others)

-- one to eight tasks, up to the last word
unfoldable pub tasks : Reader (List TaskFiles)
tasks words = do
  read ← tasks_within 8 words
  Some (read, [])

-- no further word
unfoldable pub end : CommandWords → Option (Unit {0})
end [] = Some tt
end (word ∷ words) = None

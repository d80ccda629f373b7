-- Labels, words, and what breaks a rule where each line is of a form.
use Rattle.std.specs.Prelude.{◌≡◌, ℕ, ◌+◌, ◌%◌, ◌^◌, List, [], ◌∷◌, ◌++◌, Option, Some, None, Bool, false, is_some, is_none, not, nat_le}
use Rattle.std.specs.{Prelude.{if◌then◌else◌, option_map, unwrap_or}, List.{flat_map}, Str.{bytes_eq}}
use Rattle.name_tables.specs.Entries.{Entries, look_up}
use Rattle.stack_text.specs.{declared.breach.Breach.{Breach}, Breaches.{when}}
use Rattle.fm_image.specs.Limits.{is_inside}
use Rattle.fm_asm.specs.{Values.{Value, number, label}, Statements.{Statement, final, start, word, instruction}, Lines.{Line}}
use Rattle.fm_asm.specs.Sources.{SourceOf}

-- ---- where labels are

-- a line's own label is this one
abbrev pub is_labelled : List ℕ → Option (List ℕ) → Bool
is_labelled name None = false
is_labelled name (Some own) = bytes_eq name own

-- how many words stand before the first line that has a label
unfoldable pub offset_of : List Line → List ℕ → Option ℕ
offset_of [] name = None
offset_of (line ∷ lines) name = if is_labelled name line.said.label then Some line.offset else offset_of lines name

-- the table has the first line of each label
abbrev pub Knows : Entries ℕ → List Line → Type 0
Knows table lines = (name : List ℕ) → look_up table name ≡ offset_of lines name

-- rule 4: a label that an earlier line has
abbrev pub repeated : (List ℕ → Option ℕ) → ℕ → Option (List ℕ) → List Breach
repeated known place None = []
repeated known place (Some name) = when (is_some (known name)) place 4

-- the same of all lines, after some earlier ones
unfoldable pub repeats : List Line → List Line → List Breach
repeats earlier [] = []
repeats earlier (line ∷ lines) = repeated (offset_of earlier) line.place line.said.label ++ repeats (earlier ++ line ∷ []) lines

-- ---- numbers of values

-- the number of a value, by what is known of labels: a label stands for the base and the words before its line
unfoldable pub number_of : ℕ → (List ℕ → Option ℕ) → Value → Option ℕ
number_of base known (number n) = n
number_of base known (label name) = option_map (λ offset. base + offset) (known name)

-- ---- what breaks a rule

-- the address is there, and outside the window
abbrev pub is_outside : ℕ → ℕ → Option ℕ → Bool
is_outside base size None = false
is_outside base size (Some address) = not (is_inside base size address)

-- rule 5: a label that no line has
abbrev pub undefined : ℕ → Option ℕ → List Breach
undefined place n = when (is_none n) place 5

-- rule 6: a word beyond the size
abbrev pub beyond_size : ℕ → ℕ → ℕ → List Breach
beyond_size place size offset = when (nat_le size offset) place 6

-- rule 7: a run that would end outside the window
abbrev pub ends_outside : ℕ → ℕ → ℕ → Option ℕ → List Breach
ends_outside place base size address = when (is_outside base size address) place 7

-- the breaches of a statement at a place, with so many words before it, in a window and by what is known of labels
unfoldable pub statement_breaches : ℕ → ℕ → (List ℕ → Option ℕ) → ℕ → ℕ → Option Statement → List Breach
statement_breaches base size known place offset (Some (final v)) =
    undefined place (number_of base known v) ++ ends_outside place base size (number_of base known v)
statement_breaches base size known place offset (Some (start v)) = undefined place (number_of base known v)
statement_breaches base size known place offset (Some (word v)) = undefined place (number_of base known v) ++ beyond_size place size offset
statement_breaches base size known place offset (Some (instruction w)) = beyond_size place size offset
statement_breaches base size known place offset s = []

abbrev pub line_breaches : ℕ → ℕ → (List ℕ → Option ℕ) → Line → List Breach
line_breaches base size known line = statement_breaches base size known line.place line.offset line.said.statement

-- the breaches of rules 4 to 7
unfoldable pub breaches : SourceOf → List Breach
breaches s = repeats [] s.lines ++ flat_map (line_breaches s.base s.size (offset_of s.lines)) s.lines

-- ---- the words

-- a number as a word; where nothing breaks a rule, the number is there and fits 32 bits
abbrev pub as_word : Option ℕ → ℕ
as_word n = unwrap_or n 0 % 2 ^ 32

-- the word of a statement, if it is one
unfoldable pub statement_words : ℕ → (List ℕ → Option ℕ) → Option Statement → List ℕ
statement_words base known (Some (word v)) = as_word (number_of base known v) ∷ []
statement_words base known (Some (instruction w)) = unwrap_or w 0 ∷ []
statement_words base known s = []

abbrev pub line_words : ℕ → (List ℕ → Option ℕ) → Line → List ℕ
line_words base known line = statement_words base known line.said.statement

abbrev pub words_of : SourceOf → List ℕ
words_of s = flat_map (line_words s.base (offset_of s.lines)) s.lines

-- the number of a `.final`, as a word; and of a `.start`
abbrev pub final_word : ℕ → (List ℕ → Option ℕ) → Option Statement → Option ℕ
final_word base known (Some (final v)) = Some (as_word (number_of base known v))
final_word base known s = None

abbrev pub start_word : ℕ → (List ℕ → Option ℕ) → Option Statement → Option ℕ
start_word base known (Some (start v)) = Some (as_word (number_of base known v))
start_word base known s = None

-- the value of the first item that has one, and else 0
unfoldable pub first_value : {X : Type 0} → (X → Option ℕ) → List X → ℕ
first_value f [] = 0
first_value f (x ∷ xs) = unwrap_or (f x) (first_value f xs)

abbrev pub final_in : ℕ → (List ℕ → Option ℕ) → List Line → ℕ
final_in base known lines = first_value (λ line. final_word base known line.said.statement) lines

abbrev pub start_in : ℕ → (List ℕ → Option ℕ) → List Line → ℕ
start_in base known lines = first_value (λ line. start_word base known line.said.statement) lines

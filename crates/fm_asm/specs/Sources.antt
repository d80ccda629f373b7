-- Sources: the lines of a text, one after the other, or the first fault of their form. Rule 1 is about the bytes of a line, rule 2
-- about its form and what is due, rule 3 about the ranges of numbers. In `Due`, b is the base of the window and n its size.
use Rattle.std.specs.Prelude.{◌≡◌, ℕ, ◌+◌, List, [], ◌∷◌, ◌++◌, length, Option, Some, None, Bool, ◌==◌, if◌then◌else◌, Result, Ok, Err, map}
use Rattle.std.specs.List.{slice_split}
use Rattle.stack_text.specs.{Results.{◌>>=◌}, declared.breach.Breach.{Breach}, Lines.{is_plain_line}}
use Rattle.fm_image.specs.Limits.{is_size}
use Rattle.fm_asm.specs.{declared.due.Due.{Due}, Values.{Value, number, label}, Statements.{Statement, base, size, final, start, word}}
use Rattle.fm_asm.specs.{Statements.{instruction}, Lines.{Said, Line, says_something, line_of, text_of, said_in}}
use Rattle.fm_asm.specs.declared.due.Due.TheVariants as due
use Rattle.fm_asm.specs.declared.source.Source as declared

-- what is due next, if the value is in its range; else rule 3 is broken
abbrev pub if_in_range : Value → Due → Result Due ℕ
if_in_range (number None) next = Err 3
if_in_range (number (Some n)) next = Ok next
if_in_range (label name) next = Ok next

-- the same, if the instruction's immediate is in its range
abbrev pub if_encoded : Option ℕ → Due → Result Due ℕ
if_encoded None next = Err 3
if_encoded (Some n) next = Ok next

-- after a base a size is due
abbrev pub size_due : Option ℕ → Result Due ℕ
size_due None = Err 3
size_due (Some b) = Ok (due.Size b)

-- after a size that the window may have an end is due
abbrev pub final_due : ℕ → Option ℕ → Result Due ℕ
final_due b None = Err 3
final_due b (Some n) = if is_size b n then Ok (due.Final b n) else Err 3

-- what is due after a statement: the four of the header in order, and then words; a statement that isn't due breaks rule 2
unfoldable pub due_after : Due → Statement → Result Due ℕ
due_after due.Base (base n) = size_due n
due_after (due.Size b) (size n) = final_due b n
due_after (due.Final b n) (final v) = if_in_range v (due.Start b n)
due_after (due.Start b n) (start v) = if_in_range v (due.Words b n)
due_after (due.Words b n) (word v) = if_in_range v (due.Words b n)
due_after (due.Words b n) (instruction i) = if_encoded i (due.Words b n)
due_after d s = Err 2

-- the same after what a line says, which may be no statement
abbrev pub due_after_line : Due → Option Statement → Result Due ℕ
due_after_line d None = Ok d
due_after_line d (Some s) = due_after d s

-- a rule that is broken, at a place
abbrev pub at_place : {A : Type 0} → ℕ → Result A ℕ → Result A Breach
at_place place (Ok x) = Ok x
at_place place (Err rule) = Err (record { rule = rule; place = place })

abbrev pub if_of_form : Option Said → Result Said ℕ
if_of_form None = Err 2
if_of_form (Some said) = Ok said

-- what a line says, or the rule that it breaks: rule 1 by its bytes, and else rule 2 by its form
unfoldable pub said_of_line : List ℕ → Result Said ℕ
said_of_line bytes = if is_plain_line bytes then if_of_form (said_in (text_of bytes)) else Err 1

-- what a line says, and what is due after it; or the rule that it breaks
unfoldable pub line_read : Due → List ℕ → Result (Said × Due) ℕ
line_read d bytes = do
  said ← said_of_line bytes
  next ← due_after_line d said.statement
  Ok (said, next)

-- a statement that is a word
abbrev pub is_word : Option Statement → Bool
is_word (Some (word v)) = Bool.true
is_word (Some (instruction i)) = Bool.true
is_word s = Bool.false

-- how many words a line has
abbrev pub word_count : Option Statement → ℕ
word_count s = if is_word s then 1 else 0

-- a line, unless it says nothing
abbrev pub kept : Line → List Line
kept line = if says_something line.said then line ∷ [] else []

-- the base and the size of the window, and the lines that say something
pub record SourceOf : Type 0 where
  pub base : ℕ
  pub size : ℕ
  pub lines : List Line

-- what clauses see of a `Source`
abbrev pub source_of : declared.Source → SourceOf
source_of s = record { base = s.base; size = s.size; lines = map line_of s.lines.items }

-- the base and the size of the window, once the header is whole
abbrev pub window_of : Due → Option (ℕ × ℕ)
window_of (due.Words b n) = Some (b, n)
window_of d = None

abbrev pub ended_by : ℕ → Option (ℕ × ℕ) → Result SourceOf Breach
ended_by end None = Err (record { rule = 2; place = end })
ended_by end (Some window) = Ok (record { base = window.0; size = window.1; lines = [] })

-- at the end of a text nothing but words may be due
abbrev pub ended : ℕ → Due → Result SourceOf Breach
ended end d = ended_by end (window_of d)

abbrev pub with_lines : List Line → Result SourceOf Breach → Result SourceOf Breach
with_lines lines (Ok s) = Ok (record { base = s.base; size = s.size; lines = lines ++ s.lines })
with_lines lines (Err fault) = Err fault

-- the lines from a place on, with so many words before them, in a text that ends at `end`
unfoldable pub lines_read : ℕ → ℕ → ℕ → Due → List (List ℕ) → Result SourceOf Breach
lines_read end place offset d [] = ended end d
lines_read end place offset d (bytes ∷ rest) = do
  next ← at_place place (line_read d bytes)
  with_lines (kept (record { place = place; offset = offset; said = next.0 }))
      (lines_read end (place + length bytes + 1) (offset + word_count next.0.statement) next.1 rest)

-- the source of a text, or the first fault of its form; 10 is LF
unfoldable pub source_in : List ℕ → Result SourceOf Breach
source_in text = lines_read (length text) 0 0 due.Base (slice_split (λ b. b == 10) text)

-- it is the source of some text
abbrev pub IsOfText : SourceOf → Type 0
IsOfText s = (text : List ℕ) × (source_in text ≡ Ok s)

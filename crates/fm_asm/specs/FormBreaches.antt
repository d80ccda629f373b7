-- All breaches of rules 1 to 3 that a text has. A line that breaks one counts for nothing: what was due before it is still due.
use Rattle.std.specs.{Prelude.{ℕ, ◌+◌, ◌==◌, List, [], ◌∷◌, ◌++◌, length, Option, Some, None, not, Result, Ok, Err}, List.{slice_split}}
use Rattle.stack_text.specs.{Breaches.{when}, declared.breach.Breach.{Breach}, Lines.{is_plain_line}}
use Rattle.fm_asm.specs.{declared.due.Due.{Due}, Lines.{Said, text_of, said_in}, Sources.{due_after_line, line_read, SourceOf, window_of}}
use Rattle.fm_asm.specs.declared.due.Due.TheVariants as due

abbrev pub breach_at : ℕ → Result Due ℕ → List Breach
breach_at place (Ok d) = []
breach_at place (Err rule) = record { rule = rule; place = place } ∷ []

-- rule 2 where a line says nothing that has a form, and else what its statement breaks
abbrev pub said_breaches : Due → ℕ → Option Said → List Breach
said_breaches d place None = record { rule = 2; place = place } ∷ []
said_breaches d place (Some said) = breach_at place (due_after_line d said.statement)

-- what a line breaks by its bytes, and what it breaks by what it says
unfoldable pub form_breaches : Due → ℕ → List ℕ → List Breach
form_breaches d place bytes = when (not (is_plain_line bytes)) place 1 ++ said_breaches d place (said_in (text_of bytes))

-- what is due after a line that was read, or not
abbrev pub due_after_read : Due → Result (Said × Due) ℕ → Due
due_after_read d (Ok read) = read.1
due_after_read d (Err rule) = d

-- rule 2 where a statement of the header is missing at the end
abbrev pub end_breaches : ℕ → Option (ℕ × ℕ) → List Breach
end_breaches end None = record { rule = 2; place = end } ∷ []
end_breaches end (Some window) = []

-- the breaches of the lines from a place on, in a text that ends at `end`
unfoldable pub lines_breaches : ℕ → ℕ → Due → List (List ℕ) → List Breach
lines_breaches end place d [] = end_breaches end (window_of d)
lines_breaches end place d (bytes ∷ rest) =
    form_breaches d place bytes ++ lines_breaches end (place + length bytes + 1) (due_after_read d (line_read d bytes)) rest

-- the breaches of a text
unfoldable pub text_breaches : List ℕ → List Breach
text_breaches text = lines_breaches (length text) 0 due.Base (slice_split (λ b. b == 10) text)

-- the fault of what was read, if it is one
abbrev pub fault_in : Result SourceOf Breach → Option Breach
fault_in (Ok s) = None
fault_in (Err breach) = Some breach

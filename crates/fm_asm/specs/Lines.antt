-- Lines.
use Rattle.std.specs.Prelude.{ℕ, List, [], ◌∷◌, Option, Some, None, Bool, true, ◌&&◌, ◌||◌, is_some, ◌==◌, if◌then◌else◌, option_map}
use Rattle.stack_text.specs.Names.{is_name}
use Rattle.fm_asm.specs.declared.line.Said as declared_said
use Rattle.fm_asm.specs.declared.line.Line as declared
use Rattle.fm_asm.specs.{Cuts.{cut, without_leading_spaces, trimmed}, Statements.{Statement, statement_of, statement_in}}

-- what a line says: a label and a statement, each of which may be missing
pub record Said : Type 0 where
  pub label : Option (List ℕ)
  pub statement : Option Statement

-- a line that says something, with the place of its first byte and the number of words before it
pub record Line : Type 0 where
  pub place : ℕ
  pub offset : ℕ
  pub said : Said

-- it has a label or a statement
abbrev pub says_something : Said → Bool
says_something said = is_some said.label || is_some said.statement

-- what clauses see of a `Said` and of a `Line`
abbrev pub said_of : declared_said.Said → Said
said_of s = record { label = option_map (λ name. name.now) s.label; statement = option_map statement_of s.statement }

abbrev pub line_of : declared.Line → Line
line_of l = record { place = l.place; offset = l.offset; said = said_of l.said }

-- the text of a line: what stands before the first `;` (59), without the spaces at both ends
unfoldable pub text_of : List ℕ → List ℕ
text_of bytes = trimmed (cut 59 bytes).0

-- a statement, or nothing where the text is empty
unfoldable pub statement_or_none : List ℕ → Option (Option Statement)
statement_or_none [] = Some None
statement_or_none (b ∷ bs) = option_map Some (statement_in (b ∷ bs))

-- nothing, or bytes that begin with a space
abbrev pub is_apart : List ℕ → Bool
is_apart [] = true
is_apart (b ∷ bs) = b == 32

-- what a label before its `:` and the bytes after it say
unfoldable pub labelled : List ℕ → List ℕ → Option Said
labelled name rest =
    if is_name name && is_apart rest
    then option_map (λ statement. record { label = Some name; statement = statement }) (statement_or_none (without_leading_spaces rest))
    else None

-- what a text says by the parts around its first `:`, or by itself where it has none
unfoldable pub said_by : Option (List ℕ) → List ℕ → List ℕ → Option Said
said_by (Some rest) front text = labelled front rest
said_by None front text = option_map (λ statement. record { label = None; statement = statement }) (statement_or_none text)

-- what a text says, if it is of a form; 58 is `:`
unfoldable pub said_in : List ℕ → Option Said
said_in text = said_by (cut 58 text).1 (cut 58 text).0 text

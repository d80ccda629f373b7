-- Texts of a session.
use Rattle.std.specs.Prelude.{ℕ, List, Option, Some, None, codes}
use Rattle.display_maps.specs.ReadingAt.{ReadingAtOf, reading_at_text}

-- what stands where no part of the source is known to begin
abbrev pub no_mark : List ℕ
no_mark = codes "no mark\n"

-- what is read at a mark, or that there is none
abbrev pub mark_text : Option ReadingAtOf → List ℕ
mark_text (Some read) = reading_at_text read
mark_text None = no_mark

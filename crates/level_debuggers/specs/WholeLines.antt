-- That what a session says are whole lines.
use Rattle.std.specs.Prelude.{◌≡◌, ◌⊎◌, ℕ, List, []}
use Rattle.stack_text.specs.Lines.{line}
use Rattle.debug_script.specs.declared.reading.Line.{Line}
use Rattle.level_debuggers.specs.{Transcripts.{followed, said_to}, Walks.{SessionOf}}

-- a text that is empty, or ends with a line feed
abbrev pub AreLines : List ℕ → Type 0
AreLines text = (text ≡ []) ⊎ ((before : List ℕ) × (text ≡ line before))

-- what is said to a line of a script
abbrev pub AnswersAreLines : Type 0
AnswersAreLines = (asked : Line) (s : SessionOf) → AreLines (said_to asked s).text

-- and so what is said to a whole script, behind whole lines
abbrev pub TranscriptsAreLines : Type 0
TranscriptsAreLines = (lines : List Line) (text : List ℕ) (s : SessionOf) → AreLines text → AreLines (followed text lines s).text

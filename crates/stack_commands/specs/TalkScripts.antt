-- Lines that come one by one, and the script that they are together.
use Rattle.std.specs.Prelude.{◌≡◌, ◌≢◌, ◌⊎◌, ◌<◌, ◌^◌, ℕ, List, [], ◌∷◌, ◌++◌, length, All, Some, Ok, Err}
use Rattle.bstr.specs.Text.{lines_of}
use Rattle.stack_shelf.specs.Lines.{IsLine}
use Rattle.debug_script.specs.{declared.reading.Line.{Line}, Scripts.{script_of}}
use Rattle.debug_script.specs.declared.fault.ScriptFault.TheVariants as script
use Rattle.level_debuggers.specs.{declared.script_end.ScriptEnd.{ScriptEnd}, Transcripts.{Followed, followed}, Walks.{SessionOf}}
use Rattle.stack_commands.specs.Commands.Talk.{Talked, stop_of, talked}
use Rattle.stack_commands.specs.declared.talking.TalkEnd.TheVariants as talk

-- what a script said is what lines say one by one
abbrev pub said_as : Followed → Talked
said_as made = record { text = made.text; end = stop_of made.end; session = made.session }

-- If the lines of a text come one by one, all is said that the script of that text says, and it ends as the script does.
abbrev pub TalksFollow : Type 0
TalksFollow = (text : List ℕ) (asked : List Line) (s : SessionOf) → length (lines_of text) < 2 ^ 32 → script_of text ≡ Ok asked →
    talked 0 (lines_of text) s ≡ said_as (followed [] asked s)

-- If the text is refused as a script, the lines end the session by the same rule at the same line, unless a line before that ends it.
abbrev pub TalksRefuse : Type 0
TalksRefuse = (text : List ℕ) (rule line : ℕ) (s : SessionOf) → length (lines_of text) < 2 ^ 32 →
    script_of text ≡ Err (script.Refused rule line) →
    let made = talked 0 (lines_of text) s in
    (made.end ≡ Some (talk.Refused rule line)) ⊎ ((e : ScriptEnd) × (made.end ≡ Some (talk.Script e)))

-- a line with its line feed at its end and no other
abbrev pub HasFeed : List ℕ → Type 0
HasFeed line = (text : List ℕ) × All (λ byte. byte ≢ 10) text × (line ≡ text ++ 10 ∷ [])

-- lines that came of one text: each has its line feed, and the last one may have none
abbrev pub AreOfOneText : List (List ℕ) → Type 0
AreOfOneText [] = Unit {0}
AreOfOneText (line ∷ []) = IsLine line
AreOfOneText (line ∷ next ∷ lines) = HasFeed line × AreOfOneText (next ∷ lines)

abbrev pub together : List (List ℕ) → List ℕ
together [] = []
together (line ∷ lines) = line ++ together lines

-- Put together, they are a text that has these lines.
abbrev pub LinesStay : Type 0
LinesStay = (lines : List (List ℕ)) → AreOfOneText lines → lines_of (together lines) ≡ lines

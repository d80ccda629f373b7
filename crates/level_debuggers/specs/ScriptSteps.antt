-- How far a script leads, and what is said at its lines of `show`, `up`, `words` and `until`.
use Rattle.std.specs.Prelude.{◌≡◌, ◌≤◌, ◌<◌, ◌^◌, ℕ, ◌+◌, List, [], ◌∷◌, ◌++◌, length, true, false, unwrap_or, if◌then◌else◌}
use Rattle.debug_script.specs.{declared.command.Command.{Command}, declared.command.Place.{Place}, declared.reading.Line.{Line}}
use Rattle.debug_script.specs.declared.command.Command.TheVariants as command
use Rattle.piton_semantics.specs.StateView.{saturated}
use Rattle.level_debuggers.specs.declared.arrival.Arrival.TheVariants as arrival
use Rattle.level_debuggers.specs.declared.script_end.ScriptEnd.TheVariants as end
use Rattle.level_debuggers.specs.declared.session.SessionRun.TheVariants as run
use Rattle.level_debuggers.specs.{Arrivals.{IsFirstArrival, IsFirstOfAny, first_arrival, first_where}, FmLevels.{FmLevelOf, word_lines}}
use Rattle.level_debuggers.specs.{Levels.{LevelOf, Fm, has_all, has_places, next_of, show_text, stands_at_one, up_text}, Steps.{is_over}}
use Rattle.level_debuggers.specs.{Walks.{SessionOf, stepped, walk}, Transcripts.{arrival_text, followed, run_text}}

-- the steps to the first arrival at a place, or as many as are asked for
abbrev pub until_steps : Place → ℕ → LevelOf → ℕ
until_steps there n level = if has_places level there then unwrap_or (first_arrival there n level) n else 0

abbrev pub until_any_steps : List Place → ℕ → LevelOf → ℕ
until_any_steps places n level = if has_all level places then unwrap_or (first_where (stands_at_one places) n level) n else 0

-- how many steps a command leads a run
abbrev pub steps_led : Command → LevelOf → ℕ
steps_led (command.Step count) level = count
steps_led command.Show level = 0
steps_led command.ShowAll level = 0
steps_led command.Up level = 0
steps_led (command.Attach word) level = 0
steps_led (command.Detach word) level = 0
steps_led (command.Tally word) level = 0
steps_led (command.Words address count) level = 0
steps_led (command.Until there limit) level = until_steps there limit level
steps_led (command.UntilAny places limit) level = until_any_steps places limit level

-- how many lines lead it together, each from where the one before has led it
abbrev pub steps_of_lines : List Line → LevelOf → ℕ
steps_of_lines [] level = 0
steps_of_lines (first ∷ lines) level =
    let n = steps_led first.command level in n + steps_of_lines lines (walk n level).level

-- Behind a script all of whose lines were carried out, the run stands where as many steps in one go lead it, of which no watch is told.
abbrev pub ScriptsWalk : Type 0
ScriptsWalk = (text : List ℕ) (lines : List Line) (s : SessionOf) → (followed text lines s).end ≡ end.Done →
    (followed text lines s).session.level ≡ (walk (steps_of_lines lines s.level) s.level).level

-- a line of `up`
abbrev pub up_line : ℕ → Line
up_line number = record { line = number; command = command.Up }

-- At a line of `up`, where the lines before it were carried out, the text is said that the run has there; and the script goes on.
abbrev pub UpIsSaid : Type 0
UpIsSaid = (text : List ℕ) (before after : List Line) (number : ℕ) (s : SessionOf) → (followed text before s).end ≡ end.Done →
    let made = followed text before s in
    followed text (before ++ up_line number ∷ after) s
    ≡ followed (made.text ++ up_text (walk (steps_of_lines before s.level) s.level).level) after made.session

-- a line of `show`
abbrev pub show_line : ℕ → Line
show_line number = record { line = number; command = command.Show }

-- At a line of `show` it is what the run shows there, after as many steps of its session as were made.
abbrev pub ShowIsSaid : Type 0
ShowIsSaid = (text : List ℕ) (before after : List Line) (number : ℕ) (s : SessionOf) → s.steps < 2 ^ 64 →
    (followed text before s).end ≡ end.Done →
    let made = followed text before s in
    let there = walk (steps_of_lines before s.level) s.level in
    followed text (before ++ show_line number ∷ after) s
    ≡ followed (made.text ++ show_text there.level (saturated (s.steps + length there.events))) after made.session

-- a line of `words`
abbrev pub line_of_words : (number address count : ℕ) → Line
line_of_words number address count = record { line = number; command = command.Words address count }

-- At a line of `words` it is the memory of the processor that the run has there.
abbrev pub WordsAreSaid : Type 0
WordsAreSaid = (text : List ℕ) (before after : List Line) (number address count : ℕ) (s : SessionOf) (run : FmLevelOf) →
    (followed text before s).end ≡ end.Done → (walk (steps_of_lines before s.level) s.level).level ≡ Fm run →
    let made = followed text before s in
    followed text (before ++ line_of_words number address count ∷ after) s
    ≡ followed (made.text ++ word_lines run.state address count) after made.session

-- a line of `until`
abbrev pub until_line : ℕ → Place → ℕ → Line
until_line number there limit = record { line = number; command = command.Until there limit }

-- At a line of `until` the session goes on to the first arrival, where that is not too far, and says after how many steps it is.
abbrev pub ArrivalsAreSaid : Type 0
ArrivalsAreSaid = (text : List ℕ) (before after : List Line) (number limit k : ℕ) (there : Place) (s : SessionOf) (here : LevelOf) →
    (followed text before s).end ≡ end.Done → (walk (steps_of_lines before s.level) s.level).level ≡ here →
    has_places here there ≡ true → IsFirstArrival there k here → k ≤ limit →
    let made = followed text before s in
    followed text (before ++ until_line number there limit ∷ after) s
    ≡ followed (made.text ++ arrival_text (arrival.There k)) after (stepped k made.session).session

-- So it is at a line of `until` with several places, where the run can stand at each of them.
abbrev pub until_any_line : ℕ → List Place → ℕ → Line
until_any_line number places limit = record { line = number; command = command.UntilAny places limit }

abbrev pub ArrivalsAtAnyAreSaid : Type 0
ArrivalsAtAnyAreSaid =
    (text : List ℕ) (before after : List Line) (number limit k : ℕ) (places : List Place) (s : SessionOf) (here : LevelOf) →
    (followed text before s).end ≡ end.Done → (walk (steps_of_lines before s.level) s.level).level ≡ here →
    has_all here places ≡ true → IsFirstOfAny places k here → k ≤ limit →
    let made = followed text before s in
    followed text (before ++ until_any_line number places limit ∷ after) s
    ≡ followed (made.text ++ arrival_text (arrival.There k)) after (stepped k made.session).session

-- the steps that a command asks for by their number, and those of lines together
abbrev pub steps_asked : Command → ℕ
steps_asked (command.Step count) = count
steps_asked other = 0

abbrev pub all_asked : List Line → ℕ
all_asked [] = 0
all_asked (first ∷ lines) = steps_asked first.command + all_asked lines

-- lines that ask for steps and nothing else
abbrev pub AskForSteps : List Line → Type 0
AskForSteps [] = Unit {0}
AskForSteps (first ∷ lines) = (first.command ≡ command.Step (steps_asked first.command)) × AskForSteps lines

-- what is said to them where none of them comes to the end: `stepped 3` to each
abbrev pub stepped_lines : List Line → List ℕ
stepped_lines [] = []
stepped_lines (first ∷ lines) = run_text (run.Moved (steps_asked first.command)) ++ stepped_lines lines

-- so many steps can be made, and do not come to the end
pub record GoesOn (n : ℕ) (level : LevelOf) : Type 0 where
  pub whole : length (walk n level).events ≡ n
  pub going : is_over (next_of (walk n level).level) ≡ false

-- Lines that ask for so many steps together are carried out, and to each is said how many it has made.
abbrev pub StepsAreSaid : Type 0
StepsAreSaid = (text : List ℕ) (lines : List Line) (s : SessionOf) → AskForSteps lines → GoesOn (all_asked lines) s.level →
    ((followed text lines s).end ≡ end.Done) × ((followed text lines s).text ≡ text ++ stepped_lines lines)

-- so many steps can be made and do not come to the end, and this is what the run says of the source there
pub record SaysAfter (n : ℕ) (level : LevelOf) (said : List ℕ) : Type 0 where
  pub goes : GoesOn n level
  pub says : up_text (walk n level).level ≡ said

-- So it is said to a script whose first lines ask for these steps, and for `up` behind them; and the script goes on.
abbrev pub UpSaysMoment : Type 0
UpSaysMoment = (text said : List ℕ) (before after : List Line) (number : ℕ) (s : SessionOf) → AskForSteps before →
    SaysAfter (all_asked before) s.level said →
    followed text (before ++ up_line number ∷ after) s
    ≡ followed (text ++ stepped_lines before ++ said) after (followed text before s).session

-- what was said stays
abbrev pub TextStays : Type 0
TextStays = (text : List ℕ) (lines : List Line) (s : SessionOf) → (more : List ℕ) × ((followed text lines s).text ≡ text ++ more)

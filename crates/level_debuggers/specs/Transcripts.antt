-- What a session says to a script.
use Rattle.std.specs.{Prelude.{◌≡◌, ◌⊎◌, ℕ, ◌-◌, min, List, [], ◌∷◌, ◌++◌, drop, Option, Some, None, codes, if◌then◌else◌}, Fmt.{decimal}}
use Rattle.stack_text.specs.Lines.{line}
use Rattle.debug_script.specs.{declared.command.Command.{Command}, declared.command.Place.{Place}, declared.command.WatchWord.{WatchWord}}
use Rattle.debug_script.specs.declared.reading.Line.{Line}
use Rattle.debug_script.specs.declared.command.Command.TheVariants as command
use Rattle.debug_script.specs.declared.command.WatchWord.TheVariants as word
use Rattle.level_debuggers.specs.{declared.session.SessionRun.{SessionRun}, declared.watch.Rule.{Rule}, declared.watch.Tally.{Tally}}
use Rattle.level_debuggers.specs.{declared.arrival.Arrival.{Arrival}, Arrivals.{Arrived, arrived, arrived_at_one}, Levels.{has_all}}
use Rattle.level_debuggers.specs.{Levels.{all_text, has_places, show_text, up_text, words_text}, Taken.{attached_by, detached_by, tally_by}}
use Rattle.level_debuggers.specs.{Walks.{SessionOf, Stepped, stepped, HasMadeSome}, declared.script_end.ScriptEnd.{ScriptEnd}}
use Rattle.level_debuggers.specs.declared.session.SessionRun.TheVariants as run
use Rattle.level_debuggers.specs.declared.watch.Rule.TheVariants as rule
use Rattle.level_debuggers.specs.declared.arrival.Arrival.TheVariants as arrival
use Rattle.level_debuggers.specs.declared.script_end.ScriptEnd.TheVariants as end

-- what is said, how the script ends where it ends here, and the session that is left
pub record Said : Type 0 where
  pub text : List ℕ
  pub end : Option ScriptEnd
  pub session : SessionOf

abbrev pub goes_on : List ℕ → SessionOf → Said
goes_on text s = record { text = text; end = None; session = s }

abbrev pub ends_with : ScriptEnd → SessionOf → Said
ends_with e s = record { text = []; end = Some e; session = s }

-- the rule of a watch that a script names, and its name
abbrev pub rule_of_word : WatchWord → Rule
rule_of_word word.Count = rule.Count
rule_of_word word.Cost = rule.Cost
rule_of_word word.Last = rule.Last
rule_of_word word.Peak = rule.Peak

abbrev pub watch_name : WatchWord → List ℕ
watch_name word.Count = codes "count"
watch_name word.Cost = codes "cost"
watch_name word.Last = codes "last"
watch_name word.Peak = codes "peak"

-- steps: a refused one ends the script
abbrev pub run_text : SessionRun → List ℕ
run_text (run.Moved count) = line (codes "stepped " ++ decimal count)
run_text (run.Ended count) = line (codes "stepped " ++ decimal count ++ codes " ended")
run_text refused = []

abbrev pub run_end : SessionRun → Option ScriptEnd
run_end (run.Moved count) = None
run_end (run.Ended count) = None
run_end (run.Error kind program place after) = Some (end.Error kind program place after)
run_end (run.Outside address after) = Some (end.Outside address after)

abbrev pub step_said : Stepped → Said
step_said made = record { text = run_text made.run; end = run_end made.run; session = made.session }

-- `attached peak`
abbrev pub attached_word : WatchWord → List ℕ
attached_word word = line (codes "attached " ++ watch_name word)

abbrev pub attach_with : ℕ → WatchWord → SessionOf → Option SessionOf → Said
attach_with number word s (Some after) = goes_on (attached_word word) after
attach_with number word s None = ends_with (end.NoneWaits number) s

abbrev pub attach_said : ℕ → WatchWord → SessionOf → Said
attach_said number word s = attach_with number word s (attached_by (rule_of_word word) s)

-- `count 3`, `cost 28`, `peak 2`, or `last` and the places of the latest events, at most eight, the oldest first
abbrev pub places_said : List ℕ → List ℕ
places_said [] = []
places_said (place ∷ places) = codes " " ++ decimal place ++ places_said places

abbrev pub last_said : Tally → List ℕ
last_said tally = line (codes "last" ++ places_said (drop (8 - min tally.count 8) tally.last))

abbrev pub tally_said : Rule → Tally → List ℕ
tally_said rule.Count tally = line (codes "count " ++ decimal tally.count)
tally_said rule.Cost tally = line (codes "cost " ++ decimal tally.count)
tally_said rule.Peak tally = line (codes "peak " ++ decimal tally.peak)
tally_said rule.Last tally = last_said tally

abbrev pub detach_with : ℕ → Rule → SessionOf → Option (Tally × SessionOf) → Said
detach_with number kept s (Some found) = goes_on (tally_said kept found.0) found.1
detach_with number kept s None = ends_with (end.NoneAttached number) s

abbrev pub detach_said : ℕ → WatchWord → SessionOf → Said
detach_said number word s = detach_with number (rule_of_word word) s (detached_by (rule_of_word word) s)

-- the same line of a watch that stays attached
abbrev pub tally_with : ℕ → Rule → SessionOf → Option Tally → Said
tally_with number kept s (Some tally) = goes_on (tally_said kept tally) s
tally_with number kept s None = ends_with (end.NoneAttached number) s

abbrev pub tally_asked : ℕ → WatchWord → SessionOf → Said
tally_asked number word s = tally_with number (rule_of_word word) s (tally_by (rule_of_word word) s)

-- a text that the run has, such as words of its memory
abbrev pub text_said : ℕ → SessionOf → Option (List ℕ) → Said
text_said number s (Some text) = goes_on text s
text_said number s None = ends_with (end.OtherLevel number) s

-- `arrived 146`, or what is said to as many steps
abbrev pub arrival_text : Arrival → List ℕ
arrival_text (arrival.There count) = line (codes "arrived " ++ decimal count)
arrival_text (arrival.Elsewhere ran) = run_text ran

abbrev pub arrival_end : Arrival → Option ScriptEnd
arrival_end (arrival.There count) = None
arrival_end (arrival.Elsewhere ran) = run_end ran

abbrev pub arrived_said : Arrived → Said
arrived_said made = record { text = arrival_text made.arrival; end = arrival_end made.arrival; session = made.session }

abbrev pub until_said : ℕ → Place → ℕ → SessionOf → Said
until_said number there n s =
    if has_places s.level there then arrived_said (arrived there n s) else ends_with (end.OtherLevel number) s

abbrev pub until_any_said : ℕ → List Place → ℕ → SessionOf → Said
until_any_said number places n s =
    if has_all s.level places then arrived_said (arrived_at_one places n s) else ends_with (end.OtherLevel number) s

-- what a session says to the command of a line
abbrev pub said_by : ℕ → Command → SessionOf → Said
said_by number (command.Step count) s = step_said (stepped count s)
said_by number command.Show s = goes_on (show_text s.level s.steps) s
said_by number command.ShowAll s = text_said number s (all_text s.level)
said_by number command.Up s = goes_on (up_text s.level) s
said_by number (command.Attach word) s = attach_said number word s
said_by number (command.Detach word) s = detach_said number word s
said_by number (command.Tally word) s = tally_asked number word s
said_by number (command.Words address count) s = text_said number s (words_text s.level address count)
said_by number (command.Until there limit) s = until_said number there limit s
said_by number (command.UntilAny places limit) s = until_any_said number places limit s

abbrev pub said_to : Line → SessionOf → Said
said_to line s = said_by line.line line.command s

-- a text to which this was appended, how the script went on, and the session that was left
abbrev pub IsSaid : Said → List ℕ → List ℕ → Option ScriptEnd → SessionOf → Type 0
IsSaid said old new end session = (new ≡ old ++ said.text) × (end ≡ said.end) × (session ≡ said.session)

-- a script that was followed: what is said after a text, how it ended, and the session that is left
pub record Followed : Type 0 where
  pub text : List ℕ
  pub end : ScriptEnd
  pub session : SessionOf

abbrev pub follow_on : List ℕ → Said → Option ScriptEnd → (List ℕ → SessionOf → Followed) → Followed
follow_on text said None go = go (text ++ said.text) said.session
follow_on text said (Some e) go = record { text = text ++ said.text; end = e; session = said.session }

-- line by line, to the first that ends it
unfoldable pub followed : List ℕ → List Line → SessionOf → Followed
followed text [] s = record { text = text; end = end.Done; session = s }
followed text (line ∷ lines) s =
    let said = said_to line s in
    follow_on text said said.end (λ text s. followed text lines s)

-- the session that is left where memory ran out at the command of a line: some of its steps were made, and any other command was
-- carried out
abbrev pub IsLeftBy : ℕ → Command → SessionOf → SessionOf → Type 0
IsLeftBy number (command.Step count) old new = HasMadeSome count old new
IsLeftBy number command.Show old new = new ≡ old
IsLeftBy number command.ShowAll old new = new ≡ old
IsLeftBy number command.Up old new = new ≡ old
IsLeftBy number (command.Attach word) old new = new ≡ (attach_said number word old).session
IsLeftBy number (command.Detach word) old new = new ≡ (detach_said number word old).session
IsLeftBy number (command.Tally word) old new = new ≡ old
IsLeftBy number (command.Words address count) old new = new ≡ old
IsLeftBy number (command.Until there limit) old new = HasMadeSome limit old new
IsLeftBy number (command.UntilAny places limit) old new = HasMadeSome limit old new

-- the session that is left where memory ran out at one of these lines: those before it were carried out, and none of them ended
-- the script
unfoldable pub IsLeftIn : List Line → SessionOf → SessionOf → Type 0
IsLeftIn [] old new = ⊥
IsLeftIn (line ∷ lines) old new =
    IsLeftBy line.line line.command old new
    ⊎ (((said_to line old).end ≡ None) × IsLeftIn lines (said_to line old).session new)

-- What a session says to a line of a script are whole lines.
use Rattle.std.proofs.Common.{inl, inr, ℕ, zero, suc, ◌+◌, Bool, true, false, List, [], ◌∷◌, ◌++◌, Option, Some, None, refl, sym, ap, subst, ◌∙◌, append_assoc}
use Rattle.std.{proofs.Common.append-nil, specs.Prelude.{◌-◌, ◌^◌, ◌%◌, ◌==◌, drop, get_or, length, map, min, reverse, codes, slice_get, if◌then◌else◌}}
use Rattle.std.{specs.List.flat_map, specs.Fmt.decimal}
use Rattle.stack_text.specs.Lines.{line}
use Rattle.fm_machine.specs.State as fm
use Rattle.fm_show.{specs.Digits.hex_digits, specs.Disassembly.register_name, specs.Listing.{count_line, flag_letters, flags_line, machine_listing}}
use Rattle.fm_show.specs.Listing.{numbered_lines, register_line, register_lines}
use Rattle.piton_words.specs.declared.word.Word.{Word}
use Rattle.piton_syntax.specs.Systems.{SystemOf}
use Rattle.piton_semantics.{specs.State.{Frame, PitonState, locals_of}, specs.Fits.system_in}
use Rattle.piton_check.specs.NamedWords.{program_name_at, word_text, words_line}
use Rattle.display_maps.{specs.declared.shown.Shown.Shown, specs.Report.{VariableOf, condition_line, lines_of_reading, reading_lines, shown_text, value_text}}
use Rattle.display_maps.{specs.Report.variable_line, specs.Reading.{reading, word_in}, specs.ReadingAt.{ReadingAtOf, read_from, read_variable, reading_at}}
use Rattle.display_maps.specs.Running.{condition_shown, run_lines, variables_shown}
use Rattle.gypsy_semantics.{specs.Views.RunView.{depth_at, place_at, values_at}, specs.Views.Shown.{condition_at, names_at, variables_at}}
use Rattle.gypsy_syntax.{specs.Resolved.procedure_names, specs.Sources.SourceOf}
use Rattle.gypsy_meaning.specs.Views.Stacks.{ActivationOf, waiting_at}
use Rattle.debug_script.{specs.declared.command.Command.Command, specs.declared.command.WatchWord.WatchWord}
use Rattle.debug_script.specs.declared.command.Command.TheVariants as command
use Rattle.level_debuggers.{specs.declared.session.SessionRun.SessionRun, specs.declared.watch.Rule.Rule, specs.declared.watch.Tally.Tally}
use Rattle.level_debuggers.specs.GypsyLevels.{GypsyLevelOf, gypsy_listing, gypsy_over, gypsy_place_line, in_line, waiting_lines}
use Rattle.level_debuggers.specs.PitonLevels.{PitonLevelOf, frame_lines, local_line, waiting_frames, local_lines, names_of, piton_listing, piton_over}
use Rattle.level_debuggers.{specs.PitonLevels.place_line, specs.PitonReadings.{is_covered, piton_at, piton_end, piton_reading_of, piton_up}}
use Rattle.level_debuggers.{specs.declared.arrival.Arrival.Arrival, specs.Arrivals.{Arrived, arrived, arrived_at_one}, specs.FmLevels.{FmLevelOf, fm_over}}
use Rattle.level_debuggers.{specs.FmLevels.{fm_up, word_line, word_lines}, specs.Levels.{LevelOf, Gypsy, Piton, Fm, all_text, has_all, has_places, show_text}}
use Rattle.level_debuggers.{specs.Levels.{up_text, words_text}, specs.Texts.{mark_text, no_mark}, specs.declared.script_end.ScriptEnd.ScriptEnd}
use Rattle.level_debuggers.specs.Transcripts.{Followed, Said, arrival_text, arrived_said, attach_with, detach_with, ends_with, follow_on, followed, places_said}
use Rattle.level_debuggers.{specs.Transcripts.{run_text, said_by, said_to, tally_said, tally_with, watch_name, text_said}, specs.Walks.{SessionOf, stepped}}
use Rattle.level_debuggers.specs.WholeLines.{AreLines, AnswersAreLines, TranscriptsAreLines}
use Rattle.level_debuggers.specs.declared.session.SessionRun.TheVariants as run
use Rattle.level_debuggers.specs.declared.watch.Rule.TheVariants as rule
use Rattle.level_debuggers.specs.declared.arrival.Arrival.TheVariants as arrival
use Rattle.level_debuggers.specs.declared.script_end.ScriptEnd.TheVariants as end

-- 1. Texts that are put together.

one : (before : List ℕ) → AreLines (line before)
one before = inr (before, refl)

pub both : (a b : List ℕ) → AreLines a → AreLines b → AreLines (a ++ b)
both a b first (inl none) = subst (λ (l : List ℕ). AreLines l) (sym (ap (λ (l : List ℕ). a ++ l) none ∙ append-nil a)) first
both a b first (inr (before, is)) = inr (a ++ before, ap (λ (l : List ℕ). a ++ l) is ∙ sym (append_assoc a before (10 ∷ [])))

each : {A : Type 0} (f : A → List ℕ) → ((a : A) → AreLines (f a)) → (xs : List A) → AreLines (flat_map f xs)
each f lines [] = inl refl
each f lines (x ∷ xs) = both (f x) (flat_map f xs) (lines x) (each f lines xs)

by_test : (b : Bool) (x y : List ℕ) → AreLines x → AreLines y → AreLines (if b then x else y)
by_test true x y first second = first
by_test false x y first second = second

-- 2. What is read of the source's variables.

condition_is_line : (condition : Option Shown) → AreLines (condition_line condition)
condition_is_line None = inl refl
condition_is_line (Some condition) = one (codes "condition " ++ shown_text condition)

reading_is_lines : (condition : Option Shown) (variables : List VariableOf) → AreLines (reading_lines condition variables)
reading_is_lines condition variables =
    both (condition_line condition) (flat_map variable_line variables) (condition_is_line condition)
    (each variable_line (λ variable. one (variable.name ++ codes " = " ++ value_text variable.shape variable.items)) variables)

no_mark_is_line : AreLines no_mark
no_mark_is_line = inr (codes "no mark", refl)

mark_is_lines : (read : Option ReadingAtOf) → AreLines (mark_text read)
mark_is_lines (Some read) =
    both (line (codes "in " ++ read.procedure ++ codes " at " ++ decimal read.place)) (reading_lines (Some read.condition) (map read_variable read.items))
    (one (codes "in " ++ read.procedure ++ codes " at " ++ decimal read.place))
    (reading_is_lines (Some read.condition) (map read_variable read.items))
mark_is_lines None = no_mark_is_line

-- 3. What is shown, and said to `up`, at each level.

abbrev gypsy_place : GypsyLevelOf → List ℕ
gypsy_place level =
    codes "at " ++ decimal (place_at level.seen.program level.seen.stage) ++ codes " depth " ++ decimal (depth_at level.seen.stage)

gypsy_is_lines : (level : GypsyLevelOf) → AreLines (gypsy_listing level)
gypsy_is_lines level =
    let stage = level.seen.stage in
    both (gypsy_place_line level) (run_lines (condition_at level.source stage) (names_at level.source stage) (values_at stage))
    (by_test (gypsy_over level) (codes "ended\n") (line (gypsy_place level)) (inr (codes "ended", refl)) (one (gypsy_place level)))
    (reading_is_lines (Some (condition_shown (condition_at level.source stage))) (variables_shown (names_at level.source stage) (values_at stage)))

locals_are_lines : (system : SystemOf) (names : List (List ℕ)) (words : List Word) → AreLines (local_lines system names words)
unfolding local_lines
locals_are_lines system [] words = inl refl
locals_are_lines system (name ∷ names) [] = inl refl
locals_are_lines system (name ∷ names) (word ∷ words) =
    both (local_line system name word) (local_lines system names words) (one (name ++ codes " = " ++ word_text system word))
    (locals_are_lines system names words)

abbrev piton_place : SystemOf → PitonState → List ℕ
piton_place system state =
    codes "at " ++ program_name_at system state.program ++ codes " " ++ decimal state.place ++ codes " frames " ++ decimal (length state.frames)

piton_is_lines : (system : SystemOf) (state : PitonState) → AreLines (piton_listing system state)
piton_is_lines system state =
    let locals : List ℕ = local_lines system (names_of (slice_get system.programs state.program)) (locals_of state.frames) in
    both (place_line system state ++ locals) (words_line system (codes "stack") (reverse state.stack))
    (both (place_line system state) locals
    (by_test (length state.frames == 0) (codes "halted\n") (line (piton_place system state)) (inr (codes "halted", refl))
    (one (piton_place system state)))
    (locals_are_lines system (names_of (slice_get system.programs state.program)) (locals_of state.frames)))
    (inr (codes "stack" ++ flat_map (λ word. 32 ∷ word_text system word) (reverse state.stack), refl))

numbered_are_lines : (f : ℕ → ℕ → List ℕ) → ((n word : ℕ) → AreLines (f n word)) → (n : ℕ) (words : List ℕ) → AreLines (numbered_lines f n words)
unfolding numbered_lines
numbered_are_lines f lines n [] = inl refl
numbered_are_lines f lines n (word ∷ words) = both (f n word) (numbered_lines f (n + 1) words) (lines n word) (numbered_are_lines f lines (n + 1) words)

machine_is_lines : (state : fm.Fm) (count : ℕ) → AreLines (machine_listing state count)
machine_is_lines state count =
    both (count_line count ++ register_lines state.registers) (flags_line state.flags)
    (both (count_line count) (register_lines state.registers) (inr (codes "count " ++ decimal count, refl))
    (numbered_are_lines register_line (λ n word. inr (register_name n ++ codes " " ++ hex_digits word, refl)) 0 state.registers))
    (inr (codes "flags " ++ flag_letters state.flags, refl))

show_is_lines : (level : LevelOf) (steps : ℕ) → AreLines (show_text level steps)
show_is_lines (Gypsy level) steps = gypsy_is_lines level
show_is_lines (Piton level) steps = piton_is_lines level.checked.system level.seen.state
show_is_lines (Fm level) steps = machine_is_lines level.state steps

activation_is_lines : (s : SourceOf) (a : ActivationOf) → AreLines (waiting_lines s a)
activation_is_lines s a =
    let name = get_or (procedure_names s) a.procedure [] in
    both (in_line name) (flat_map variable_line (variables_shown (variables_at s a.procedure) a.values)) (one (codes "in " ++ name))
    (reading_is_lines None (variables_shown (variables_at s a.procedure) a.values))

frame_is_lines : (system : SystemOf) (program place : ℕ) (words : List Word) → AreLines (frame_lines system program place words)
frame_is_lines system program place words =
    let at = codes "in " ++ program_name_at system program ++ codes " " ++ decimal place in
    let names = names_of (slice_get system.programs program) in
    both (line at) (local_lines system names words) (one at) (locals_are_lines system names words)

frames_are_lines : (system : SystemOf) (frames : List Frame) → AreLines (waiting_frames system frames)
unfolding waiting_frames
frames_are_lines system [] = inl refl
frames_are_lines system (newest ∷ []) = inl refl
frames_are_lines system (newer ∷ older ∷ frames) =
    both (frame_lines system newer.program newer.place older.locals) (waiting_frames system (older ∷ frames))
    (frame_is_lines system newer.program newer.place older.locals) (frames_are_lines system (older ∷ frames))

all_is_lines : (number : ℕ) (s : SessionOf) (level : LevelOf) → AreLines (text_said number s (all_text level)).text
all_is_lines number s (Gypsy level) =
    both (gypsy_listing level) (flat_map (waiting_lines level.source) (waiting_at level.seen.stage)) (gypsy_is_lines level)
    (each (waiting_lines level.source) (activation_is_lines level.source) (waiting_at level.seen.stage))
all_is_lines number s (Piton level) =
    let system = level.checked.system in
    let frames = level.seen.state.frames in
    both (piton_listing system level.seen.state) (waiting_frames system frames) (piton_is_lines system level.seen.state) (frames_are_lines system frames)
all_is_lines number s (Fm level) = inl refl

piton_up_is_lines : (level : PitonLevelOf) → AreLines (piton_up level)
unfolding piton_up
piton_up_is_lines level =
    by_test (piton_over level) (piton_end level) (mark_text (read_from level.image (piton_at (system_in level.checked) level.seen.state)))
    (by_test (is_covered level) (lines_of_reading level.image (piton_reading_of (system_in level.checked) level.image level.seen.state)) no_mark
    (reading_is_lines _ _) no_mark_is_line)
    (mark_is_lines (read_from level.image (piton_at (system_in level.checked) level.seen.state)))

fm_up_is_lines : (level : FmLevelOf) → AreLines (fm_up level)
fm_up_is_lines level =
    by_test (fm_over level) (lines_of_reading level.image (reading level.image level.state)) (mark_text (reading_at level.image level.state))
    (reading_is_lines _ _) (mark_is_lines (reading_at level.image level.state))

up_is_lines : (level : LevelOf) → AreLines (up_text level)
up_is_lines (Gypsy level) = inr (codes "top", refl)
up_is_lines (Piton level) = piton_up_is_lines level
up_is_lines (Fm level) = fm_up_is_lines level

-- 4. What is said to commands.

run_is_lines : (r : SessionRun) → AreLines (run_text r)
run_is_lines (run.Moved count) = one (codes "stepped " ++ decimal count)
run_is_lines (run.Ended count) = one (codes "stepped " ++ decimal count ++ codes " ended")
run_is_lines (run.Error kind program place after) = inl refl
run_is_lines (run.Outside address after) = inl refl

attach_is_lines : (number : ℕ) (word : WatchWord) (s : SessionOf) (o : Option SessionOf) → AreLines (attach_with number word s o).text
attach_is_lines number word s (Some after) = one (codes "attached " ++ watch_name word)
attach_is_lines number word s None = inl refl

tally_is_lines : (kept : Rule) (tally : Tally) → AreLines (tally_said kept tally)
tally_is_lines rule.Count tally = one (codes "count " ++ decimal tally.count)
tally_is_lines rule.Cost tally = one (codes "cost " ++ decimal tally.count)
tally_is_lines rule.Peak tally = one (codes "peak " ++ decimal tally.peak)
tally_is_lines rule.Last tally = one (codes "last" ++ places_said (drop (8 - min tally.count 8) tally.last))

detach_is_lines : (number : ℕ) (kept : Rule) (s : SessionOf) (o : Option (Tally × SessionOf)) → AreLines (detach_with number kept s o).text
detach_is_lines number kept s (Some found) = tally_is_lines kept found.0
detach_is_lines number kept s None = inl refl

kept_is_lines : (number : ℕ) (kept : Rule) (s : SessionOf) (o : Option Tally) → AreLines (tally_with number kept s o).text
kept_is_lines number kept s (Some tally) = tally_is_lines kept tally
kept_is_lines number kept s None = inl refl

word_is_line : (address : ℕ) (found : Option ℕ) → AreLines (word_line address found)
word_is_line address (Some word) = one (hex_digits address ++ codes " " ++ hex_digits word)
word_is_line address None = one (hex_digits address ++ codes " outside")

memory_is_lines : (state : fm.Fm) (address count : ℕ) → AreLines (word_lines state address count)
unfolding word_lines
memory_is_lines state address zero = inl refl
memory_is_lines state address (suc n) =
    both (word_lines state address n) (word_line ((address + n) % 2 ^ 32) (word_in state ((address + n) % 2 ^ 32)))
    (memory_is_lines state address n) (word_is_line ((address + n) % 2 ^ 32) (word_in state ((address + n) % 2 ^ 32)))

words_are_lines : (number : ℕ) (s : SessionOf) (level : LevelOf) (address count : ℕ) → AreLines (text_said number s (words_text level address count)).text
words_are_lines number s (Gypsy level) address count = inl refl
words_are_lines number s (Piton level) address count = inl refl
words_are_lines number s (Fm level) address count = memory_is_lines level.state address count

arrival_is_lines : (a : Arrival) → AreLines (arrival_text a)
arrival_is_lines (arrival.There count) = one (codes "arrived " ++ decimal count)
arrival_is_lines (arrival.Elsewhere ran) = run_is_lines ran

until_is_lines : (number : ℕ) (made : Arrived) (s : SessionOf) (b : Bool)
    → AreLines (if b then arrived_said made else ends_with (end.OtherLevel number) s).text
until_is_lines number made s true = arrival_is_lines made.arrival
until_is_lines number made s false = inl refl

said_is_lines : (number : ℕ) (c : Command) (s : SessionOf) → AreLines (said_by number c s).text
said_is_lines number (command.Step count) s = run_is_lines (stepped count s).run
said_is_lines number command.Show s = show_is_lines s.level s.steps
said_is_lines number command.ShowAll s = all_is_lines number s s.level
said_is_lines number command.Up s = up_is_lines s.level
said_is_lines number (command.Attach word) s = attach_is_lines number word s _
said_is_lines number (command.Detach word) s = detach_is_lines number _ s _
said_is_lines number (command.Tally word) s = kept_is_lines number _ s _
said_is_lines number (command.Words address count) s = words_are_lines number s s.level address count
said_is_lines number (command.Until there limit) s = until_is_lines number (arrived there limit s) s (has_places s.level there)
said_is_lines number (command.UntilAny places limit) s = until_is_lines number (arrived_at_one places limit s) s (has_all s.level places)

pub answer_is_lines : AnswersAreLines
answer_is_lines asked s = said_is_lines asked.line asked.command s

-- 5. What is said to a whole script.

on_lines : (text : List ℕ) (said : Said) (e : Option ScriptEnd) (go : List ℕ → SessionOf → Followed) → AreLines (text ++ said.text)
    → ((s : SessionOf) → AreLines (go (text ++ said.text) s).text) → AreLines (follow_on text said e go).text
on_lines text said None go here later = later said.session
on_lines text said (Some e) go here later = here

pub transcript_is_lines : TranscriptsAreLines
unfolding followed
transcript_is_lines [] text s lines = lines
transcript_is_lines (asked ∷ others) text s lines =
    let said : Said = said_to asked s in
    let here : AreLines (text ++ said.text) = both text said.text lines (answer_is_lines asked s) in
    on_lines text said said.end (λ text s. followed text others s) here (λ after. transcript_is_lines others (text ++ said.text) after here)

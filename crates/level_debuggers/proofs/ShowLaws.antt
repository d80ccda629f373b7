-- Behind a script its session has counted the steps that its run has made; and what is said at a line of `show`.
use Rattle.std.proofs.Common.{◌≡◌, ◌+◌, ◌<◌, ℕ, zero, suc, Bool, true, false, cond, List, [], ◌∷◌, ◌++◌, length, Option, Some, None, refl, sym, ap, subst, ◌∙◌}
use Rattle.std.{proofs.Common.arith, specs.Prelude.{unwrap_or, ◌^◌}}
use Rattle.piton_semantics.specs.StateView.{saturated}
use Rattle.debug_script.{specs.declared.command.Command.Command, specs.declared.command.WatchWord.WatchWord, specs.declared.reading.Line.Line}
use Rattle.debug_script.specs.declared.command.Command.TheVariants as command
use Rattle.level_debuggers.{specs.declared.script_end.ScriptEnd.ScriptEnd, specs.declared.watch.Rule.Rule, specs.declared.watch.Tally.Tally}
use Rattle.level_debuggers.{specs.Arrivals.{arrived_by, first_arrival, first_where}, specs.Levels.{LevelOf, all_text, has_all, has_places, next_of, show_text}}
use Rattle.level_debuggers.{specs.Levels.{stands_at_one, words_text}, specs.Steps.{Next, Over, Stops, Makes}, specs.Tallies.Watching, specs.Taken.taken}
use Rattle.level_debuggers.{specs.Taken.{attached_with, detached_with, tally_by}, specs.Walks.{SessionOf, Walk, walk, walk_on}, specs.Transcripts.Said}
use Rattle.level_debuggers.specs.Transcripts.{Followed, arrived_said, attach_with, detach_with, ends_with, follow_on, followed, rule_of_word, said_by, said_to}
use Rattle.level_debuggers.{specs.Transcripts.{tally_with, text_said}, specs.ScriptSteps.{steps_led, steps_of_lines, show_line, ShowIsSaid}}
use Rattle.level_debuggers.{proofs.ScriptLaws.{followed_both, line_walks, never_done, scripts_walk}, proofs.WalkLaws.{IsStop, walk_stays}}
use Rattle.level_debuggers.specs.declared.script_end.ScriptEnd.TheVariants as end

-- 1. The steps of a walk and those of one behind it are those of both.

stopped_count : (k : ℕ) (level : LevelOf) (next : Next LevelOf) → next_of level ≡ next → IsStop next → 0 + length (walk k level).events ≡ 0
unfolding walk
stopped_count k level next is stop =
    let none = ap (λ (w : Walk). length w.events) (walk_stays 0 k level (omega arith) (subst IsStop (sym is) stop)) in
    omega (arith, none)

count_from : (m k : ℕ) (level : LevelOf) (next : Next LevelOf) → next_of level ≡ next
    → ((start : LevelOf) → length (walk m start).events + length (walk k (walk m start).level).events ≡ length (walk (m + k) start).events)
    → length (walk_on level (walk m) next).events + length (walk k (walk_on level (walk m) next).level).events
    ≡ length (walk_on level (walk (m + k)) next).events
unfolding IsStop
count_from m k level Over is later = stopped_count k level Over is tt
count_from m k level (Stops stop) is later = stopped_count k level (Stops stop) is tt
count_from m k level (Makes event after) is later = let rest = later after in omega (arith, rest)

walk_count : (m k : ℕ) (level : LevelOf) → length (walk m level).events + length (walk k (walk m level).level).events ≡ length (walk (m + k) level).events
unfolding walk
walk_count zero k level =
    let same : k ≡ 0 + k = omega arith in
    let count : length (walk k level).events ≡ length (walk (0 + k) level).events = ap (λ (n : ℕ). length (walk n level).events) same in
    omega (arith, count)
walk_count (suc m) k level =
    let same : suc (m + k) ≡ suc m + k = omega arith in
    count_from m k level (next_of level) refl (λ start. walk_count m k start) ∙ ap (λ (n : ℕ). length (walk n level).events) same

-- 2. One line.

-- no step was made
none_made : (steps old : ℕ) → steps ≡ old → old < 2 ^ 64 → steps ≡ saturated (old + 0)
none_made steps old same few = omega (arith, same, few)

attach_keeps : (number : ℕ) (word : WatchWord) (s : SessionOf) (o : Option (Watching × List Watching))
    → (attach_with number word s (attached_with s o)).session.steps ≡ s.steps
attach_keeps number word s (Some found) = refl
attach_keeps number word s None = refl

detach_keeps : (number : ℕ) (word : WatchWord) (s : SessionOf) (o : Option (Watching × List Watching))
    → (detach_with number (rule_of_word word) s (detached_with s o)).session.steps ≡ s.steps
detach_keeps number word s (Some found) = refl
detach_keeps number word s None = refl

tally_keeps : (number : ℕ) (kept : Rule) (s : SessionOf) (o : Option Tally) → (tally_with number kept s o).session.steps ≡ s.steps
tally_keeps number kept s (Some tally) = refl
tally_keeps number kept s None = refl

text_keeps : (number : ℕ) (s : SessionOf) (o : Option (List ℕ)) → (text_said number s o).session.steps ≡ s.steps
text_keeps number s (Some text) = refl
text_keeps number s None = refl

arrival_counts : (n : ℕ) (s : SessionOf) (first : Option ℕ)
    → (arrived_by n s first).session.steps ≡ saturated (s.steps + length (walk (unwrap_or first n) s.level).events)
arrival_counts n s (Some k) = refl
arrival_counts n s None = refl

until_counts : (number n : ℕ) (b : Bool) (first : Option ℕ) (s : SessionOf) → s.steps < 2 ^ 64
    → (cond b (arrived_said (arrived_by n s first)) (ends_with (end.OtherLevel number) s)).session.steps
    ≡ saturated (s.steps + length (walk (cond b (unwrap_or first n) 0) s.level).events)
unfolding walk
until_counts number n true first s few = arrival_counts n s first
until_counts number n false first s few = none_made s.steps s.steps refl few

line_counts : (number : ℕ) (c : Command) (s : SessionOf) → s.steps < 2 ^ 64
    → (said_by number c s).session.steps ≡ saturated (s.steps + length (walk (steps_led c s.level) s.level).events)
unfolding walk
line_counts number (command.Step count) s few = refl
line_counts number command.Show s few = none_made s.steps s.steps refl few
line_counts number command.ShowAll s few =
    none_made (said_by number command.ShowAll s).session.steps s.steps (text_keeps number s (all_text s.level)) few
line_counts number command.Up s few = none_made s.steps s.steps refl few
line_counts number (command.Attach word) s few =
    none_made (said_by number (command.Attach word) s).session.steps s.steps (attach_keeps number word s (taken (rule_of_word word) s.waiting)) few
line_counts number (command.Detach word) s few =
    none_made (said_by number (command.Detach word) s).session.steps s.steps (detach_keeps number word s (taken (rule_of_word word) s.attached)) few
line_counts number (command.Tally word) s few =
    none_made (said_by number (command.Tally word) s).session.steps s.steps
    (tally_keeps number (rule_of_word word) s (tally_by (rule_of_word word) s)) few
line_counts number (command.Words address count) s few =
    none_made (said_by number (command.Words address count) s).session.steps s.steps (text_keeps number s (words_text s.level address count)) few
line_counts number (command.Until there limit) s few =
    until_counts number limit (has_places s.level there) (first_arrival there limit s.level) s few
line_counts number (command.UntilAny places limit) s few =
    until_counts number limit (has_all s.level places) (first_where (stands_at_one places) limit s.level) s few

-- 3. All lines.

counts_by : (text : List ℕ) (said : Said) (e : Option ScriptEnd) (lines : List Line) (n steps : ℕ) (level : LevelOf) → (e ≡ Some end.Done → ⊥)
    → said.session.level ≡ (walk n level).level → said.session.steps ≡ saturated (steps + length (walk n level).events)
    → ((text : List ℕ) (s : SessionOf) → s.steps < 2 ^ 64 → (followed text lines s).end ≡ end.Done
    → (followed text lines s).session.steps ≡ saturated (s.steps + length (walk (steps_of_lines lines s.level) s.level).events))
    → (follow_on text said e (λ text s. followed text lines s)).end ≡ end.Done
    → (follow_on text said e (λ text s. followed text lines s)).session.steps
    ≡ saturated (steps + length (walk (n + steps_of_lines lines (walk n level).level) level).events)
counts_by text said None lines n steps level goes here made later done =
    let few : said.session.steps < 2 ^ 64 = omega (arith, made) in
    let rest = later (text ++ said.text) said.session few done in
    let from : length (walk (steps_of_lines lines said.session.level) said.session.level).events
    ≡ length (walk (steps_of_lines lines (walk n level).level) (walk n level).level).events
    = ap (λ (l : LevelOf). length (walk (steps_of_lines lines l) l).events) here in
    let all = walk_count n (steps_of_lines lines (walk n level).level) level in
    omega (arith, rest, from, made, all)
counts_by text said (Some e) lines n steps level goes here made later done = absurd (goes (ap (λ (x : ScriptEnd). Some x) done))

scripts_count : (text : List ℕ) (lines : List Line) (s : SessionOf) → s.steps < 2 ^ 64 → (followed text lines s).end ≡ end.Done
    → (followed text lines s).session.steps ≡ saturated (s.steps + length (walk (steps_of_lines lines s.level) s.level).events)
unfolding followed walk
scripts_count text [] s few done = none_made s.steps s.steps refl few
scripts_count text (first ∷ lines) s few done =
    counts_by text (said_to first s) (said_to first s).end lines (steps_led first.command s.level) s.steps s.level
    (never_done first.line first.command s) (line_walks first.line first.command s) (line_counts first.line first.command s few)
    (λ text s few. scripts_count text lines s few) done

show_said : (text : List ℕ) (after : List Line) (number : ℕ) (s : SessionOf)
    → followed text (show_line number ∷ after) s ≡ followed (text ++ show_text s.level s.steps) after s
unfolding followed
show_said text after number s = refl

pub show_is_said : ShowIsSaid
show_is_said text before after number s few done =
    let made : Followed = followed text before s in
    let there : Walk = walk (steps_of_lines before s.level) s.level in
    followed_both text before (show_line number ∷ after) s done ∙ show_said made.text after number made.session
    ∙ ap (λ (l : LevelOf). followed (made.text ++ show_text l made.session.steps) after made.session) (scripts_walk text before s done)
    ∙ ap (λ (n : ℕ). followed (made.text ++ show_text there.level n) after made.session) (scripts_count text before s few done)

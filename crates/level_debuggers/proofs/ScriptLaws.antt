-- How far a script leads, and what is said at its lines of `up`, `words` and `until`.
use Rattle.std.proofs.Common.{◌≡◌, ◌+◌, ◌≤◌, ℕ, zero, suc, Bool, true, false, cond, List, [], ◌∷◌, ◌++◌, length, Option, Some, None, refl, sym, ap, subst, ◌∙◌}
use Rattle.std.{proofs.Common.{arith, append_assoc}, specs.Prelude.unwrap_or, proofs.lemmas.Bool.eq-eqb, proofs.lemmas.List.append-nil}
use Rattle.debug_script.{specs.declared.command.Command.Command, specs.declared.command.Place.Place, specs.declared.command.WatchWord.WatchWord}
use Rattle.debug_script.specs.declared.reading.Line.{Line}
use Rattle.debug_script.specs.declared.command.Command.TheVariants as command
use Rattle.level_debuggers.{specs.declared.script_end.ScriptEnd.ScriptEnd, specs.declared.session.SessionRun.SessionRun, specs.declared.watch.Rule.Rule}
use Rattle.level_debuggers.{specs.declared.watch.Tally.Tally, specs.declared.arrival.Arrival.Arrival, specs.Arrivals.{Arrived, IsFirstArrival, IsFirstOfAny}}
use Rattle.level_debuggers.{specs.Arrivals.{arrived, arrived_at_one, arrived_by, first_arrival, first_where}, specs.FmLevels.{FmLevelOf, word_lines}}
use Rattle.level_debuggers.{specs.Levels.{LevelOf, Fm, has_all, has_places, next_of, all_text, stands_at, stands_at_one, up_text, words_text}, specs.Steps.Next}
use Rattle.level_debuggers.{specs.Steps.{Over, Stops, Makes, is_over}, specs.Tallies.Watching, specs.Taken.{taken, attached_with, detached_with, tally_by}}
use Rattle.level_debuggers.{specs.Walks.{SessionOf, walk, walk_on, ends_by, refused_after, stepped}, specs.Transcripts.{Said, Followed, arrival_end}}
use Rattle.level_debuggers.specs.Transcripts.{arrival_text, arrived_said, attach_with, detach_with, ends_with, follow_on, followed, rule_of_word, run_end}
use Rattle.level_debuggers.{specs.Transcripts.{run_text, said_by, said_to, tally_with, text_said}, specs.ScriptSteps.{AskForSteps, all_asked, steps_asked}}
use Rattle.level_debuggers.specs.ScriptSteps.{steps_led, steps_of_lines, stepped_lines, until_any_line, until_line, up_line, line_of_words, ArrivalsAreSaid}
use Rattle.level_debuggers.specs.ScriptSteps.{ArrivalsAtAnyAreSaid, GoesOn, ScriptsWalk, UpIsSaid, WordsAreSaid, StepsAreSaid, UpSaysMoment, TextStays}
use Rattle.level_debuggers.{proofs.ArrivalLaws.is_first, proofs.WalkLaws.walk_level}
use Rattle.level_debuggers.specs.declared.script_end.ScriptEnd.TheVariants as end
use Rattle.level_debuggers.specs.declared.session.SessionRun.TheVariants as run
use Rattle.level_debuggers.specs.declared.arrival.Arrival.TheVariants as arrival

-- ---- one line

-- no line ends a script as if all were carried out
run_goes_on : (r : SessionRun) → run_end r ≡ Some end.Done → ⊥
run_goes_on (run.Moved count) e = absurd cc
run_goes_on (run.Ended count) e = absurd cc
run_goes_on (run.Error kind program place after) e = absurd cc
run_goes_on (run.Outside address after) e = absurd cc

attach_goes_on : (number : ℕ) (word : WatchWord) (s : SessionOf) (o : Option SessionOf) → (attach_with number word s o).end ≡ Some end.Done → ⊥
attach_goes_on number word s (Some after) e = absurd cc
attach_goes_on number word s None e = absurd cc

detach_goes_on : (number : ℕ) (word : WatchWord) (s : SessionOf) (o : Option (Tally × SessionOf))
    → (detach_with number (rule_of_word word) s o).end ≡ Some end.Done → ⊥
detach_goes_on number word s (Some found) e = absurd cc
detach_goes_on number word s None e = absurd cc

tally_goes_on : (number : ℕ) (kept : Rule) (s : SessionOf) (o : Option Tally) → (tally_with number kept s o).end ≡ Some end.Done → ⊥
tally_goes_on number kept s (Some tally) e = absurd cc
tally_goes_on number kept s None e = absurd cc

text_goes_on : (number : ℕ) (s : SessionOf) (o : Option (List ℕ)) → (text_said number s o).end ≡ Some end.Done → ⊥
text_goes_on number s (Some text) e = absurd cc
text_goes_on number s None e = absurd cc

arrival_goes_on : (a : Arrival) → arrival_end a ≡ Some end.Done → ⊥
arrival_goes_on (arrival.There count) e = absurd cc
arrival_goes_on (arrival.Elsewhere ran) e = run_goes_on ran e

until_goes_on : (number : ℕ) (b : Bool) (made : Arrived) (s : SessionOf)
    → (cond b (arrived_said made) (ends_with (end.OtherLevel number) s)).end ≡ Some end.Done → ⊥
until_goes_on number true made s e = arrival_goes_on made.arrival e
until_goes_on number false made s e = absurd cc

pub never_done : (number : ℕ) (c : Command) (s : SessionOf) → (said_by number c s).end ≡ Some end.Done → ⊥
never_done number (command.Step count) s e = run_goes_on (stepped count s).run e
never_done number command.Show s e = absurd cc
never_done number command.ShowAll s e = text_goes_on number s (all_text s.level) e
never_done number command.Up s e = absurd cc
never_done number (command.Attach word) s e = attach_goes_on number word s (attached_with s (taken (rule_of_word word) s.waiting)) e
never_done number (command.Detach word) s e = detach_goes_on number word s (detached_with s (taken (rule_of_word word) s.attached)) e
never_done number (command.Tally word) s e = tally_goes_on number (rule_of_word word) s (tally_by (rule_of_word word) s) e
never_done number (command.Words address count) s e = text_goes_on number s (words_text s.level address count) e
never_done number (command.Until there limit) s e = until_goes_on number (has_places s.level there) (arrived there limit s) s e
never_done number (command.UntilAny places limit) s e = until_goes_on number (has_all s.level places) (arrived_at_one places limit s) s e

-- it leads the run as far as the steps that it asks for
attach_stays : (number : ℕ) (word : WatchWord) (s : SessionOf) (o : Option (Watching × List Watching))
    → (attach_with number word s (attached_with s o)).session.level ≡ s.level
attach_stays number word s (Some found) = refl
attach_stays number word s None = refl

detach_stays : (number : ℕ) (word : WatchWord) (s : SessionOf) (o : Option (Watching × List Watching)) →
    (detach_with number (rule_of_word word) s (detached_with s o)).session.level ≡ s.level
detach_stays number word s (Some found) = refl
detach_stays number word s None = refl

tally_stays : (number : ℕ) (kept : Rule) (s : SessionOf) (o : Option Tally) → (tally_with number kept s o).session.level ≡ s.level
tally_stays number kept s (Some tally) = refl
tally_stays number kept s None = refl

text_stays_there : (number : ℕ) (s : SessionOf) (o : Option (List ℕ)) → (text_said number s o).session.level ≡ s.level
text_stays_there number s (Some text) = refl
text_stays_there number s None = refl

arrives_at : (n : ℕ) (s : SessionOf) (first : Option ℕ) → (arrived_by n s first).session.level ≡ (walk (unwrap_or first n) s.level).level
arrives_at n s (Some k) = refl
arrives_at n s None = refl

until_walks : (number n : ℕ) (b : Bool) (first : Option ℕ) (s : SessionOf) →
    (cond b (arrived_said (arrived_by n s first)) (ends_with (end.OtherLevel number) s)).session.level
    ≡ (walk (cond b (unwrap_or first n) 0) s.level).level
unfolding walk
until_walks number n true first s = arrives_at n s first
until_walks number n false first s = refl

pub line_walks : (number : ℕ) (c : Command) (s : SessionOf) → (said_by number c s).session.level ≡ (walk (steps_led c s.level) s.level).level
unfolding walk
line_walks number (command.Step count) s = refl
line_walks number command.Show s = refl
line_walks number command.ShowAll s = text_stays_there number s (all_text s.level)
line_walks number command.Up s = refl
line_walks number (command.Attach word) s = attach_stays number word s (taken (rule_of_word word) s.waiting)
line_walks number (command.Detach word) s = detach_stays number word s (taken (rule_of_word word) s.attached)
line_walks number (command.Tally word) s = tally_stays number (rule_of_word word) s (tally_by (rule_of_word word) s)
line_walks number (command.Words address count) s = text_stays_there number s (words_text s.level address count)
line_walks number (command.Until there limit) s =
    until_walks number limit (has_places s.level there) (first_arrival there limit s.level) s
line_walks number (command.UntilAny places limit) s =
    until_walks number limit (has_all s.level places) (first_where (stands_at_one places) limit s.level) s

-- ---- all lines

walks_by : (text : List ℕ) (said : Said) (e : Option ScriptEnd) (lines : List Line) (n : ℕ) (level : LevelOf) → (e ≡ Some end.Done → ⊥)
    → said.session.level ≡ (walk n level).level →
    ((text : List ℕ) (s : SessionOf) → (followed text lines s).end ≡ end.Done
    → (followed text lines s).session.level ≡ (walk (steps_of_lines lines s.level) s.level).level) →
    (follow_on text said e (λ text s. followed text lines s)).end ≡ end.Done →
    (follow_on text said e (λ text s. followed text lines s)).session.level ≡ (walk (n + steps_of_lines lines (walk n level).level) level).level
walks_by text said None lines n level goes here later done =
    later (text ++ said.text) said.session done ∙ ap (λ (l : LevelOf). (walk (steps_of_lines lines l) l).level) here
    ∙ walk_level n (steps_of_lines lines (walk n level).level) level
walks_by text said (Some e) lines n level goes here later done = absurd (goes (ap (λ (x : ScriptEnd). Some x) done))

pub scripts_walk : ScriptsWalk
unfolding followed walk
scripts_walk text [] s done = refl
scripts_walk text (first ∷ lines) s done =
    walks_by text (said_to first s) (said_to first s).end lines (steps_led first.command s.level) s.level
    (never_done first.line first.command s) (line_walks first.line first.command s)
    (λ text s. scripts_walk text lines s) done

both_by : (text : List ℕ) (said : Said) (e : Option ScriptEnd) (lines more : List Line) → (e ≡ Some end.Done → ⊥) →
    ((text : List ℕ) (s : SessionOf) → (followed text lines s).end ≡ end.Done → followed text (lines ++ more) s
    ≡ followed (followed text lines s).text more (followed text lines s).session) →
    (follow_on text said e (λ text s. followed text lines s)).end ≡ end.Done →
    follow_on text said e (λ text s. followed text (lines ++ more) s)
    ≡ followed (follow_on text said e (λ text s. followed text lines s)).text more (follow_on text said e (λ text s. followed text lines s)).session
both_by text said None lines more goes later done = later (text ++ said.text) said.session done
both_by text said (Some e) lines more goes later done = absurd (goes (ap (λ (x : ScriptEnd). Some x) done))

-- a script, and another behind it
pub followed_both : (text : List ℕ) (lines more : List Line) (s : SessionOf) → (followed text lines s).end ≡ end.Done →
    followed text (lines ++ more) s ≡ followed (followed text lines s).text more (followed text lines s).session
unfolding followed
followed_both text [] more s done = refl
followed_both text (first ∷ lines) more s done =
    both_by text (said_to first s) (said_to first s).end lines more (never_done first.line first.command s) (λ text s. followed_both text lines more s) done

up_said : (text : List ℕ) (after : List Line) (number : ℕ) (s : SessionOf) → followed text (up_line number ∷ after) s
    ≡ followed (text ++ up_text s.level) after s
unfolding followed
up_said text after number s = refl

pub up_is_said : UpIsSaid
up_is_said text before after number s done =
    let made : Followed = followed text before s in
    followed_both text before (up_line number ∷ after) s done ∙ up_said made.text after number made.session
    ∙ ap (λ (l : LevelOf). followed (made.text ++ up_text l) after made.session) (scripts_walk text before s done)

words_are : (text : List ℕ) (after : List Line) (number address count : ℕ) (s : SessionOf) (o : Option (List ℕ)) (said : List ℕ) → o ≡ Some said →
    follow_on text (text_said number s o) (text_said number s o).end (λ text s. followed text after s) ≡ followed (text ++ said) after s
words_are text after number address count s o said e =
    ap (λ (x : Option (List ℕ)). follow_on text (text_said number s x) (text_said number s x).end (λ text s. followed text after s)) e

words_there : (text : List ℕ) (after : List Line) (number address count : ℕ) (s : SessionOf) (run : FmLevelOf) → s.level ≡ Fm run →
    followed text (line_of_words number address count ∷ after) s ≡ followed (text ++ word_lines run.state address count) after s
unfolding followed
words_there text after number address count s run e =
    words_are text after number address count s (words_text s.level address count) (word_lines run.state address count)
    (ap (λ (l : LevelOf). words_text l address count) e)

pub words_are_said : WordsAreSaid
words_are_said text before after number address count s run done leads =
    let made : Followed = followed text before s in
    followed_both text before (line_of_words number address count ∷ after) s done
    ∙ words_there made.text after number address count made.session run (scripts_walk text before s done ∙ leads)

until_is : (text : List ℕ) (after : List Line) (number limit k : ℕ) (s : SessionOf) (b : Bool) (first : Option ℕ) → b ≡ true → first ≡ Some k →
    follow_on text (cond b (arrived_said (arrived_by limit s first)) (ends_with (end.OtherLevel number) s))
    (cond b (arrived_said (arrived_by limit s first)) (ends_with (end.OtherLevel number) s)).end (λ text s. followed text after s)
    ≡ followed (text ++ arrival_text (arrival.There k)) after (stepped k s).session
until_is text after number limit k s b first has e =
    ap (λ (c : Bool). follow_on text (cond c (arrived_said (arrived_by limit s first)) (ends_with (end.OtherLevel number) s))
    (cond c (arrived_said (arrived_by limit s first)) (ends_with (end.OtherLevel number) s)).end (λ text s. followed text after s)) has
    ∙ ap (λ (o : Option ℕ). follow_on text (arrived_said (arrived_by limit s o)) (arrived_said (arrived_by limit s o)).end (λ text s. followed text after s)) e

until_there : (text : List ℕ) (after : List Line) (number limit k : ℕ) (there : Place) (s : SessionOf) →
    has_places s.level there ≡ true → IsFirstArrival there k s.level → k ≤ limit →
    followed text (until_line number there limit ∷ after) s ≡ followed (text ++ arrival_text (arrival.There k)) after (stepped k s).session
unfolding followed
until_there text after number limit k there s has first le =
    until_is text after number limit k s (has_places s.level there) (first_arrival there limit s.level) has
    (is_first (stands_at there) limit k s.level le first)

until_any_there : (text : List ℕ) (after : List Line) (number limit k : ℕ) (places : List Place) (s : SessionOf) →
    has_all s.level places ≡ true → IsFirstOfAny places k s.level → k ≤ limit →
    followed text (until_any_line number places limit ∷ after) s ≡ followed (text ++ arrival_text (arrival.There k)) after (stepped k s).session
unfolding followed
until_any_there text after number limit k places s has first le =
    until_is text after number limit k s (has_all s.level places) (first_where (stands_at_one places) limit s.level) has
    (is_first (stands_at_one places) limit k s.level le first)

pub arrivals_are_said : ArrivalsAreSaid
arrivals_are_said text before after number limit k there s here done leads has first le =
    let made : Followed = followed text before s in
    let same : made.session.level ≡ here = scripts_walk text before s done ∙ leads in
    followed_both text before (until_line number there limit ∷ after) s done
    ∙ until_there made.text after number limit k there made.session (ap (λ (l : LevelOf). has_places l there) same ∙ has)
    (subst (λ (l : LevelOf). IsFirstArrival there k l) (sym same) first) le

pub arrivals_at_any_are_said : ArrivalsAtAnyAreSaid
arrivals_at_any_are_said text before after number limit k places s here done leads has first le =
    let made : Followed = followed text before s in
    let same : made.session.level ≡ here = scripts_walk text before s done ∙ leads in
    followed_both text before (until_any_line number places limit ∷ after) s done
    ∙ until_any_there made.text after number limit k places made.session (ap (λ (l : LevelOf). has_all l places) same ∙ has)
    (subst (λ (l : LevelOf). IsFirstOfAny places k l) (sym same) first) le

-- ---- lines that ask for steps

-- they lead as far as they ask for together
same_steps : (lines : List Line) (level : LevelOf) → AskForSteps lines → steps_of_lines lines level ≡ all_asked lines
same_steps [] level ask = refl
same_steps (first ∷ lines) level ask =
    let here : steps_led first.command level ≡ steps_asked first.command = ap (λ (c : Command). steps_led c level) ask.0 in
    let rest = same_steps lines (walk (steps_led first.command level) level).level ask.1 in
    omega (arith, here, rest)

-- a step more was made, so the end was not reached
not_over : (level : LevelOf) (k : ℕ) (next : Next LevelOf) → length (walk_on level (walk k) next).events ≡ suc k → is_over next ≡ false
not_over level k Over e = absurd (omega arith)
not_over level k (Stops stop) e = refl
not_over level k (Makes event after) e = refl

-- the first of them can be made, and then the others
first_by : (m k : ℕ) (level : LevelOf) (next : Next LevelOf) →
    ((start : LevelOf) → GoesOn (m + k) start → GoesOn m start × GoesOn k (walk m start).level) →
    length (walk_on level (walk (m + k)) next).events ≡ suc (m + k) → is_over (next_of (walk_on level (walk (m + k)) next).level) ≡ false →
    (length (walk_on level (walk m) next).events ≡ suc m) × (is_over (next_of (walk_on level (walk m) next).level) ≡ false)
    × GoesOn k (walk_on level (walk m) next).level
first_by m k level Over later whole going = absurd (omega arith)
first_by m k level (Stops stop) later whole going = absurd (omega arith)
first_by m k level (Makes event after) later whole going =
    let both = later after record { whole = omega arith; going = going } in
    (ap suc both.0.whole, both.0.going, both.1)

zero_goes : (k : ℕ) (level : LevelOf) → length (walk k level).events ≡ k → is_over (next_of (walk k level).level) ≡ false → is_over (next_of level) ≡ false
unfolding walk
zero_goes zero level whole going = going
zero_goes (suc k) level whole going = not_over level k (next_of level) whole

goes_both : (m k : ℕ) (level : LevelOf) → GoesOn (m + k) level → GoesOn m level × GoesOn k (walk m level).level
unfolding walk
goes_both zero k level h =
    let same : 0 + k ≡ k = omega arith in
    let all : GoesOn k level = subst (λ (n : ℕ). GoesOn n level) same h in
    (record { whole = refl; going = zero_goes k level all.whole all.going }, all)
goes_both (suc m) k level h =
    let same : suc m + k ≡ suc (m + k) = omega arith in
    let all : GoesOn (suc (m + k)) level = subst (λ (n : ℕ). GoesOn n level) same h in
    let made = first_by m k level (next_of level) (λ start. goes_both m k start) all.whole all.going in
    (record { whole = made.0; going = made.1 }, made.2)

-- all of them were made
moved_by : (n made steps : ℕ) (next : Next LevelOf) → made ≡ n → is_over next ≡ false → ends_by n made steps next ≡ run.Moved n
moved_by n made steps Over e going = absurd cc
moved_by n made steps (Stops stop) e going = ap (λ (b : Bool). cond b (run.Moved n) (refused_after steps stop)) (eq-eqb made n e)
moved_by n made steps (Makes event after) e going = refl

step_said_by : (text : List ℕ) (r : SessionRun) (n : ℕ) (s t : SessionOf) (lines : List Line) → r ≡ run.Moved n →
    follow_on text record { text = run_text r; end = run_end r; session = t } (run_end r) (λ text s. followed text lines s)
    ≡ followed (text ++ run_text (run.Moved n)) lines t
step_said_by text r n s t lines e =
    ap (λ (x : SessionRun). follow_on text record { text = run_text x; end = run_end x; session = t } (run_end x) (λ text s. followed text lines s)) e

one_said : (text : List ℕ) (number n : ℕ) (c : Command) (s : SessionOf) (lines : List Line) → c ≡ command.Step n → GoesOn n s.level →
    follow_on text (said_by number c s) (said_by number c s).end (λ text s. followed text lines s)
    ≡ followed (text ++ run_text (run.Moved n)) lines (stepped n s).session
one_said text number n c s lines e h =
    ap (λ (x : Command). follow_on text (said_by number x s) (said_by number x s).end (λ text s. followed text lines s)) e
    ∙ step_said_by text (stepped n s).run n s (stepped n s).session lines
    (moved_by n (length (walk n s.level).events) (stepped n s).session.steps (next_of (walk n s.level).level) h.whole h.going)

pub steps_are_said : StepsAreSaid
unfolding followed
steps_are_said text [] s ask h = (refl, sym (append-nil text))
steps_are_said text (first ∷ lines) s ask h =
    let n : ℕ = steps_asked first.command in
    let both = goes_both n (all_asked lines) s.level h in
    let said = one_said text first.line n first.command s lines ask.0 both.0 in
    let rest = steps_are_said (text ++ run_text (run.Moved n)) lines (stepped n s).session ask.1 both.1 in (
      ap (λ (made : Followed). made.end) said ∙ rest.0,
      ap (λ (made : Followed). made.text) said ∙ rest.1 ∙ append_assoc text (run_text (run.Moved n)) (stepped_lines lines),
    )

pub up_says_moment : UpSaysMoment
up_says_moment text said before after number s ask h =
    let made : Followed = followed text before s in
    let steps = steps_are_said text before s ask h.goes in
    up_is_said text before after number s steps.0
    ∙ ap (λ (n : ℕ). followed (made.text ++ up_text (walk n s.level).level) after made.session) (same_steps before s.level ask)
    ∙ ap (λ (t : List ℕ). followed (t ++ up_text (walk (all_asked before) s.level).level) after made.session) steps.1
    ∙ ap (λ (t : List ℕ). followed (text ++ stepped_lines before ++ t) after made.session) h.says

-- ---- what was said stays

stays_by : (text : List ℕ) (said : Said) (e : Option ScriptEnd) (go : List ℕ → SessionOf → Followed)
    → ((t : List ℕ) (s : SessionOf) → (more : List ℕ) × ((go t s).text ≡ t ++ more)) →
    (more : List ℕ) × ((follow_on text said e go).text ≡ text ++ more)
stays_by text said None go later =
    let rest = later (text ++ said.text) said.session in
    (said.text ++ rest.0, rest.1 ∙ append_assoc text said.text rest.0)
stays_by text said (Some e) go later = (said.text, refl)

pub text_stays : TextStays
unfolding followed
text_stays text [] s = ([], sym (append-nil text))
text_stays text (first ∷ lines) s = stays_by text (said_to first s) (said_to first s).end (λ text s. followed text lines s) (λ t s. text_stays t lines s)

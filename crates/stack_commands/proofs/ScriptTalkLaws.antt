-- Lines that come one by one, and the script that they are together.
use Rattle.std.proofs.Common.{◌≡◌, ◌+◌, ◌<◌, ◌⊎◌, inl, inr, ℕ, Bool, true, false, cond, List, [], ◌∷◌, ◌++◌, length, map, Option, Some, None, Result, Ok, Err}
use Rattle.std.proofs.Common.{refl, sym, ap, subst, ◌∙◌, append-nil, append_assoc, arith, ◌≢◌, ◌≤◌, ◌-◌, ◌==◌, ◌^◌, zero, suc, take, drop, slice_index}
use Rattle.std.{proofs.Common.{length-drop, length-take-le, ⊎_elim, get_or-take, length-append}, specs.Prelude.option_to_list}
use Rattle.std.{proofs.Math.Seq.get_or-append_seam, proofs.lemmas.List.get_or_append_left, proofs.lemmas.Bool.{cases_Bool, cond-true, cond-false, eq-eqb}}
use Rattle.stack_shelf.specs.Lines.{IsLine}
use Rattle.bstr.{specs.Text.{line_len, lines_of, without_terminator}, proofs.lemmas.LineLemmas.{EndsLine, line_len-bounds, lines-append, lines-nil, lines-one}}
use Rattle.bstr.proofs.lemmas.LineLemmas.{lines-step}
use Rattle.stack_text.specs.Results.{◌>>=◌}
use Rattle.debug_script.{specs.declared.command.Command.Command, specs.declared.command.WatchWord.WatchWord, specs.declared.fault.ScriptFault.ScriptFault}
use Rattle.debug_script.{specs.declared.fault.ScriptRule.ScriptRule, specs.declared.reading.Line.Line, specs.Lines.command_in, specs.Rules.rule_number}
use Rattle.debug_script.specs.Scripts.{line_read, lines_read, numbered, script_of}
use Rattle.debug_script.specs.declared.command.Command.TheVariants as command
use Rattle.debug_script.specs.declared.fault.ScriptFault.TheVariants as script
use Rattle.level_debuggers.{specs.declared.session.SessionRun.SessionRun, specs.declared.watch.Rule.Rule, specs.declared.watch.Tally.Tally}
use Rattle.level_debuggers.{specs.declared.arrival.Arrival.Arrival, specs.declared.script_end.ScriptEnd.ScriptEnd, specs.Arrivals.{Arrived, arrived}}
use Rattle.level_debuggers.{specs.Arrivals.arrived_at_one, specs.Levels.{all_text, has_all, has_places, words_text}, specs.Taken.{attached_by, detached_by}}
use Rattle.level_debuggers.{specs.Taken.tally_by, specs.Walks.{SessionOf, stepped}, specs.Transcripts.{Followed, Said, arrival_end, arrived_said, attach_with}}
use Rattle.level_debuggers.specs.Transcripts.{detach_with, ends_with, follow_on, followed, rule_of_word, run_end, said_by, tally_with, text_said}
use Rattle.level_debuggers.specs.declared.session.SessionRun.TheVariants as run
use Rattle.level_debuggers.specs.declared.arrival.Arrival.TheVariants as arrival
use Rattle.level_debuggers.specs.declared.script_end.ScriptEnd.TheVariants as end
use Rattle.stack_commands.{specs.declared.talking.TalkEnd.TalkEnd, specs.Commands.Talk.{Talked, end_at, line_number, line_said, said_at, script_said, stop_of}}
use Rattle.stack_commands.{specs.Commands.Talk.{talk_on, talked}, specs.TalkScripts.{HasFeed, LinesStay, TalksFollow, TalksRefuse, together}}
use Rattle.stack_commands.specs.declared.talking.TalkEnd.TheVariants as talk

-- 1. The number of a line is told of its end, and of nothing else.

-- a line ends a session with its number, by a number of its own
abbrev Numbered : ℕ → Option ScriptEnd → Option ScriptEnd → Type 0
Numbered number own told =
    ((own ≡ None) × (told ≡ None))
    ⊎ ((e : ScriptEnd) × (f : ScriptEnd) × (own ≡ Some e) × (told ≡ Some f) × (end_at number e ≡ Some (talk.Script f)) × (stop_of f ≡ Some (talk.Script f)))

record IsNumbered (number : ℕ) (own told : Said) : Type 0 where
  pub text : own.text ≡ told.text
  pub session : own.session ≡ told.session
  pub ends : Numbered number own.end told.end

run_numbered : (number : ℕ) (r : SessionRun) → Numbered number (run_end r) (run_end r)
run_numbered number (run.Moved count) = inl (refl, refl)
run_numbered number (run.Ended count) = inl (refl, refl)
run_numbered number (run.Error kind program place after) =
    inr (end.Error kind program place after, end.Error kind program place after, refl, refl, refl, refl)
run_numbered number (run.Outside address after) = inr (end.Outside address after, end.Outside address after, refl, refl, refl, refl)

attach_numbered : (number : ℕ) (word : WatchWord) (s : SessionOf) (o : Option SessionOf)
    → IsNumbered number (attach_with 1 word s o) (attach_with number word s o)
attach_numbered number word s (Some after) = record { text = refl; session = refl; ends = inl (refl, refl) }
attach_numbered number word s None =
    record { text = refl; session = refl; ends = inr (end.NoneWaits 1, end.NoneWaits number, refl, refl, refl, refl) }

detach_numbered : (number : ℕ) (kept : Rule) (s : SessionOf) (o : Option (Tally × SessionOf))
    → IsNumbered number (detach_with 1 kept s o) (detach_with number kept s o)
detach_numbered number kept s (Some found) = record { text = refl; session = refl; ends = inl (refl, refl) }
detach_numbered number kept s None =
    record { text = refl; session = refl; ends = inr (end.NoneAttached 1, end.NoneAttached number, refl, refl, refl, refl) }

tally_numbered : (number : ℕ) (kept : Rule) (s : SessionOf) (o : Option Tally) → IsNumbered number (tally_with 1 kept s o) (tally_with number kept s o)
tally_numbered number kept s (Some tally) = record { text = refl; session = refl; ends = inl (refl, refl) }
tally_numbered number kept s None =
    record { text = refl; session = refl; ends = inr (end.NoneAttached 1, end.NoneAttached number, refl, refl, refl, refl) }

text_numbered : (number : ℕ) (s : SessionOf) (o : Option (List ℕ)) → IsNumbered number (text_said 1 s o) (text_said number s o)
text_numbered number s (Some text) = record { text = refl; session = refl; ends = inl (refl, refl) }
text_numbered number s None =
    record { text = refl; session = refl; ends = inr (end.OtherLevel 1, end.OtherLevel number, refl, refl, refl, refl) }

arrival_numbered : (number : ℕ) (a : Arrival) → Numbered number (arrival_end a) (arrival_end a)
arrival_numbered number (arrival.There count) = inl (refl, refl)
arrival_numbered number (arrival.Elsewhere ran) = run_numbered number ran

until_numbered : (number : ℕ) (made : Arrived) (s : SessionOf) (b : Bool)
    → IsNumbered number (cond b (arrived_said made) (ends_with (end.OtherLevel 1) s)) (cond b (arrived_said made) (ends_with (end.OtherLevel number) s))
until_numbered number made s true = record { text = refl; session = refl; ends = arrival_numbered number made.arrival }
until_numbered number made s false =
    record { text = refl; session = refl; ends = inr (end.OtherLevel 1, end.OtherLevel number, refl, refl, refl, refl) }

said_numbered : (number : ℕ) (c : Command) (s : SessionOf) → IsNumbered number (said_by 1 c s) (said_by number c s)
said_numbered number (command.Step count) s = record { text = refl; session = refl; ends = run_numbered number (stepped count s).run }
said_numbered number command.Show s = record { text = refl; session = refl; ends = inl (refl, refl) }
said_numbered number command.ShowAll s = text_numbered number s (all_text s.level)
said_numbered number command.Up s = record { text = refl; session = refl; ends = inl (refl, refl) }
said_numbered number (command.Attach word) s = attach_numbered number word s (attached_by (rule_of_word word) s)
said_numbered number (command.Detach word) s = detach_numbered number (rule_of_word word) s (detached_by (rule_of_word word) s)
said_numbered number (command.Tally word) s = tally_numbered number (rule_of_word word) s (tally_by (rule_of_word word) s)
said_numbered number (command.Words address count) s = text_numbered number s (words_text s.level address count)
said_numbered number (command.Until there limit) s = until_numbered number (arrived there limit s) s (has_places s.level there)
said_numbered number (command.UntilAny places limit) s = until_numbered number (arrived_at_one places limit s) s (has_all s.level places)

-- 2. A line that came, by what its text is.

-- what is said to the command of a line
abbrev end_of : ℕ → Option ScriptEnd → Option TalkEnd
end_of number None = None
end_of number (Some e) = end_at number e

abbrev answered : ℕ → Said → Talked
answered number own = record { text = own.text; end = end_of number own.end; session = own.session }

alone_said : (number : ℕ) (own : Said) (e : Option ScriptEnd)
    → said_at number (follow_on [] own e (λ text s. followed text [] s)) ≡ record { text = own.text; end = end_of number e; session = own.session }
unfolding followed
alone_said number own None = refl
alone_said number own (Some e) = refl

command_said : (number : ℕ) (c : Command) (s : SessionOf)
    → said_at number (followed [] (record { line = 1; command = c } ∷ []) s) ≡ answered number (said_by 1 c s)
unfolding followed
command_said number c s = alone_said number (said_by 1 c s) (said_by 1 c s).end

-- an empty line, a command, or a line that breaks a rule
abbrev Kind : List ℕ → Type 0
Kind w =
    ((number : ℕ) → line_read number w ≡ Ok None)
    ⊎ (((c : Command) × ((number : ℕ) → line_read number w ≡ Ok (Some record { line = number; command = c })))
    ⊎ ((rule : ScriptRule) × ((number : ℕ) → line_read number w ≡ Err (script.Refused (rule_number rule) number))))

kind_of : (w : List ℕ) → Kind w
unfolding line_read
kind_of [] = inl (λ number. refl)
kind_of (byte ∷ bytes) = by (command_in (byte ∷ bytes)) refl
  where
    by : (r : Result Command ScriptRule) → command_in (byte ∷ bytes) ≡ r → Kind (byte ∷ bytes)
    by (Ok c) is = inr (inl (c, λ number. ap (numbered number) is))
    by (Err rule) is = inr (inr (rule, λ number. ap (numbered number) is))

-- a line read alone
abbrev read_as : Result (Option Line) ScriptFault → Result (List Line) ScriptFault
read_as (Ok first) = Ok (option_to_list first ++ [])
read_as (Err fault) = Err fault

read_alone : (number : ℕ) (w : List ℕ) → lines_read number (w ∷ []) ≡ read_as (line_read number w)
unfolding lines_read
read_alone number w = by (line_read number w)
  where
    by : (r : Result (Option Line) ScriptFault) → (r >>= λ first. lines_read (number + 1) [] >>= λ rest. Ok (option_to_list first ++ rest)) ≡ read_as r
    by (Ok first) = refl
    by (Err fault) = refl

-- a text that is one line
abbrev IsOneLine : List ℕ → Type 0
IsOneLine line = lines_of line ≡ line ∷ []

abbrev AreAlone : List (List ℕ) → Type 0
AreAlone [] = Unit {0}
AreAlone (line ∷ lines) = IsOneLine line × AreAlone lines

-- a line that came, as a script of its own
own_script : (line : List ℕ) → IsOneLine line → (r : Result (Option Line) ScriptFault) → line_read 1 (without_terminator line) ≡ r
    → script_of line ≡ read_as r
own_script line one r is =
    ap (λ (ls : List (List ℕ)). lines_read 1 (map without_terminator ls)) one ∙ read_alone 1 (without_terminator line) ∙ ap read_as is

-- 3. All lines.

record FollowsAs (text : List ℕ) (t : Talked) (f : Followed) : Type 0 where
  pub said : f.text ≡ text ++ t.text
  pub session : f.session ≡ t.session
  pub ends : t.end ≡ stop_of f.end

abbrev IsRefusedAs : ℕ → ℕ → Talked → Type 0
IsRefusedAs rule line t = (t.end ≡ Some (talk.Refused rule line)) ⊎ ((e : ScriptEnd) × (t.end ≡ Some (talk.Script e)))

abbrev Holds : List ℕ → SessionOf → Result (List Line) ScriptFault → Talked → Type 0
Holds text s (Ok asked) t = FollowsAs text t (followed text asked s)
Holds text s (Err (script.Refused rule line)) t = IsRefusedAs rule line t
Holds text s (Err script.Memory) t = Unit {0}

module _ (number : ℕ) (own told : Said) (is : IsNumbered number own told) (rest : SessionOf → Talked) where
  abbrev whole : Option ScriptEnd → Talked
  whole e = talk_on (answered number own) (end_of number e) (rest own.session)

  next_follows : (text : List ℕ) (go : List ℕ → SessionOf → Followed) → ((text : List ℕ) (s : SessionOf) → FollowsAs text (rest s) (go text s))
      → Numbered number own.end told.end → FollowsAs text (whole own.end) (follow_on text told told.end go)
  next_follows text go all (inl (a, b)) =
      let h = all (text ++ told.text) told.session in
      let core : FollowsAs text (whole None) (follow_on text told None go) = record {
        said =
            h.said ∙ append_assoc text told.text (rest told.session).text
            ∙ ap (λ (z : List ℕ). text ++ (z ++ (rest told.session).text)) (sym is.text)
            ∙ ap (λ (z : SessionOf). text ++ (own.text ++ (rest z).text)) (sym is.session);
        session = h.session ∙ ap (λ (z : SessionOf). (rest z).session) (sym is.session);
        ends = ap (λ (z : SessionOf). (rest z).end) is.session ∙ h.ends;
      } in
      subst (λ (o : Option ScriptEnd). FollowsAs text (whole o) (follow_on text told told.end go)) (sym a)
      (subst (λ (o : Option ScriptEnd). FollowsAs text (whole None) (follow_on text told o go)) (sym b) core)
  next_follows text go all (inr (e, f, a, b, at, stops)) =
      let core : FollowsAs text (whole (Some e)) (follow_on text told (Some f) go) =
      subst (λ (o : Option TalkEnd). FollowsAs text (talk_on (answered number own) o (rest own.session)) (follow_on text told (Some f) go)) (sym at)
      (record {
        said = ap (λ (z : List ℕ). text ++ z) (sym is.text);
        session = sym is.session;
        ends = ap (end_of number) a ∙ at ∙ sym stops;
      }) in
      subst (λ (o : Option ScriptEnd). FollowsAs text (whole o) (follow_on text told told.end go)) (sym a)
      (subst (λ (o : Option ScriptEnd). FollowsAs text (whole (Some e)) (follow_on text told o go)) (sym b) core)

  next_refused : (rule line : ℕ) → ((s : SessionOf) → IsRefusedAs rule line (rest s)) → Numbered number own.end told.end
      → IsRefusedAs rule line (whole own.end)
  next_refused rule line all (inl (a, b)) = subst (λ (o : Option ScriptEnd). IsRefusedAs rule line (whole o)) (sym a) (all own.session)
  next_refused rule line all (inr (e, f, a, b, at, stops)) =
      subst (λ (o : Option ScriptEnd). IsRefusedAs rule line (whole o)) (sym a)
      (subst (λ (o : Option TalkEnd). IsRefusedAs rule line (talk_on (answered number own) o (rest own.session))) (sym at)
      (inr (f, ap (end_of number) a ∙ at)))

-- a command, and the lines behind it
command_holds : (number : ℕ) (c : Command) (text : List ℕ) (s : SessionOf) (rest : SessionOf → Talked) (r : Result (List Line) ScriptFault)
    → ((text : List ℕ) (s : SessionOf) → Holds text s r (rest s))
    → Holds text s (r >>= λ lines. Ok (record { line = number; command = c } ∷ lines))
    (talk_on (answered number (said_by 1 c s)) (end_of number (said_by 1 c s).end) (rest (said_by 1 c s).session))
unfolding followed
command_holds number c text s rest (Ok asked) all =
    let is = said_numbered number c s in
    next_follows number (said_by 1 c s) (said_by number c s) is rest text (λ text s. followed text asked s) all is.ends
command_holds number c text s rest (Err (script.Refused rule line)) all =
    let is = said_numbered number c s in
    next_refused number (said_by 1 c s) (said_by number c s) is rest rule line (λ s. all [] s) is.ends
command_holds number c text s rest (Err script.Memory) all = record {}

-- an empty line, and the lines behind it
empty_holds : (text : List ℕ) (s : SessionOf) (r : Result (List Line) ScriptFault) (rest : Talked) → Holds text s r rest
    → Holds text s (r >>= λ lines. Ok ([] ++ lines)) rest
empty_holds text s (Ok asked) rest h = h
empty_holds text s (Err (script.Refused rule line)) rest h = h
empty_holds text s (Err script.Memory) rest h = record {}

module _ (n : ℕ) (few : n + 1 < 2 ^ 32) (line : List ℕ) (one : IsOneLine line) (lines : List (List ℕ)) (r : Result (List Line) ScriptFault) where
  abbrev number : ℕ
  number = n + 1

  abbrev behind : Result (Option Line) ScriptFault → Result (List Line) ScriptFault
  behind first = first >>= λ (o : Option Line). r >>= λ (ls : List Line). Ok (option_to_list o ++ ls)

  abbrev goes_on : SessionOf → Talked → Talked
  goes_on s first = talk_on first first.end (talked number lines first.session)

  numbers : line_number n ≡ number
  numbers = omega (arith, few)

  said_is : (s : SessionOf) (o : Result (Option Line) ScriptFault) → line_read 1 (without_terminator line) ≡ o
      → script_said number s (read_as o) ≡ line_said (line_number n) line s
  said_is s o is =
      ap (λ (q : Result (List Line) ScriptFault). script_said number s q) (sym (own_script line one o is))
      ∙ ap (λ (k : ℕ). line_said k line s) (sym numbers)

  line_holds : (text : List ℕ) (s : SessionOf) → ((text : List ℕ) (s : SessionOf) → Holds text s r (talked number lines s))
      → Kind (without_terminator line)
      → Holds text s (behind (line_read number (without_terminator line))) (goes_on s (line_said (line_number n) line s))
  unfolding followed
  line_holds text s all (inl none) =
      let core : Holds text s (behind (Ok None)) (goes_on s (script_said number s (read_as (Ok None)))) =
      empty_holds text s r (talked number lines s) (all text s) in
      subst (λ (o : Result (Option Line) ScriptFault). Holds text s (behind o) (goes_on s (line_said (line_number n) line s))) (sym (none number))
      (subst (λ (t : Talked). Holds text s (behind (Ok None)) (goes_on s t)) (said_is s (Ok None) (none 1)) core)
  line_holds text s all (inr (inl (c, some))) =
      let own : Line = record { line = 1; command = c } in
      let core : Holds text s (behind (Ok (Some record { line = number; command = c }))) (goes_on s (answered number (said_by 1 c s))) =
      command_holds number c text s (λ s. talked number lines s) r all in
      subst (λ (o : Result (Option Line) ScriptFault). Holds text s (behind o) (goes_on s (line_said (line_number n) line s))) (sym (some number))
      (subst (λ (t : Talked). Holds text s (behind (Ok (Some record { line = number; command = c }))) (goes_on s t))
      (sym (command_said number c s) ∙ said_is s (Ok (Some own)) (some 1)) core)
  line_holds text s all (inr (inr (rule, breaks))) =
      let fault : Result (Option Line) ScriptFault = Err (script.Refused (rule_number rule) 1) in
      let core : Holds text s (behind (Err (script.Refused (rule_number rule) number))) (goes_on s (script_said number s (read_as fault))) =
      inl refl in
      subst (λ (o : Result (Option Line) ScriptFault). Holds text s (behind o) (goes_on s (line_said (line_number n) line s))) (sym (breaks number))
      (subst (λ (t : Talked). Holds text s (behind (Err (script.Refused (rule_number rule) number))) (goes_on s t)) (said_is s fault (breaks 1)) core)

all_hold : (n : ℕ) (lines : List (List ℕ)) → n + length lines < 2 ^ 32 → AreAlone lines
    → (text : List ℕ) (s : SessionOf) → Holds text s (lines_read (n + 1) (map without_terminator lines)) (talked n lines s)
unfolding lines_read talked followed
all_hold n [] few one text s = record { said = sym (append-nil text); session = refl; ends = refl }
all_hold n (line ∷ lines) few one text s =
    line_holds n (omega (arith, few)) line one.0 lines (lines_read (n + 1 + 1) (map without_terminator lines)) text s
    (λ text s. all_hold (n + 1) lines (omega (arith, few)) one.1 text s) (kind_of (without_terminator line))

-- 4. The lines of a text.

true_false : true ≡ false → ⊥
true_false h = cc

feed_at : (b : ℕ) (rest : List ℕ) → (b == 10) ≡ false → ((k : ℕ) → k + 1 < line_len rest → slice_index rest k ≢ 10)
    → (k : ℕ) → k + 1 < suc (line_len rest) → slice_index (b ∷ rest) k ≢ 10
feed_at b rest other later zero lt = λ is. true_false (sym (eq-eqb b 10 is) ∙ other)
feed_at b rest other later (suc k) lt = later k (omega (arith, lt))

before_feed : (bs : List ℕ) (k : ℕ) → k + 1 < line_len bs → slice_index bs k ≢ 10
unfolding line_len
before_feed [] k lt = absurd (omega (arith, lt))
before_feed (b ∷ rest) k lt = ⊎_elim
    (λ yes. absurd (omega (arith, subst (λ n. k + 1 < n) (cond-true _ _ _ yes) lt)))
    (λ no. feed_at b rest no (λ j. before_feed rest j) k (subst (λ n. k + 1 < n) (cond-false _ _ _ no) lt))
    (cases_Bool (b == 10))

pieces_one : (fuel : ℕ) (bs : List ℕ) → length bs ≤ fuel → AreAlone (lines_of bs)
pieces_one fuel [] le = subst AreAlone (sym lines-nil) record {}
pieces_one zero (b ∷ rest) le = absurd (omega (arith, le))
pieces_one (suc fuel) (b ∷ rest) le =
    let bs : List ℕ = b ∷ rest in
    let bounds = line_len-bounds bs (omega arith) in
    let first : List ℕ = take (line_len bs) bs in
    let long : length first ≡ line_len bs = length-take-le (line_len bs) bs bounds.1 in
    let left = length-drop (line_len bs) bs in
    let one : IsOneLine first =
    lines-one first (omega (arith, long, bounds.0))
    (λ k lt is. before_feed bs k (omega (arith, lt, long)) (sym (get_or-take (line_len bs) bs k 0 (omega (arith, lt, long))) ∙ is)) in
    subst AreAlone (sym (lines-step bs (omega arith)))
    (one, pieces_one fuel (drop (line_len bs) bs) (omega (arith, le, left, bounds.0)))

-- 5. The laws.

pub talks_follow : TalksFollow
talks_follow text asked s few is =
    let h : Holds [] s (script_of text) (talked 0 (lines_of text) s) =
    all_hold 0 (lines_of text) (omega (arith, few)) (pieces_one (length text) text (omega arith)) [] s in
    let f : FollowsAs [] (talked 0 (lines_of text) s) (followed [] asked s) =
    subst (λ (r : Result (List Line) ScriptFault). Holds [] s r (talked 0 (lines_of text) s)) is h in
    let said = f.said in let session = f.session in let ends = f.ends in
    λ i. record { text = (sym said) i; end = ends i; session = (sym session) i }

pub talks_refuse : TalksRefuse
talks_refuse text rule line s few is =
    subst (λ (r : Result (List Line) ScriptFault). Holds [] s r (talked 0 (lines_of text) s)) is
    (all_hold 0 (lines_of text) (omega (arith, few)) (pieces_one (length text) text (omega arith)) [] s)

-- 6. Lines put together.

fed_alone : (line : List ℕ) → HasFeed line → IsOneLine line
fed_alone line (text, plain, is) = subst IsOneLine (sym is)
    (lines-one (text ++ 10 ∷ []) (omega (arith, length-append text (10 ∷ [])))
    (λ k lt at. plain k 0 (omega (arith, lt, length-append text (10 ∷ [])))
    (sym (get_or_append_left text (10 ∷ []) 0 k (omega (arith, lt, length-append text (10 ∷ [])))) ∙ at)))

some_byte : (line : List ℕ) → line ≢ [] → 0 < length line
some_byte [] other = absurd (other refl)
some_byte (byte ∷ bytes) other = omega arith

line_alone : (line : List ℕ) → IsLine line → IsOneLine line
line_alone line (text, plain, inl fed) = fed_alone line (text, plain, fed)
line_alone line (text, plain, inr (same, some)) =
    lines-one line (some_byte line some)
    (λ k lt at. plain k 0 (omega (arith, lt, ap (λ (l : List ℕ). length l) same)) (ap (λ (l : List ℕ). slice_index l k) (sym same) ∙ at))

feed_last : (line : List ℕ) → HasFeed line → EndsLine line
feed_last line (text, plain, is) = subst EndsLine (sym is)
    (inr (ap (λ (k : ℕ). slice_index (text ++ 10 ∷ []) k) (last_place text) ∙ get_or-append_seam text 10 [] 0))
  where
    last_place : (text : List ℕ) → length (text ++ 10 ∷ []) - 1 ≡ length text
    last_place text = omega (arith, length-append text (10 ∷ []))

pub lines_stay : LinesStay
lines_stay [] of = lines-nil
lines_stay (line ∷ []) of = ap (λ (l : List ℕ). lines_of l) (append-nil line) ∙ line_alone line of
lines_stay (line ∷ next ∷ lines) of =
    lines-append (length line) line (together (next ∷ lines)) (omega arith) (feed_last line of.0)
    ∙ ap (λ (ls : List (List ℕ)). ls ++ lines_of (together (next ∷ lines))) (fed_alone line of.0)
    ∙ ap (λ (ls : List (List ℕ)). line ∷ ls) (lines_stay (next ∷ lines) of.1)

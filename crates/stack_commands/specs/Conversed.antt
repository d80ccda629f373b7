-- What a session that is asked line by line does with its devices.
use Rattle.std.specs.Prelude.{◌≡◌, ◌+◌, ◌-◌, ◌^◌, ◌<◌, ◌≤◌, ◌⊎◌, ℕ, List, [], ◌∷◌, length, take, Option, Some, None}
use Rattle.stack_shelf.specs.{Causes.{Rose}, Shelf.{appended, PrefixAppended}}
use Rattle.command_line.specs.{declared.status.Status.{Status}, Devices.{lines_of, took_each}}
use Rattle.command_replies.specs.Replies.{reply_text, status_of}
use Rattle.level_debuggers.specs.Walks.{SessionOf}
use Rattle.level_debuggers.specs.declared.script_end.ScriptEnd.TheVariants as end
use Rattle.stack_commands.specs.{declared.talking.TalkEnd.{TalkEnd}, Commands.Talk.{line_number, line_said, talk_reply, talk_verdict}}
use Rattle.stack_commands.specs.Commands.Talk.{talked}
use Rattle.stack_commands.specs.declared.talking.TalkEnd.TheVariants as talk

-- the lines and the sink of a talk
pub record Channels (L K : Type 0) : Type 0 where
  pub lines : L
  pub out : K

-- what lines are after a call that saw this sink: if it gave this line, if none was left, if the next one was too long, and if it failed
pub record LineActs (L K : Type 0) : Type 0 where
  pub came : L → K → List ℕ → L
  pub ended : L → K → L
  pub overran : L → K → L
  pub broke : L → K → L

abbrev pub line_acts : {L K : Type 0} → (L → K → List ℕ → L) → (L → K → L) → (L → K → L) → (L → K → L) → LineActs L K
line_acts came ended overran broke = record { came = came; ended = ended; overran = overran; broke = broke }

-- A line came to a call that saw the sink as it was; then this was printed, each line of it by a put of its own.
abbrev pub with_answer : {L K : Type 0} → (L → K → List ℕ → L) → (K → List ℕ → K) → Channels L K → List ℕ → List ℕ → Channels L K
with_answer came put d line said = record { lines = came d.lines d.out line; out = took_each put d.out (lines_of said) }

-- What the two are after these lines came, behind so many others: all that is said to a line is printed before the next one is asked for.
abbrev pub asked : {L K : Type 0} → (L → K → List ℕ → L) → (K → List ℕ → K) → ℕ → Channels L K → SessionOf → List (List ℕ) → Channels L K
asked came put before d s [] = d
asked came put before d s (line ∷ rest) =
    let said = line_said (line_number before) line s in
    asked came put (before + 1) (with_answer came put d line said.text) said.session rest

-- Why a talk ended behind these lines, which were all answered: one of them ended it, or no line was left, or the next one was too long
-- to be read, or there were as many as a counter of 64 bits has numbers.
abbrev pub Ceased : {L K : Type 0} → LineActs L K → Channels L K → L → ℕ → ℕ → List (List ℕ) → Option TalkEnd → TalkEnd → Type 0
Ceased acts there after overruns_before overruns_after lines (Some said) e = (after ≡ there.lines) × (e ≡ said)
Ceased acts there after overruns_before overruns_after lines None e =
    ((after ≡ acts.ended there.lines there.out) × (e ≡ talk.Script end.Done))
    ⊎ (((after ≡ acts.overran there.lines there.out) × Rose overruns_before overruns_after
    × (e ≡ talk.Refused 6 (line_number (length lines))))
    ⊎ ((2 ^ 64 - 1 ≤ length lines) × (after ≡ there.lines) × (e ≡ talk.Script end.Done)))

-- How a talk that stopped left the lines: if the sink failed (`whole`), all of these had come, and no more; if the next one could not be
-- read (`unread`), the call for it came behind them.
abbrev pub LeavesLines : {L K : Type 0} → LineActs L K → Channels L K → L → Type 0 → Type 0 → Type 0
LeavesLines acts there after whole unread = (whole → after ≡ there.lines) × (unread → after ≡ acts.broke there.lines there.out)

-- no line but the last of these ended it, so that none was asked for behind one that did
abbrev pub OnlyLastEnds : List (List ℕ) → SessionOf → Type 0
OnlyLastEnds lines first = (k : ℕ) → k < length lines → (talked 0 (take k lines) first).end ≡ None

-- These lines came, each when all that is said to those before it had been printed, and no more were asked for. All that is said to them
-- was printed, and the last line, each of its lines by a put of its own. The status is that of how it ended.
pub record Conversed {L K : Type 0} (acts : LineActs L K) (lines_before lines_after : L)
    (overruns_before overruns_after : ℕ) (put : K → List ℕ → K) (before after : K) (taken_before taken_after : Option (List ℕ))
    (first : SessionOf) (status : Status) : Type 0 where
  pub lines : List (List ℕ)
  pub goes : OnlyLastEnds lines first
  pub stop : TalkEnd
  pub ceased :
      Ceased acts (asked acts.came put 0 record { lines = lines_before; out = before } first lines) lines_after
      overruns_before overruns_after lines (talked 0 lines first).end stop
  pub ends : status ≡ status_of (talk_verdict (talked 0 lines first).session.level stop)
  pub text : taken_after ≡ appended taken_before (reply_text (talk_reply (talked 0 lines first) stop))
  pub took : after ≡ took_each put before (lines_of (reply_text (talk_reply (talked 0 lines first) stop)))

-- It stopped before that: of what is said to some lines a prefix was printed, or, if it had ended, of that and the last line. If the sink
-- failed (`whole`), these lines came, each when the answers before it had been printed. If the next line could not be read (`unread`),
-- they came too, the call for that line came behind them, and all that is said to them had been printed.
pub record PartlyConversed {L K : Type 0} (acts : LineActs L K) (lines_before lines_after : L)
    (overruns_before overruns_after : ℕ) (whole unread : Type 0) (put : K → List ℕ → K) (before : K)
    (taken_before taken_after : Option (List ℕ)) (first : SessionOf) : Type 0 where
  pub lines : List (List ℕ)
  pub goes : OnlyLastEnds lines first
  pub printed :
      ((LeavesLines acts (asked acts.came put 0 record { lines = lines_before; out = before } first lines) lines_after whole unread
      × (unread → taken_after ≡ appended taken_before (talked 0 lines first).text)
      × PrefixAppended taken_before taken_after (talked 0 lines first).text))
      ⊎ ((¬ unread) × (stop : TalkEnd)
      × Ceased acts (asked acts.came put 0 record { lines = lines_before; out = before } first lines) lines_after
      overruns_before overruns_after lines (talked 0 lines first).end stop
      × PrefixAppended taken_before taken_after (reply_text (talk_reply (talked 0 lines first) stop)))

-- What the logs tell of a session that was asked line by line.
use Rattle.std.proofs.Common.{◌≡◌, ◌⊎◌, inl, inr, ⊎_elim, ◌∷◌, [], ◌++◌, ◌+◌, ◌==◌, take, length, ℕ, Bool, true, false, if◌then◌else◌, List, Option, Some, None}
use Rattle.std.proofs.Common.{Result, Ok, Err, suc, refl, sym, ap, subst, ◌∙◌, append-nil, append_assoc, arith, ◌≤◌, zero, get_or, get_or-take}
use Rattle.std.specs.Prelude.{◌≢◌}
use Rattle.stack_shelf.{specs.Files.Files, specs.Causes.Counts}
use Rattle.device_logs.specs.Logged.{LoggedLinesOf, LoggedShelfOf, LoggedSinkOf, log_limit, logged_broke, logged_came, logged_ended, logged_gave}
use Rattle.device_logs.specs.Logged.{logged_overran, logged_took}
use Rattle.level_debuggers.{specs.Levels.LevelOf, specs.Tallies.Watching, specs.Walks.SessionOf}
use Rattle.command_line.{specs.declared.early_end.EarlyEnd.EarlyEnd, specs.declared.status.Status.Status, specs.Devices.{lines_of, onto_first, took_each}}
use Rattle.command_line.specs.declared.status.Status.TheVariants.{SinkFault, OutOfMemory}
use Rattle.command_line.specs.declared.early_end.EarlyEnd.TheVariants as early
use Rattle.command_replies.{specs.declared.reply.Reply.Reply, specs.declared.reply.Verdict.Verdict, specs.Replies.{ReplyOf, reply_of, reply_text, status_of}}
use Rattle.command_replies.specs.Replies.{verdict_alone}
use Rattle.stack_commands.{specs.declared.talking.TalkEnd.TalkEnd, specs.Commands.Debug.session_on, specs.Commands.Talk.{line_number, line_said, talk_reply}}
use Rattle.stack_commands.{specs.Commands.Talk.talked, specs.Conversed.{Ceased, Channels, Conversed, LineActs, asked, line_acts, with_answer}}
use Rattle.stack_commands.specs.TalkScripts.{together}
use Rattle.cli_stack.{specs.declared.conversing.Talk.Talk, specs.declared.driver.conclude.Conclusion.Conclusion, specs.Driver.{Concludes, Printed}}
use Rattle.cli_stack.{specs.Driver.conclusion_of, specs.Converses.{Converses, FindsRun, FindsRunOrEnds, ShelfActs, Tells, shelf_acts, talk_acts, talk_inputs}}
use Rattle.cli_stack.{specs.Converses.talk_world, specs.RepliesTo.TookLines, specs.World.{OutOf, shelf_of}, specs.TalkRan.{TalkAnswers, Heard, Spoke, TalkDid}}
use Rattle.cli_stack.{specs.TalkRan.{TalkLogs, TalkRan, ToldVerdict, AheadIsRefused, counts_before, log_after, talk_logs}, proofs.RanLaws.{gave_logs, joined}}
use Rattle.cli_stack.proofs.RanLaws.{joined_lines, take_again, took_text}

-- 1. What a sink's log has after it took a text, line by line.

module _ {K : Type 0} (took : K → List ℕ → K) where
  took_some : (s : LoggedSinkOf K) (piece : List ℕ) (pieces : List (List ℕ))
      → (took_each (logged_took took) s (piece ∷ pieces)).printed ≡ take log_limit (s.printed ++ (piece ++ joined pieces))
  took_some s piece [] = ap (λ (l : List ℕ). take log_limit (s.printed ++ l)) (sym (append-nil piece))
  took_some s piece (next ∷ rest) =
      took_some (logged_took took s piece) next rest ∙ take_again log_limit (s.printed ++ piece) (next ++ joined rest)
      ∙ ap (λ (l : List ℕ). take log_limit l) (append_assoc s.printed piece (next ++ joined rest))

  took_by : (s : LoggedSinkOf K) (b : Bool) (byte : ℕ) (lines : List (List ℕ))
      → (took_each (logged_took took) s (if b then (byte ∷ []) ∷ lines else onto_first byte lines)).printed
      ≡ take log_limit (s.printed ++ byte ∷ joined lines)
  took_by s true byte lines = took_some s (byte ∷ []) lines
  took_by s false byte [] = took_some s (byte ∷ []) []
  took_by s false byte (line ∷ lines) = took_some s (byte ∷ line) lines

  took_log : (s : LoggedSinkOf K) (text : List ℕ) → (took_each (logged_took took) s (lines_of text)).printed ≡ log_after s.printed text
  took_log s [] = refl
  took_log s (byte ∷ text) =
      took_by s (byte == 10) byte (lines_of text) ∙ ap (λ (l : List ℕ). take log_limit (s.printed ++ byte ∷ l)) (joined_lines text)

-- 2. What the logs have after lines that came.

module _ {L K : Type 0} (came : L → K → List ℕ → L) (took : K → List ℕ → K) where
  abbrev There : ℕ → Channels (LoggedLinesOf L) (LoggedSinkOf K) → SessionOf → List (List ℕ) → Channels (LoggedLinesOf L) (LoggedSinkOf K)
  There before d s lines = asked (logged_came came) (logged_took took) before d s lines

  heard : (before : ℕ) (d : Channels (LoggedLinesOf L) (LoggedSinkOf K)) (s : SessionOf) (lines : List (List ℕ))
      → (take log_limit (There before d s lines).lines.came ≡ take log_limit (d.lines.came ++ together lines))
      × (take log_limit (There before d s lines).lines.printed_before
      ≡ take log_limit (d.lines.printed_before ++ counts_before before d.out.printed s lines))
  heard before d s [] = (
    ap (λ (l : List ℕ). take log_limit l) (sym (append-nil d.lines.came)),
    ap (λ (l : List ℕ). take log_limit l) (sym (append-nil d.lines.printed_before)),
  )
  heard before d s (line ∷ rest) =
      let said = line_said (line_number before) line s in
      let next : Channels (LoggedLinesOf L) (LoggedSinkOf K) = with_answer (logged_came came) (logged_took took) d line said.text in
      let later = heard (before + 1) next said.session rest in
      let counts : List ℕ = counts_before (before + 1) (log_after d.out.printed said.text) said.session rest in (
        later.0 ∙ take_again log_limit (d.lines.came ++ line) (together rest)
            ∙ ap (λ (l : List ℕ). take log_limit l) (append_assoc d.lines.came line (together rest)),
        later.1
            ∙ ap (λ (p : List ℕ). take log_limit (next.lines.printed_before ++ counts_before (before + 1) p said.session rest)) (took_log took d.out said.text)
            ∙ take_again log_limit (d.lines.printed_before ++ length d.out.printed ∷ []) counts
            ∙ ap (λ (l : List ℕ). take log_limit l) (append_assoc d.lines.printed_before (length d.out.printed ∷ []) counts),
      )

-- what lines with a log are after a call
abbrev logged_acts : {L K : Type 0} → LineActs L K → LineActs (LoggedLinesOf L) (LoggedSinkOf K)
logged_acts acts = line_acts (logged_came acts.came) (logged_ended acts.ended) (logged_overran acts.overran) (logged_broke acts.broke)

-- 3. A session that came to its end.

module _ {S L K : Type 0} (acts : LineActs L K) (took : K → List ℕ → K) (shelf_before shelf_after : LoggedShelfOf S)
    (lines_before lines_after : LoggedLinesOf L) (out_before out_after : LoggedSinkOf K) (overruns_before overruns_after : ℕ) where
  abbrev old : TalkLogs
  old = talk_logs shelf_before lines_before out_before

  abbrev new : TalkLogs
  new = talk_logs shelf_after lines_after out_after

  abbrev start : Channels (LoggedLinesOf L) (LoggedSinkOf K)
  start = record { lines = lines_before; out = out_before }

  was_heard : (session : SessionOf) (lines : List (List ℕ)) → new.came ≡ (There acts.came took 0 start session lines).lines.came
      → new.printed_before ≡ (There acts.came took 0 start session lines).lines.printed_before → Heard lines session old new
  was_heard session lines same order =
      let all = heard acts.came took 0 start session lines in
      record {
        came = ap (λ (l : List ℕ). take log_limit l) same ∙ all.0;
        order = ap (λ (l : List ℕ). take log_limit l) order ∙ all.1;
      }

  by_end : (session : SessionOf) (lines : List (List ℕ)) (o : Option TalkEnd) (e : TalkEnd)
      → Ceased (logged_acts acts) (There acts.came took 0 start session lines) lines_after overruns_before overruns_after lines o e
      → Heard lines session old new
  by_end session lines (Some said) e c =
      was_heard session lines (ap (λ (l : LoggedLinesOf L). l.came) c.0) (ap (λ (l : LoggedLinesOf L). l.printed_before) c.0)
  by_end session lines None e (inl c) =
      was_heard session lines (ap (λ (l : LoggedLinesOf L). l.came) c.0) (ap (λ (l : LoggedLinesOf L). l.printed_before) c.0)
  by_end session lines None e (inr (inl long)) =
      was_heard session lines (ap (λ (l : LoggedLinesOf L). l.came) long.0) (ap (λ (l : LoggedLinesOf L). l.printed_before) long.0)
  by_end session lines None e (inr (inr c)) =
      was_heard session lines (ap (λ (l : LoggedLinesOf L). l.came) c.1) (ap (λ (l : LoggedLinesOf L). l.printed_before) c.1)

  spoke : (taken_before taken_after : Option (List ℕ)) (session : SessionOf) (status : Status)
      → Conversed (logged_acts acts) lines_before lines_after overruns_before overruns_after (logged_took took)
      out_before out_after taken_before taken_after session status
      → Spoke session old new status
  spoke taken_before taken_after session status c = record {
    lines = c.lines;
    goes = c.goes;
    heard = by_end session c.lines (talked 0 c.lines session).end c.stop c.ceased;
    stop = c.stop;
    printed = ap (λ (k : LoggedSinkOf K). take log_limit k.printed) c.took
        ∙ took_text took out_before (reply_text (talk_reply (talked 0 c.lines session) c.stop));
    ends = c.ends;
  }

  -- a verdict that was printed
  told_verdict : (verdict : Verdict) (reply : Reply) (status : Status) (before after : OutOf) (c : Conclusion)
      → lines_after ≡ lines_before → reply_of reply ≡ verdict_alone verdict → conclusion_of (Ok reply) ≡ Some c
      → Printed (TookLines (logged_took took) out_before out_after) c status before after → ToldVerdict verdict old new status
  told_verdict verdict reply status before after c same is concludes p =
      let text : c.text ≡ reply_text (reply_of reply) = cc in
      let ends : c.status ≡ status_of (reply_of reply).verdict = cc in
      record {
        came = ap (λ (l : LoggedLinesOf L). l.came) same;
        order = ap (λ (l : LoggedLinesOf L). l.printed_before) same;
        printed = ap (λ (k : LoggedSinkOf K). take log_limit k.printed) p.took ∙ took_text took out_before c.text
            ∙ ap (λ (t : List ℕ). take log_limit (out_before.printed ++ t)) text
            ∙ ap (λ (r : ReplyOf). take log_limit (out_before.printed ++ reply_text r)) is;
        ends = p.ends ∙ ends ∙ ap (λ (r : ReplyOf). status_of r.verdict) is;
      }

-- 4. The whole.

-- what can be concluded was printed, unless the sink failed or memory ran out
was_printed : (refused : Type 0) (Took : List ℕ → Type 0) (c : Conclusion) (status : Status) (before after : OutOf)
    → Concludes refused Took (Some c) status before after → status ≢ SinkFault → status ≢ OutOfMemory → Printed Took c status before after
was_printed refused Took c status before after (inl none) f m = absurd (m none.ends)
was_printed refused Took c status before after (inr (inl p)) f m = p
was_printed refused Took c status before after (inr (inr s)) f m = absurd (⊎_elim (λ failed. f failed.0) (λ memory. m memory.0) s.cause)

module _ {S L K : Type 0} (heap shelf lines sink : Type 0) (files : LoggedShelfOf S → Option Files) (counts : LoggedShelfOf S → Counts)
    (gave : S → List ℕ → List ℕ → S) (acts : LineActs L K) (line_faults overruns : LoggedLinesOf L → ℕ) (took : K → List ℕ → K)
    (taken : LoggedSinkOf K → Option (List ℕ)) (faults : LoggedSinkOf K → ℕ) (talk : Talk) (watches : List Watching)
    (shelf_before shelf_after : LoggedShelfOf S) (lines_before lines_after : LoggedLinesOf L) (out_before out_after : LoggedSinkOf K) (status : Status) where
  abbrev gives : ShelfActs (LoggedShelfOf S)
  gives = shelf_acts files counts (logged_gave gave)

  abbrev before : TalkLogs
  before = talk_logs shelf_before lines_before out_before

  abbrev after : TalkLogs
  after = talk_logs shelf_after lines_after out_after

  abbrev Ran : Type 0
  Ran = TalkRan talk watches (shelf_of (files shelf_before) (counts shelf_before)) (shelf_of (files shelf_after) (counts shelf_after)) before after status

  did : (found : Result LevelOf Verdict) → FindsRun gives shelf_before shelf_after talk found → TalkAnswers found watches before after status
      → TalkDid talk watches before after status
  did found finds answers =
      let given = gave_logs gave gave shelf_before (talk_inputs talk) finds.texts in
      record {
        texts = finds.texts;
        roles = finds.roles;
        short = finds.short;
        fetched = ap (λ (s : LoggedShelfOf S). s.fetched) finds.shelf ∙ given.0;
        stored = ap (λ (s : LoggedShelfOf S). s.stored) finds.shelf ∙ given.1;
        answered = subst (λ (r : Result LevelOf Verdict). TalkAnswers r watches before after status) finds.is answers;
      }

  by_found : (found : Result (Result LevelOf Verdict) EarlyEnd) → FindsRunOrEnds (heap ⊎ shelf) gives shelf_before shelf_after talk found
      → Tells heap lines sink (talk_acts (logged_acts acts) line_faults overruns (logged_took took) taken faults) found watches
      lines_before lines_after out_before out_after status
      → Ran
  by_found (Ok (Ok run)) finds (inl c) h1 h2 h3 h4 =
      inr (did (Ok run) finds (spoke acts took shelf_before shelf_after lines_before lines_after out_before out_after
      (overruns lines_before) (overruns lines_after) (taken out_before) (taken out_after) (session_on run watches) status c))
  by_found (Ok (Ok run)) finds (inr (inl s)) h1 h2 h3 h4 = absurd (h3 s.0)
  by_found (Ok (Ok run)) finds (inr (inr (inl m))) h1 h2 h3 h4 = absurd (h4 m.0)
  by_found (Ok (Ok run)) finds (inr (inr (inr u))) h1 h2 h3 h4 = absurd (h2 (was_printed _ _ _ status _ _ u.3.1 h3 h4).ends)
  by_found (Ok (Err verdict)) finds t h1 h2 h3 h4 =
      inr (did (Err verdict) finds (told_verdict acts took shelf_before shelf_after lines_before lines_after out_before out_after
      (overruns lines_before) (overruns lines_after) verdict t.1 status _ _ _ t.0 t.2 refl (was_printed _ _ _ status _ _ t.3.1 h3 h4)))
  by_found (Err (early.Missing name)) finds t h1 h2 h3 h4 = absurd (h1 (was_printed _ _ _ status _ _ t.1.1 h3 h4).ends)
  by_found (Err (early.TooLong limit)) finds t h1 h2 h3 h4 =
      let p = was_printed _ _ _ status _ _ t.1.1 h3 h4 in
      inl (p.ends, (finds.cause.0, finds.cause.1, finds.cause.2, tt))
  by_found (Err (early.ShelfFault name)) finds t h1 h2 h3 h4 = absurd (h2 (was_printed _ _ _ status _ _ t.1.1 h3 h4).ends)
  by_found (Err early.OutOfMemory) finds t h1 h2 h3 h4 = absurd (⊎_elim (λ none. h4 none.ends) (λ none. none) t.1.1)

  pub talk_ran : Converses heap shelf lines sink gives
      (talk_acts (logged_acts acts) line_faults overruns (logged_took took) taken faults) talk watches
      (talk_world shelf_before lines_before out_before) (talk_world shelf_after lines_after out_after) status
      → Ran
  talk_ran c = by_found c.found c.finds c.tells

-- 5. Who asks for a line ahead.

-- the second of two numbers and more
second_of : (counts : List ℕ) (first second : ℕ) (rest : List ℕ) → take log_limit counts ≡ take log_limit (first ∷ second ∷ rest)
    → get_or counts 1 0 ≡ second
second_of counts first second rest same =
    sym (get_or-take log_limit counts 1 0 (omega arith)) ∙ ap (λ (l : List ℕ). get_or l 1 0) same
    ∙ get_or-take log_limit (first ∷ second ∷ rest) 1 0 (omega arith)

first_taken : (n : ℕ) (byte : ℕ) (text : List ℕ) → 1 ≤ n → length (take n (byte ∷ text)) ≢ 0
first_taken zero byte text some none = absurd (omega (arith, some))
first_taken (suc n) byte text some none = absurd cc

has_room : 1 ≤ log_limit
has_room = omega arith

log_grows : (text : List ℕ) → text ≢ [] → length (log_after [] text) ≢ 0
log_grows [] some none = some refl
log_grows (byte ∷ text) some none = first_taken log_limit byte text has_room none

pub ahead_is_refused : AheadIsRefused
ahead_is_refused session first second rest before after empty unasked some heard none =
    let said = line_said 1 first session in
    let next = line_said 2 second said.session in
    let counts : List ℕ = counts_before 2 (log_after (log_after [] said.text) next.text) next.session rest in
    let order : take log_limit after.printed_before ≡ take log_limit (0 ∷ length (log_after [] said.text) ∷ counts) =
    rw (empty, unasked) at heard.order in
    log_grows said.text some (sym (second_of after.printed_before 0 (length (log_after [] said.text)) counts order) ∙ none)

-- What a session that was asked line by line really did, by the logs of its devices: what was fetched, which lines came, what had been
-- printed when each of them was asked for, and what was printed.
use Rattle.std.specs.Prelude.{◌≡◌, ◌≢◌, ◌⊎◌, ◌+◌, ℕ, List, [], ◌∷◌, ◌++◌, get_or, length, take, Result, Ok, Err}
use Rattle.stack_shelf.specs.Files.{Files}
use Rattle.device_logs.specs.Logged.{LoggedLinesOf, LoggedShelfOf, LoggedSinkOf, log_limit}
use Rattle.level_debuggers.specs.{Levels.{LevelOf}, Tallies.{Watching}, Walks.{SessionOf}}
use Rattle.command_line.specs.{declared.status.Status.{Status}, declared.status.Status.TheVariants.{Missing, ShelfFault, SinkFault, Size}}
use Rattle.command_line.specs.{declared.status.Status.TheVariants.{OutOfMemory}, CommandFiles.{names_of}, Gathered.{AreShort, Texts}}
use Rattle.command_line.specs.Gathered.{roles_of}
use Rattle.command_replies.specs.{declared.reply.Verdict.{Verdict}, Replies.{reply_text, status_of, verdict_alone}}
use Rattle.stack_commands.specs.{declared.talking.TalkEnd.{TalkEnd}, Commands.Debug.{session_on}, TalkScripts.{together}}
use Rattle.stack_commands.specs.{Commands.Talk.{line_number, line_said, talk_reply, talk_verdict, talked}, Conversed.{OnlyLastEnds}}
use Rattle.cli_stack.specs.{declared.conversing.Talk.{Talk}, Converses.{talk_inputs, talk_run}, Ran.{files_with}, Causes.{RoseAt}}
use Rattle.cli_stack.specs.World.{ShelfOf}

-- the logs of a shelf, of lines and of a sink
pub record TalkLogs : Type 0 where
  pub fetched : Files
  pub stored : Files
  pub came : List ℕ
  pub printed_before : List ℕ
  pub printed : List ℕ

abbrev pub talk_logs : {S L K : Type 0} → LoggedShelfOf S → LoggedLinesOf L → LoggedSinkOf K → TalkLogs
talk_logs shelf lines out = record {
  fetched = shelf.fetched;
  stored = shelf.stored;
  came = lines.came;
  printed_before = lines.printed_before;
  printed = out.printed;
}

-- what the log of a sink has after it took a text, line by line: nothing more if there is none
abbrev pub log_after : List ℕ → List ℕ → List ℕ
log_after printed [] = printed
log_after printed (byte ∷ text) = take log_limit (printed ++ byte ∷ text)

-- How many bytes the log of the sink has when each of these lines is asked for, behind so many others: those that were in it, and all that
-- the session says to the lines before.
abbrev pub counts_before : ℕ → List ℕ → SessionOf → List (List ℕ) → List ℕ
counts_before before printed s [] = []
counts_before before printed s (line ∷ rest) =
    let said = line_said (line_number before) line s in
    length printed ∷ counts_before (before + 1) (log_after printed said.text) said.session rest

-- These lines came, each when what is said to those before it had been printed.
pub record Heard (lines : List (List ℕ)) (session : SessionOf) (before after : TalkLogs) : Type 0 where
  pub came : take log_limit after.came ≡ take log_limit (before.came ++ together lines)
  pub order : take log_limit after.printed_before
      ≡ take log_limit (before.printed_before ++ counts_before 0 before.printed session lines)

-- All that the session says to lines was printed, and the last line.
pub record Spoke (session : SessionOf) (before after : TalkLogs) (status : Status) : Type 0 where
  pub lines : List (List ℕ)
  pub goes : OnlyLastEnds lines session
  pub heard : Heard lines session before after
  pub stop : TalkEnd
  pub printed : take log_limit after.printed ≡ take log_limit (before.printed ++ reply_text (talk_reply (talked 0 lines session) stop))
  pub ends : status ≡ status_of (talk_verdict (talked 0 lines session).session.level stop)

-- There is no run: the verdict was printed, and no line asked for.
pub record ToldVerdict (verdict : Verdict) (before after : TalkLogs) (status : Status) : Type 0 where
  pub came : after.came ≡ before.came
  pub order : after.printed_before ≡ before.printed_before
  pub printed : take log_limit after.printed ≡ take log_limit (before.printed ++ reply_text (verdict_alone verdict))
  pub ends : status ≡ status_of verdict

abbrev pub TalkAnswers : Result LevelOf Verdict → List Watching → TalkLogs → TalkLogs → Status → Type 0
TalkAnswers (Err verdict) watches before after status = ToldVerdict verdict before after status
TalkAnswers (Ok run) watches before after status = Spoke (session_on run watches) before after status

-- It fetched each file of the session once, and no other, and stored none.
pub record TalkDid (talk : Talk) (watches : List Watching) (before after : TalkLogs) (status : Status) : Type 0 where
  pub texts : Texts
  pub roles : roles_of texts ≡ roles_of (talk_inputs talk)
  pub short : AreShort texts
  pub fetched : after.fetched ≡ before.fetched ++ files_with (talk_inputs talk) texts
  pub stored : after.stored ≡ before.stored
  pub answered : TalkAnswers (talk_run talk texts) watches before after status

-- unless a file is missing or too long, a device fails, or memory runs out
abbrev pub TalkRan : Talk → List Watching → ShelfOf → ShelfOf → TalkLogs → TalkLogs → Status → Type 0
TalkRan talk watches shelf_before shelf_after before after status =
    status ≢ Missing → status ≢ ShelfFault → status ≢ SinkFault → status ≢ OutOfMemory
    → ((status ≡ Size) × RoseAt (λ c. c.overruns) (names_of (talk_inputs talk)) shelf_before shelf_after (λ name. Unit {0}))
    ⊎ TalkDid talk watches before after status

-- So a body that asks for a line ahead is refused, whatever the devices are: if anything is said to the first line, then something had
-- been printed when the second one was asked for.
abbrev pub AheadIsRefused : Type 0
AheadIsRefused = (session : SessionOf) (first second : List ℕ) (rest : List (List ℕ)) (before after : TalkLogs) →
    before.printed ≡ [] → before.printed_before ≡ [] → (line_said 1 first session).text ≢ [] →
    Heard (first ∷ second ∷ rest) session before after → get_or after.printed_before 1 0 ≢ 0

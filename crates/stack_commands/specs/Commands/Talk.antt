-- A session that is asked line by line: what it says to lines as they come, and how that ends.
use Rattle.std.specs.Prelude.{◌+◌, ◌-◌, ◌^◌, ℕ, min, List, [], ◌∷◌, ◌++◌, Option, Some, None, Result, Ok, Err}
use Rattle.debug_script.specs.{declared.fault.ScriptFault.{ScriptFault}, declared.reading.Line.{Line}, Scripts.{script_of}}
use Rattle.debug_script.specs.declared.fault.ScriptFault.TheVariants as script
use Rattle.level_debuggers.specs.{declared.script_end.ScriptEnd.{ScriptEnd}, Transcripts.{Followed, followed}, Walks.{SessionOf}}
use Rattle.level_debuggers.specs.Levels.{LevelOf}
use Rattle.level_debuggers.specs.declared.script_end.ScriptEnd.TheVariants as end
use Rattle.command_replies.specs.{declared.reply.Verdict.{Verdict}, declared.reply.Verdict.TheVariants.{Script}, Replies.{ReplyOf}}
use Rattle.stack_commands.specs.{Commands.Debug.{end_verdict}, declared.talking.TalkEnd.{TalkEnd}}
use Rattle.stack_commands.specs.declared.talking.TalkEnd.TheVariants as talk

-- the number of a line behind so many; numbers stop at the last of 32 bits
abbrev pub line_number : ℕ → ℕ
line_number before = min (before + 1) (2 ^ 32 - 1)

-- A line that came is a script of its own. How it ends is said with the line's number.
abbrev pub end_at : ℕ → ScriptEnd → Option TalkEnd
end_at number end.Done = None
end_at number (end.NoneWaits line) = Some (talk.Script (end.NoneWaits number))
end_at number (end.NoneAttached line) = Some (talk.Script (end.NoneAttached number))
end_at number (end.OtherLevel line) = Some (talk.Script (end.OtherLevel number))
end_at number (end.Error kind program place after) = Some (talk.Script (end.Error kind program place after))
end_at number (end.Outside address after) = Some (talk.Script (end.Outside address after))

-- how a script that was followed ends such a session: not at all where all of its lines were carried out
abbrev pub stop_of : ScriptEnd → Option TalkEnd
stop_of end.Done = None
stop_of e = Some (talk.Script e)

-- what was said, how it ended where it doesn't go on, and the session that is left
pub record Talked : Type 0 where
  pub text : List ℕ
  pub end : Option TalkEnd
  pub session : SessionOf

abbrev pub said_at : ℕ → Followed → Talked
said_at number made = record { text = made.text; end = end_at number made.end; session = made.session }

-- no definition runs out of memory
abbrev pub script_said : ℕ → SessionOf → Result (List Line) ScriptFault → Talked
script_said number s (Ok lines) = said_at number (followed [] lines s)
script_said number s (Err (script.Refused rule line)) = record { text = []; end = Some (talk.Refused rule number); session = s }
script_said number s (Err script.Memory) = record { text = []; end = None; session = s }

-- what a session says to a line with this number
abbrev pub line_said : ℕ → List ℕ → SessionOf → Talked
line_said number line s = script_said number s (script_of line)

-- first this was said; where that was no end, then the rest
abbrev pub talk_on : Talked → Option TalkEnd → Talked → Talked
talk_on first None rest = record { text = first.text ++ rest.text; end = rest.end; session = rest.session }
talk_on first (Some e) rest = first

-- what it says to lines that came behind so many others, up to the first that ends it
unfoldable pub talked : ℕ → List (List ℕ) → SessionOf → Talked
talked before [] s = record { text = []; end = None; session = s }
talked before (line ∷ lines) s =
    let first = line_said (line_number before) line s in talk_on first first.end (talked (before + 1) lines first.session)

-- how the command ends with its lines
abbrev pub talk_verdict : LevelOf → TalkEnd → Verdict
talk_verdict run (talk.Script e) = end_verdict run e
talk_verdict run (talk.Refused rule line) = Script rule line

-- what was said, and the last line
abbrev pub talk_reply : Talked → TalkEnd → ReplyOf
talk_reply said e = record { said = said.text; verdict = talk_verdict said.session.level e; state = None }

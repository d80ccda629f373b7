-- The command `debug`.
use Rattle.std.specs.Prelude.{ℕ, List, [], Option, Some, None, Result, Ok, Err}
use Rattle.stack_text.specs.Results.{◌>>=◌}
use Rattle.debug_script.specs.{declared.fault.ScriptFault.{ScriptFault}, declared.reading.Line.{Line}, Scripts.{script_of}}
use Rattle.debug_script.specs.declared.fault.ScriptFault.TheVariants as script
use Rattle.level_debuggers.specs.{declared.script_end.ScriptEnd.{ScriptEnd}, Transcripts.{Followed, followed}}
use Rattle.level_debuggers.specs.{declared.runner.Runner.{Runner}, Levels.{LevelOf, level_of, program_named}, Tallies.{Watching}}
use Rattle.level_debuggers.specs.Walks.{SessionOf}
use Rattle.level_debuggers.specs.declared.script_end.ScriptEnd.TheVariants as end
use Rattle.gypsy_syntax.specs.Sources.{SourceOf}
use Rattle.gypsy_space.specs.Needs.{StackSizes, stack_sizes}
use Rattle.level_debuggers.specs.Levels as level
use Rattle.piton_semantics.specs.declared.error_kind.ErrorKind.{ErrorKind}
use Rattle.stack_build.specs.{declared.start_fault.StartFault.{StartFault}, Starts.{gypsy_start, system_start, image_start}}
use Rattle.command_line.specs.{declared.words.reader.Level.{Level}, declared.words.reader.Level.TheVariants.{Gypsy, Piton, Fm9001}}
use Rattle.command_replies.specs.{declared.reply.Verdict.{Verdict}, declared.reply.Verdict.TheVariants.{Done, Usage, Outside, Error}}
use Rattle.command_replies.specs.{declared.reply.Verdict.TheVariants.{Script}, Replies.{ReplyOf, verdict_alone}}
use Rattle.stack_commands.specs.Commands.SourceText.{accepted_in, start_verdict}

-- 1. The run that a session begins with.

-- of a source, at a level, on the values of a text
abbrev pub run_at : Level → SourceOf → StackSizes → List ℕ → Result LevelOf StartFault
run_at Gypsy source sizes values =
    gypsy_start source sizes values >>= λ seen. Ok (level.Gypsy record { source = source; seen = seen })
run_at Piton source sizes values =
    system_start source sizes values
    >>= λ start. Ok (level.Piton record { checked = start.checked; image = start.image; seen = start.state })
run_at Fm9001 source sizes values =
    image_start source sizes values >>= λ start. Ok (level.Fm record { image = start.0; state = start.1 })

abbrev pub or_verdict : Result LevelOf StartFault → Result LevelOf Verdict
or_verdict (Ok run) = Ok run
or_verdict (Err fault) = Err (start_verdict fault)

-- of the source in a text, or how the command ends where there is none
unfoldable pub run_in : Level → List ℕ → StackSizes → List ℕ → Result LevelOf Verdict
run_in level text sizes values = accepted_in text >>= λ source. or_verdict (run_at level source sizes values)

-- what a call found, as the definition has it
abbrev pub found_run : Result Runner Verdict → Result LevelOf Verdict
found_run (Ok runner) = Ok (level_of runner)
found_run (Err verdict) = Err verdict

-- 2. The script.

-- a session that has made no step, with these watches waiting
abbrev pub session_on : LevelOf → List Watching → SessionOf
session_on run watches = record { level = run; steps = 0; waiting = watches; attached = [] }

-- an error is one of a program of Piton: the other levels have no programs, and no errors
abbrev pub error_verdict : ErrorKind → Option (List ℕ) → ℕ → ℕ → Verdict
error_verdict kind None place after = Usage
error_verdict kind (Some name) place after = Error kind name place after

-- how the command ends with its script
abbrev pub end_verdict : LevelOf → ScriptEnd → Verdict
end_verdict run end.Done = Done
end_verdict run (end.Error kind program place after) = error_verdict kind (program_named run program) place after
end_verdict run (end.Outside address after) = Outside address after
end_verdict run (end.NoneWaits line) = Script 4 line
end_verdict run (end.NoneAttached line) = Script 5 line
end_verdict run (end.OtherLevel line) = Script 7 line

-- what the session has said, and how its script ended
abbrev pub followed_reply : Followed → ReplyOf
followed_reply made = record { said = made.text; verdict = end_verdict made.session.level made.end; state = None }

unfoldable pub lines_reply : LevelOf → List Watching → List Line → ReplyOf
lines_reply run watches lines = followed_reply (followed [] lines (session_on run watches))

-- the rule that a script breaks, and at which line; no definition runs out of memory
abbrev pub script_verdict : ScriptFault → Verdict
script_verdict (script.Refused rule line) = Script rule line
script_verdict script.Memory = Usage

abbrev pub script_reply : LevelOf → List Watching → Result (List Line) ScriptFault → ReplyOf
script_reply run watches (Err fault) = verdict_alone (script_verdict fault)
script_reply run watches (Ok lines) = lines_reply run watches lines

-- 3. Together: the run is found before the script is read.

abbrev pub session_reply : Result LevelOf Verdict → List Watching → List ℕ → ReplyOf
session_reply (Err verdict) watches script = verdict_alone verdict
session_reply (Ok run) watches script = script_reply run watches (script_of script)

abbrev pub debug_reply : Level → List ℕ → List ℕ → ℕ → ℕ → List ℕ → List Watching → ReplyOf
debug_reply level source values control temporary script watches =
    session_reply (run_in level source (stack_sizes control temporary) values) watches script

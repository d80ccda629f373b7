-- What is left of a command once its file is stored, a session too, as the reply that it leads to.
use Rattle.std.specs.Prelude.{List, None}
use Rattle.level_debuggers.specs.{Levels.{IsRunner, level_of}, Tallies.{Watching}}
use Rattle.command_replies.specs.{declared.plan.Plan.{Plan}, declared.reply.Reply.{Reply}, Plans.{pending_reply}, Replies.{ReplyOf}}
use Rattle.stack_commands.specs.{declared.script_run.ScriptRun.{ScriptRun}, declared.work.Ending.{Ending}, declared.work.Left.{Left}}
use Rattle.stack_commands.specs.{declared.work.Work.{Work}, Commands.Debug.{lines_reply}}
use Rattle.stack_commands.specs.declared.work.Ending.TheVariants as ending
use Rattle.stack_commands.specs.declared.work.Left.TheVariants as left

-- a plan as the work of a command
abbrev pub work_of : Plan → Work
work_of plan = record { stored = plan.stored; left = left.Pending plan.pending }

-- what a session with these watches replies to a script
abbrev pub script_run_reply : List Watching → ScriptRun → ReplyOf
script_run_reply watches run = lines_reply (level_of run.runner) watches run.lines.items

abbrev pub left_reply : List Watching → Left → ReplyOf
left_reply watches (left.Pending pending) = pending_reply pending
left_reply watches (left.Session run) = script_run_reply watches run

-- the reply by which a command ends; a session runs no machine that is kept
abbrev pub session_end : ReplyOf → Reply
session_end reply = record { said = reply.said; verdict = reply.verdict; machine = None }

abbrev pub ending_reply : List Watching → Ending → Reply
ending_reply watches (ending.Reply reply) = reply
ending_reply watches (ending.Session run) = session_end (script_run_reply watches run)

-- the parts of a run that a session is to follow belong together
abbrev pub IsLeft : Left → Type 0
IsLeft (left.Pending pending) = Unit {0}
IsLeft (left.Session run) = IsRunner run.runner

abbrev pub IsEnding : Ending → Type 0
IsEnding (ending.Reply reply) = Unit {0}
IsEnding (ending.Session run) = IsRunner run.runner

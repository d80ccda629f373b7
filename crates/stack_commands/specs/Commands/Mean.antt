-- The command `mean`.
use Rattle.std.specs.{Prelude.{ℕ, List, ◌++◌, Result, Ok, Err, codes}, Fmt.{decimal}}
use Rattle.stack_text.specs.{Values.{ValueOf}, Lines.{line}}
use Rattle.gypsy_syntax.specs.Sources.{SourceOf}
use Rattle.gypsy_space.specs.Needs.{StackSizes, stack_sizes}
use Rattle.gypsy_semantics.specs.{declared.conditions.Current.{Current}, declared.answers.MeanRun.{MeanRun}, Views.RunView.{Seen, Ran}}
use Rattle.gypsy_semantics.specs.{Views.RunView.{meaning_run, values_at}, Views.Shown.{condition_at, names_at}}
use Rattle.gypsy_semantics.specs.declared.answers.MeanRun.TheVariants as run
use Rattle.display_maps.specs.Running.{run_lines}
use Rattle.stack_build.specs.{declared.start_fault.StartFault.{StartFault}, Starts.{gypsy_start}}
use Rattle.command_replies.specs.{declared.reply.Verdict.{Verdict}, declared.reply.Verdict.TheVariants.{Unfinished}, Replies.{ReplyOf}}
use Rattle.command_replies.specs.Replies.{verdict_alone, all_said}
use Rattle.stack_commands.specs.Commands.SourceText.{accepted_in, start_verdict}

-- so many steps at this cost, a condition, and variables by their names and values
abbrev pub said_text : ℕ → ℕ → Current → List (List ℕ) → List ValueOf → List ℕ
said_text steps counted condition names values =
    line (codes "steps " ++ decimal steps) ++ line (codes "counted " ++ decimal counted) ++ run_lines condition names values

-- what is said of a run that ended
abbrev pub ended_text : SourceOf → Seen → List ℕ
ended_text source seen =
    said_text seen.steps seen.counted (condition_at source seen.stage) (names_at source seen.stage) (values_at seen.stage)

-- how a run of at most so many steps ended
abbrev pub mean_end_reply : SourceOf → ℕ → MeanRun → Seen → ReplyOf
mean_end_reply source limit run.Ended seen = all_said (ended_text source seen)
mean_end_reply source limit run.Spent seen = verdict_alone (Unfinished limit)

abbrev pub mean_ran_reply : SourceOf → ℕ → Ran → ReplyOf
mean_ran_reply source limit ran = mean_end_reply source limit ran.run ran.seen

-- the run of a source's steps from a state on
unfoldable pub mean_run_reply : SourceOf → Seen → ℕ → ReplyOf
mean_run_reply source from limit = mean_ran_reply source limit (meaning_run limit from)

-- the same from the start, or why there is none
abbrev pub mean_started_reply : SourceOf → ℕ → Result Seen StartFault → ReplyOf
mean_started_reply source limit (Err fault) = verdict_alone (start_verdict fault)
mean_started_reply source limit (Ok from) = mean_run_reply source from limit

-- the run of a source with stacks of these sizes, on the values of a text
abbrev pub mean_source_reply : SourceOf → StackSizes → List ℕ → ℕ → ReplyOf
mean_source_reply source sizes values limit = mean_started_reply source limit (gypsy_start source sizes values)

abbrev pub mean_accepted_reply : Result SourceOf Verdict → StackSizes → List ℕ → ℕ → ReplyOf
mean_accepted_reply (Err verdict) sizes values limit = verdict_alone verdict
mean_accepted_reply (Ok source) sizes values limit = mean_source_reply source sizes values limit

-- the run of the source in a text
abbrev pub mean_reply : List ℕ → List ℕ → ℕ → ℕ → ℕ → ReplyOf
mean_reply text values control temporary limit =
    mean_accepted_reply (accepted_in text) (stack_sizes control temporary) values limit

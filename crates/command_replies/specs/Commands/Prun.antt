-- The command `prun`.
use Rattle.std.specs.{Prelude.{ℕ, List, [], ◌++◌, Result, Ok, Err, reverse, slice_index_or, codes}, List.{flat_map, enumerate_from}}
use Rattle.std.specs.Fmt.{decimal}
use Rattle.piton_words.specs.declared.word.Word.{Word}
use Rattle.piton_syntax.specs.Systems.{AreaOf, SystemOf}
use Rattle.piton_check.specs.{PitonChecking.{CheckedOf}, NamedWords.{program_name_at, words_line}}
use Rattle.piton_semantics.specs.{declared.stepped.PitonRun.{PitonRun}, declared.stepped.PitonRun.TheVariants.{Halted, Spent, Error}}
use Rattle.piton_semantics.specs.{Fits.{system_in}, StateView.{Seen, Ran, state_run, opening}}
use Rattle.stack_text.specs.Lines.{line}
use Rattle.command_replies.specs.{declared.reply.Verdict.{Verdict}, Replies.{ReplyOf, verdict_alone, all_said}}
use Rattle.command_replies.specs.Commands.PitonText.{checked_in}
use Rattle.command_replies.specs.declared.reply.Verdict.TheVariants as verdict

-- an area's name and its words
abbrev pub area_line : SystemOf → List (List Word) → ℕ × AreaOf → List ℕ
area_line system areas area = words_line system area.1.name.name (slice_index_or areas area.0 [])

-- what is said of a state that has halted: its counts, a line for each area, and the stack from the bottom up
abbrev pub halted_text : SystemOf → Seen → List ℕ
halted_text system seen =
    line (codes "halted " ++ decimal seen.steps) ++ line (codes "counted " ++ decimal seen.counted)
    ++ flat_map (area_line system seen.state.areas) (enumerate_from 0 system.areas)
    ++ words_line system (codes "stack") (reverse seen.state.stack)

-- how a run of at most so many steps ended, by the state that it came to
abbrev pub run_end_reply : SystemOf → ℕ → PitonRun → Seen → ReplyOf
run_end_reply system limit Halted seen = all_said (halted_text system seen)
run_end_reply system limit Spent seen = verdict_alone (verdict.Unfinished limit)
run_end_reply system limit (Error kind) seen =
    verdict_alone (verdict.Error kind (program_name_at system seen.state.program) seen.state.place seen.steps)

abbrev pub ran_reply : SystemOf → ℕ → Ran → ReplyOf
ran_reply system limit ran = run_end_reply system limit ran.run ran.seen

-- the run of a checked system from its opening state
unfoldable pub system_run_reply : CheckedOf → ℕ → ReplyOf
system_run_reply checked limit =
    let system = system_in checked in ran_reply checked.system limit (state_run system limit (opening system system.stack))

abbrev pub checked_run_reply : Result CheckedOf Verdict → ℕ → ReplyOf
checked_run_reply (Ok checked) limit = system_run_reply checked limit
checked_run_reply (Err verdict) limit = verdict_alone verdict

-- the run of a Piton text, for at most so many steps
abbrev pub prun_reply : List ℕ → ℕ → ReplyOf
prun_reply text limit = checked_run_reply (checked_in text) limit

-- What is told of tasks that took turns, by how each of them stands.
use Rattle.std.specs.{Prelude.{◌≡◌, ℕ, ◌+◌, ◌^◌, ◌<◌, List, [], ◌∷◌, ◌++◌, Bool, true, false, None, replicate}, List.{list_all}}
use Rattle.fm_image.specs.Image.{ImageOf}
use Rattle.display_maps.specs.{Reading.{ReadingOf, reading}, Report.{report_text}}
use Rattle.fm_turns.specs.{declared.context.TaskContext.{TaskContext}, declared.task.Task.{Task}, declared.task.Task.TheVariants.{Running}}
use Rattle.fm_turns.specs.{declared.task.Task.TheVariants.{Ended, Spent, Outside}, EqualTurns.{AreAll}, OwnMachines.{own_machine}}
use Rattle.fm_turns.specs.Turns.{TurnsOf, rounds_of, states_of}
use Rattle.command_replies.specs.declared.reply.Verdict.TheVariants as verdict
use Rattle.command_replies.specs.Replies.{ReplyOf, verdict_line}
use Rattle.stack_commands.specs.Commands.Turns.{round_line, tasks_verdict}

-- rounds with turns of one length were made, as many as it takes
pub record GoneRound (turn budget : ℕ) (before after : TurnsOf) : Type 0 where
  pub rounds : ℕ
  pub few : rounds < 2 ^ 64
  pub made : after ≡ rounds_of budget (replicate rounds turn) before
  pub all : AreAll turn budget rounds after

-- the round in which a task came to how it stands
abbrev pub round_in : Task → ℕ
round_in (Running count) = 0
round_in (Ended count round) = round
round_in (Spent count round) = round
round_in (Outside address count round) = round

-- what its run comes to, by what is read of it
abbrev pub end_text : ℕ → ImageOf → ReadingOf → Task → List ℕ
end_text budget image read (Running count) = verdict_line (verdict.Unfinished budget)
end_text budget image read (Ended count round) = report_text image read count
end_text budget image read (Spent count round) = verdict_line (verdict.Unfinished budget)
end_text budget image read (Outside address count round) = verdict_line (verdict.Outside address count)

abbrev pub told_task : ℕ → ℕ → Task → ImageOf → ReadingOf → List ℕ
told_task budget i state image read = round_line i (round_in state) ++ end_text budget image read state

-- the same of a task's context, among turns
abbrev pub told_of : ℕ → TurnsOf → ℕ → TaskContext → List ℕ
told_of budget turns i context = told_task budget i context.state context.image (reading context.image (own_machine turns context))

-- of all contexts, counted from i
abbrev pub told_from : ℕ → TurnsOf → ℕ → List TaskContext → List ℕ
told_from budget turns i [] = []
told_from budget turns i (context ∷ contexts) = told_of budget turns i context ++ told_from budget turns (i + 1) contexts

abbrev pub has_ended : Task → Bool
has_ended (Ended count round) = true
has_ended state = false

-- the reply once no task runs any more
abbrev pub told_reply : ℕ → TurnsOf → ReplyOf
told_reply budget turns = record {
  said = told_from budget turns 0 turns.contexts;
  verdict = tasks_verdict (list_all has_ended (states_of turns));
  state = None;
}

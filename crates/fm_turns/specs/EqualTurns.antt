-- Turns of one length, until no task runs any more.
use Rattle.std.specs.Prelude.{◌≡◌, ◌⊎◌, ℕ, ◌+◌, ◌*◌, ◌^◌, ◌<◌, ◌≤◌, ◌==◌, if◌then◌else◌, Bool, true, false, List, map, replicate, All, Ok}
use Rattle.std.specs.{List.{list_any}, Int.{div_ceil}}
use Rattle.fm_machine.specs.{Outcome.{RunOutcome, outcome}, declared.processor.Run.{Run}}
use Rattle.fm_machine.specs.declared.processor.Run.TheVariants as run
use Rattle.display_maps.specs.Reading.{reading}
use Rattle.fm_turns.specs.{declared.task.Task.{Task}, declared.task.Task.TheVariants.{Running, Ended, Spent, Outside}, Turns.{TurnsOf}}
use Rattle.fm_turns.specs.{Turns.{states_of, rounds_of}, Readings.{readings_of}, Starting.{NewTask, machine_of, started}}
use Rattle.fm_turns.specs.Alone.{StaysInside, round_of_end}

abbrev pub is_running : Task → Bool
is_running (Running count) = true
is_running task = false

-- a task runs
abbrev pub has_running : TurnsOf → Bool
has_running turns = list_any is_running (states_of turns)

-- With turns of one length the round in which they come to a count is the count divided by the length, rounded up.
abbrev pub RoundIsQuotient : Type 0
RoundIsQuotient =
    (turn rounds count : ℕ) → 1 ≤ turn → count ≤ rounds * turn → round_of_end count (replicate rounds turn) ≡ div_ceil count turn

-- these rounds with turns of one length have come to an end: as many as the budget asks for, or fewer where no task runs any more
pub record AreAll (turn budget rounds : ℕ) (turns : TurnsOf) : Type 0 where
  pub needed : rounds * turn < budget + turn
  pub enough : (budget ≤ rounds * turn) ⊎ (has_running turns ≡ false)

-- a task's run alone, within the budget
abbrev pub whole_run : ℕ → NewTask → RunOutcome
whole_run budget task = outcome budget task.image.final_pc (machine_of task)

-- how a task stands at the end, by its run alone; for a budget of 0 no round is made
abbrev pub state_at_end : ℕ → ℕ → Run → Task
state_at_end turn budget (run.Ended count) = Ended count (div_ceil count turn)
state_at_end turn budget run.Spent = if budget == 0 then Running 0 else Spent budget (div_ceil budget turn)
state_at_end turn budget (run.Outside address count) = Outside address count (div_ceil (count + 1) turn)

-- how each task stands, and what is read of it, are those of its run alone
pub record EndAsAlone (turn budget : ℕ) (tasks : List NewTask) (turns : TurnsOf) : Type 0 where
  pub states : states_of turns ≡ map (λ task. state_at_end turn budget (whole_run budget task).run) tasks
  pub readings : readings_of turns ≡ map (λ task. reading task.image (whole_run budget task).state) tasks

-- Tasks that keep to their own windows end, by turns of one length, as each of them ends alone within the budget.
abbrev pub EachEndsAsAlone : Type 0
EachEndsAsAlone =
    (tasks : List NewTask) (turns : TurnsOf) (turn budget rounds : ℕ)
    → started tasks ≡ Ok turns → All StaysInside tasks → 1 ≤ turn → rounds < 2 ^ 64
    → AreAll turn budget rounds (rounds_of budget (replicate rounds turn) turns)
    → EndAsAlone turn budget tasks (rounds_of budget (replicate rounds turn) turns)

-- Tasks that take turns, beside each of them alone.
use Rattle.std.specs.Prelude.{◌≡◌, ℕ, ◌+◌, ◌-◌, ◌^◌, ◌<◌, ◌==◌, ◌||◌, min, nat_le, nat_lt, if◌then◌else◌, List, [], ◌∷◌, length, map}
use Rattle.std.specs.Prelude.{flat_map, sum, All, Ok}
use Rattle.fm_machine.specs.{State.{Fm}, Run.{fm_run, Avoids, IsFirst}, Outcome.{IsOutcome, RunOutcome, outcome}}
use Rattle.fm_machine.specs.declared.processor.Run.{Run}
use Rattle.fm_machine.specs.declared.processor.Run.TheVariants as run
use Rattle.fm_image.specs.Image.{ImageOf}
use Rattle.fm_turns.specs.{declared.task.Task.{Task}, declared.task.Task.TheVariants.{Running, Ended, Spent, Outside}}
use Rattle.fm_turns.specs.{declared.context.TaskContext.{TaskContext}, Windows.{StaysInsideFrom}, Turns.{TurnsOf, rounds_of}}
use Rattle.fm_turns.specs.Starting.{NewTask, machine_of, first_base, started}

-- a task keeps to its own window: no step of its run, before the first stand at the final pc, needs an address outside it
abbrev pub StaysInside : NewTask → Type 0
StaysInside task = StaysInsideFrom (machine_of task) task.image.final_pc

-- ---- a task alone

-- its run to the final pc from the loaded machine, within the sum of the turns and the budget
abbrev pub alone : ℕ → List ℕ → NewTask → RunOutcome
alone budget lengths task = outcome (min (sum lengths) budget) task.image.final_pc (machine_of task)

-- the round in which turns of these lengths come to so many instructions
abbrev pub round_reaching : ℕ → List ℕ → ℕ
round_reaching count [] = 0
round_reaching count (turn ∷ lengths) = if nat_le count turn then 1 else 1 + round_reaching (count - turn) lengths

-- the round in which a run ended: none where that was at the start
abbrev pub round_of_end : ℕ → List ℕ → ℕ
round_of_end count lengths = if count == 0 then 0 else round_reaching count lengths

-- how a task stands that isn't at its final pc: spent in the round in which its turns came to the budget
abbrev pub running_or_spent_alone : ℕ → List ℕ → Task
running_or_spent_alone budget lengths =
    if length lengths == 0 || nat_lt (sum lengths) budget then Running (sum lengths) else Spent budget (round_reaching budget lengths)

-- how a task stands after turns of these lengths, by its run alone
abbrev pub state_alone : ℕ → List ℕ → Run → Task
state_alone budget lengths (run.Ended count) = Ended count (round_of_end count lengths)
state_alone budget lengths run.Spent = running_or_spent_alone budget lengths
state_alone budget lengths (run.Outside address count) = Outside address count (round_reaching (count + 1) lengths)

-- how many instructions a task has made
abbrev pub count_of : Task → ℕ
count_of (Running count) = count
count_of (Ended count number) = count
count_of (Spent count number) = count
count_of (Outside address count number) = count

abbrev pub count_alone : ℕ → List ℕ → NewTask → ℕ
count_alone budget lengths task = count_of (state_alone budget lengths (alone budget lengths task).run)

-- What a task does alone is its run of at most so many steps as the turns and the budget allow.
abbrev pub AloneIsRun : Type 0
AloneIsRun =
    (budget : ℕ) (lengths : List ℕ) (task : NewTask)
    → IsOutcome (machine_of task) task.image.final_pc (min (sum lengths) budget)
    (alone budget lengths task).run (alone budget lengths task).state

-- So its machine alone is the loaded machine after as many steps as it has made.
abbrev pub AloneIsCounted : Type 0
AloneIsCounted =
    (budget : ℕ) (lengths : List ℕ) (task : NewTask)
    → fm_run (count_alone budget lengths task) (machine_of task) ≡ Ok (alone budget lengths task).state

-- Where its run first comes to the final pc after so many steps, it has made the least of these, the turns' sum and the budget.
abbrev pub AloneIsLeast : Type 0
AloneIsLeast =
    (budget : ℕ) (lengths : List ℕ) (task : NewTask) (count : ℕ) (s : Fm) → IsFirst (machine_of task) task.image.final_pc count s
    → count_alone budget lengths task ≡ min count (min (sum lengths) budget)

-- Where it doesn't come there within these two, it has made as many as they allow.
abbrev pub AloneIsWhole : Type 0
AloneIsWhole =
    (budget : ℕ) (lengths : List ℕ) (task : NewTask)
    → StaysInside task → Avoids (machine_of task) task.image.final_pc (min (sum lengths) budget + 1)
    → count_alone budget lengths task ≡ min (sum lengths) budget

-- ---- all tasks

-- what a task has to itself, by the end of its run alone
abbrev pub context_after : ℕ → List ℕ → ImageOf → RunOutcome → TaskContext
context_after budget lengths image o =
    record {
      image = image;
      registers = o.state.registers;
      flags = o.state.flags;
      state = state_alone budget lengths o.run;
    }

abbrev pub context_alone : ℕ → List ℕ → NewTask → TaskContext
context_alone budget lengths task = context_after budget lengths task.image (alone budget lengths task)

-- tasks that ran alone, laid side by side
abbrev pub all_alone : ℕ → List ℕ → List NewTask → TurnsOf
all_alone budget lengths tasks =
    record {
      rounds = length lengths;
      base = first_base tasks;
      memory = flat_map (λ task. (alone budget lengths task).state.memory) tasks;
      contexts = map (context_alone budget lengths) tasks;
    }

-- Tasks that keep to their own windows come by any rounds with one budget to where each of them comes alone.
abbrev pub RoundsAsAlone : Type 0
RoundsAsAlone =
    (tasks : List NewTask) (turns : TurnsOf) (budget : ℕ) (lengths : List ℕ)
    → started tasks ≡ Ok turns → All StaysInside tasks → length lengths < 2 ^ 64
    → rounds_of budget lengths turns ≡ all_alone budget lengths tasks

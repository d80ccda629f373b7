-- Tasks that take turns in one memory.
use Rattle.std.specs.Prelude.{◌≡◌, ℕ, ◌+◌, ◌-◌, ◌^◌, ◌==◌, ◌≤◌, min, if◌then◌else◌, List, [], ◌∷◌, length, map, All}
use Rattle.fm_machine.specs.{State.{Fm}, Outcome.{RunOutcome, outcome}, declared.processor.Run.{Run}}
use Rattle.fm_image.specs.Image.{ImageOf}
use Rattle.fm_machine.specs.declared.processor.Run.TheVariants as run
use Rattle.fm_turns.specs.{declared.task.Task.{Task}, declared.task.Task.TheVariants.{Running, Ended, Spent, Outside}}
use Rattle.fm_turns.specs.{declared.context.TaskContext.{TaskContext}, declared.round.Round.{Round}}

-- what clauses see of a `Turns`: how many rounds were made, the one memory from its base on, and what each task has to itself
pub record TurnsOf : Type 0 where
  pub rounds : ℕ
  pub base : ℕ
  pub memory : List ℕ
  pub contexts : List TaskContext

-- ---- a turn

-- the machine at a task's turn: the task's registers and flags, and the memory of all
abbrev pub machine_at_turn : ℕ → List ℕ → TaskContext → Fm
machine_at_turn base memory context =
    record { base = base; registers = context.registers; flags = context.flags; memory = memory }

-- how many instructions a turn has at most: its length, or fewer where the budget leaves fewer
abbrev pub turn_length : Round → ℕ → ℕ
turn_length round count = min round.turn (round.budget - count)

-- how a task stands that has made so many instructions, and isn't at its final pc
abbrev pub running_or_spent : Round → ℕ → Task
running_or_spent round count = if count == round.budget then Spent count round.number else Running count

-- how a task stands that had made so many instructions, and whose turn ended so
abbrev pub state_after : Round → ℕ → Run → Task
state_after round count (run.Ended made) = Ended (count + made) round.number
state_after round count run.Spent = running_or_spent round (count + turn_length round count)
state_after round count (run.Outside address made) = Outside address (count + made) round.number

-- what a turn leaves: the memory of all, and what the task has to itself
pub record AfterTurn : Type 0 where
  pub memory : List ℕ
  pub context : TaskContext

-- what the run of a turn leaves
abbrev pub after_run : Round → TaskContext → ℕ → RunOutcome → AfterTurn
after_run round context count o =
    record {
      memory = o.state.memory;
      context = record context { registers = o.state.registers; flags = o.state.flags; state = state_after round count o.run };
    }

-- what the turn of a task leaves that stands so: only a running one runs, to its final pc at most
abbrev pub after_turn_in : Round → ℕ → List ℕ → TaskContext → Task → AfterTurn
after_turn_in round base memory context (Running count) =
    after_run round context count (outcome (turn_length round count) context.image.final_pc (machine_at_turn base memory context))
after_turn_in round base memory context (Ended count number) = record { memory = memory; context = context }
after_turn_in round base memory context (Spent count number) = record { memory = memory; context = context }
after_turn_in round base memory context (Outside address count number) = record { memory = memory; context = context }

abbrev pub after_turn : Round → ℕ → List ℕ → TaskContext → AfterTurn
after_turn round base memory context = after_turn_in round base memory context context.state

-- ---- a round

-- what the turns of all leave
pub record AfterTurns : Type 0 where
  pub memory : List ℕ
  pub contexts : List TaskContext

abbrev pub in_front : TaskContext → AfterTurns → AfterTurns
in_front context after = record { memory = after.memory; contexts = context ∷ after.contexts }

-- a turn for each task in order, each on the memory that the one before it left
unfoldable pub after_turns : Round → ℕ → List ℕ → List TaskContext → AfterTurns
after_turns round base memory [] = record { memory = memory; contexts = [] }
after_turns round base memory (context ∷ contexts) =
    let one = after_turn round base memory context in
    in_front one.context (after_turns round base one.memory contexts)

-- the number of the next round, which stays at the last number of 64 bits
abbrev pub next_number : ℕ → ℕ
next_number rounds = min (rounds + 1) (2 ^ 64 - 1)

abbrev pub next_round : ℕ → ℕ → ℕ → Round
next_round rounds turn budget = record { number = next_number rounds; turn = turn; budget = budget }

-- a round in which each turn has so many instructions at most, and each task so many in all
abbrev pub round_of : ℕ → ℕ → TurnsOf → TurnsOf
round_of turn budget turns =
    let after = after_turns (next_round turns.rounds turn budget) turns.base turns.memory turns.contexts in
    record turns { rounds = next_number turns.rounds; memory = after.memory; contexts = after.contexts }

-- rounds with turns of these lengths, and one budget
abbrev pub rounds_of : ℕ → List ℕ → TurnsOf → TurnsOf
rounds_of budget [] turns = turns
rounds_of budget (turn ∷ lengths) turns = rounds_of budget lengths (round_of turn budget turns)

-- ---- what is seen of the tasks, and what they keep

abbrev pub images_of : TurnsOf → List ImageOf
images_of turns = map (λ context. context.image) turns.contexts

-- how each task stands
abbrev pub states_of : TurnsOf → List Task
states_of turns = map (λ context. context.state) turns.contexts

-- a running task has made no more instructions than the budget
abbrev pub IsWithin : ℕ → Task → Type 0
IsWithin budget (Running count) = count ≤ budget
IsWithin budget (Ended count number) = Unit {0}
IsWithin budget (Spent count number) = Unit {0}
IsWithin budget (Outside address count number) = Unit {0}

abbrev pub AreWithin : ℕ → List TaskContext → Type 0
AreWithin budget contexts = All (λ context. IsWithin budget context.state) contexts

-- an image's window is a part of a window
abbrev pub IsPart : ℕ → ℕ → ImageOf → Type 0
IsPart base size image = (base ≤ image.base) × (image.base + image.size ≤ base + size)

-- the windows are parts of the window of all
abbrev pub AreParts : TurnsOf → Type 0
AreParts turns = All (IsPart turns.base (length turns.memory)) (images_of turns)

-- a task that does not run
abbrev pub IsOver : Task → Type 0
IsOver (Running count) = ⊥
IsOver (Ended count number) = Unit {0}
IsOver (Spent count number) = Unit {0}
IsOver (Outside address count number) = Unit {0}

-- Once a task does not run, its turns change nothing.
abbrev pub OverIsOver : Type 0
OverIsOver =
    (round : Round) (base : ℕ) (memory : List ℕ) (context : TaskContext) → IsOver context.state
    → after_turn round base memory context ≡ record { memory = memory; context = context }

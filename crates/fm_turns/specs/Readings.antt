-- What the memory of all says of each task.
use Rattle.std.specs.Prelude.{◌≡◌, ℕ, ◌^◌, ◌<◌, List, length, map, All, Ok}
use Rattle.display_maps.specs.Reading.{ReadingOf, reading}
use Rattle.fm_turns.specs.{Turns.{TurnsOf, states_of, rounds_of}, OwnMachines.{own_machine, own_machines}, Starting.{NewTask, started}}
use Rattle.fm_turns.specs.Alone.{StaysInside, alone, state_alone}

-- what the words of each task's own window say
abbrev pub readings_of : TurnsOf → List ReadingOf
readings_of turns = map (λ context. reading context.image (own_machine turns context)) turns.contexts

-- how each task stands, its machine and its reading are those that it has alone, after turns of these lengths with one budget
pub record IsAsAlone (budget : ℕ) (lengths : List ℕ) (tasks : List NewTask) (turns : TurnsOf) : Type 0 where
  pub states : states_of turns ≡ map (λ task. state_alone budget lengths (alone budget lengths task).run) tasks
  pub machines : own_machines turns ≡ map (λ task. (alone budget lengths task).state) tasks
  pub readings : readings_of turns ≡ map (λ task. reading task.image (alone budget lengths task).state) tasks

-- Of tasks that keep to their own windows, each is after any rounds with one budget as it is alone.
abbrev pub EachAsAlone : Type 0
EachAsAlone =
    (tasks : List NewTask) (turns : TurnsOf) (budget : ℕ) (lengths : List ℕ)
    → started tasks ≡ Ok turns → All StaysInside tasks → length lengths < 2 ^ 64
    → IsAsAlone budget lengths tasks (rounds_of budget lengths turns)

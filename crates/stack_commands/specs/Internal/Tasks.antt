-- What the functions that make the tasks of `turns` say.
use Rattle.std.specs.Prelude.{◌≡◌, ◌≤◌, ◌^◌, ℕ, List, length, All, Option, Some, None, Ok}
use Rattle.stack_text.specs.SharedLimits.{most_tasks}
use Rattle.fm_turns.specs.{Alone.{StaysInside}, Starting.{NewTask, side_by_side, started}}
use Rattle.stack_commands.specs.{declared.turns.tasks.TasksFault.{TasksFault}, declared.turns.tasks.TasksFault.TheVariants.{Count, Refused}}
use Rattle.stack_commands.specs.declared.turns.tasks.TasksFault.TheVariants.{Large, Memory}

-- out of memory is no fault of a text
abbrev pub fault_of : TasksFault → Option TasksFault
fault_of Memory = None
fault_of Count = Some Count
fault_of (Refused number verdict) = Some (Refused number verdict)
fault_of (Large words) = Some (Large words)

-- texts of at most 2^31 bytes
abbrev pub TasksAreShort : List (List ℕ) → Type 0
TasksAreShort texts = All (λ text. length text ≤ 2 ^ 31) texts

-- the tasks can take turns, and none of them notices the others
pub record AreReady (tasks : List NewTask) : Type 0 where
  pub few : length tasks ≤ most_tasks
  pub starts : started tasks ≡ Ok (side_by_side tasks)
  pub stay : All StaysInside tasks

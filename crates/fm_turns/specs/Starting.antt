-- Tasks as they begin.
use Rattle.std.specs.Prelude.{ℕ, ◌+◌, ◌==◌, ◌&&◌, not, if◌then◌else◌, Bool, true, nat_le, nat_lt, List, [], ◌∷◌, length, map, flat_map}
use Rattle.std.specs.{Prelude.{sum_by, slice_index, All, Option, Some, None, Result, Ok, Err}, Global.{Vec}}
use Rattle.fm_words.specs.WindowLimit.{most_window}
use Rattle.stack_text.specs.{SharedLimits.{most_tasks}, Values.{ValueOf}}
use Rattle.fm_machine.specs.State.{Fm}
use Rattle.fm_image.specs.Image.{ImageOf}
use Rattle.fm_loader.specs.Loaded.{Fits, with_words, loaded}
use Rattle.fm_turns.specs.{declared.task.Task.{Task}, declared.task.Task.TheVariants.{Running, Ended}}
use Rattle.fm_turns.specs.{declared.context.TaskContext.{TaskContext}, declared.fault.TurnsFault.{TurnsFault}}
use Rattle.fm_turns.specs.{declared.fault.TurnsFault.TheVariants.{Count, Apart, Size, Memory}, Turns.{TurnsOf}}

-- what a task is made of: an image, and a value for each of its slots
pub record NewTask : Type 0 where
  pub image : ImageOf
  pub values : List ValueOf

abbrev pub new_task : ImageOf → List ValueOf → NewTask
new_task image values = record { image = image; values = values }

-- the tasks of a list of pairs
abbrev pub new_tasks : List (ImageOf × Vec ValueOf) → List NewTask
new_tasks pairs = map (λ pair. new_task pair.0 pair.1.items) pairs

-- values that fit their slots
abbrev pub AllFit : List NewTask → Type 0
AllFit tasks = All (λ task. Fits task.image.slots task.values) tasks

-- the machine that the task is loaded into alone
abbrev pub machine_of : NewTask → Fm
machine_of task = loaded task.image task.values

-- a task at its final pc at the start has ended
abbrev pub state_at_start : ℕ → Fm → Task
state_at_start final_pc s = if slice_index s.registers 15 == final_pc then Ended 0 0 else Running 0

-- the registers and flags of its own machine
abbrev pub context_of : ImageOf → Fm → TaskContext
context_of image s =
    record { image = image; registers = s.registers; flags = s.flags; state = state_at_start image.final_pc s }

-- ---- the window of all

abbrev pub first_base : List NewTask → ℕ
first_base [] = 0
first_base (task ∷ others) = task.image.base

-- each window begins where the one before it ends
abbrev pub adjoin_from : ℕ → List NewTask → Bool
adjoin_from from [] = true
adjoin_from from (task ∷ others) = task.image.base == from && adjoin_from (from + task.image.size) others

abbrev pub adjoin : List NewTask → Bool
adjoin tasks = adjoin_from (first_base tasks) tasks

abbrev pub total_size : List NewTask → ℕ
total_size tasks = sum_by (λ task. task.image.size) tasks

-- the size of the window of all, or why the tasks can't take turns
unfoldable pub window_size : List NewTask → Result ℕ TurnsFault
window_size tasks =
    if not (nat_le 1 (length tasks) && nat_le (length tasks) most_tasks) then Err Count else
    if not (adjoin tasks) then Err Apart else
    if nat_lt most_window (total_size tasks) then Err (Size (total_size tasks)) else Ok (total_size tasks)

-- ---- before the first round

-- the tasks side by side, each as it is loaded alone
abbrev pub side_by_side : List NewTask → TurnsOf
side_by_side tasks =
    record {
      rounds = 0;
      base = first_base tasks;
      memory = flat_map (λ task. (machine_of task).memory) tasks;
      contexts = map (λ task. context_of task.image (machine_of task)) tasks;
    }

-- the tasks as they begin, or why they can't take turns
abbrev pub started_in : Result ℕ TurnsFault → List NewTask → Result TurnsOf TurnsFault
started_in (Ok size) tasks = Ok (side_by_side tasks)
started_in (Err fault) tasks = Err fault

abbrev pub started : List NewTask → Result TurnsOf TurnsFault
started tasks = started_in (window_size tasks) tasks

-- out of memory alone is free
abbrev pub fault_of : TurnsFault → Option TurnsFault
fault_of Memory = None
fault_of Count = Some Count
fault_of Apart = Some Apart
fault_of (Size words) = Some (Size words)

-- the words of each task's own machine stored in a memory from base on
abbrev pub with_tasks : ℕ → List NewTask → List ℕ → List ℕ
with_tasks base [] memory = memory
with_tasks base (task ∷ others) memory =
    with_tasks base others (with_words base task.image.base (machine_of task).memory memory)

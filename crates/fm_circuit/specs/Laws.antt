-- The laws of the processor.
use Rattle.std.specs.Prelude.{◌≡◌, ℕ, ◌*◌, ◌<◌, ◌≤◌, List, Ok, Err}
use Rattle.fm_words.specs.Code.{no_flags}
use Rattle.fm_machine.specs.{State.{Fm}, Step.{fm_step}, Run.{fm_run, IsFirst}, declared.fault.Outside.{Outside}}
use Rattle.fm_circuit.specs.{declared.wire.Wire.{Wire}, Circuit.{Kept, driven, settled}, Processor.{driver_of}, Board.{Board, cycles}}
use Rattle.fm_circuit.specs.{Board.{reset_cycle, levels}, Following.{HasWords, StandsFor, HasStopped, IsBusy, IsAt, step_cycles}}
use Rattle.fm_circuit.specs.Following.{run_cycles}

-- Nine levels of logic are enough: each wire is then what its driver gives. And no other values are so, whatever they come from: the wires
-- have one solution.
pub record HaveSettled (kept : Kept) (inputs : List ℕ) : Type 0 where
  pub is : (wire : Wire) → driven kept inputs (settled levels kept inputs) (driver_of wire) ≡ settled levels kept inputs wire
  pub only : (on : Wire → ℕ) → ((wire : Wire) → on wire ≡ driven kept inputs on (driver_of wire)) →
      (wire : Wire) → on wire ≡ settled levels kept inputs wire

abbrev pub Settles : Type 0
Settles = (kept : Kept) (inputs : List ℕ) → HaveSettled kept inputs

-- a board that has made the step of its machine
pub record Makes (b : Board) (s t : Fm) : Type 0 where
  pub there : StandsFor (cycles (step_cycles s) b) t
  pub busy : IsBusy b (step_cycles s)
  pub few : step_cycles s ≤ 8
  pub words : HasWords t

-- where a machine's step gives a state, the board stands for it after exactly the step's cycles, and not before
abbrev pub Steps : Type 0
Steps = (b : Board) (s t : Fm) → StandsFor b s → HasWords s → fm_step s ≡ Ok t → Makes b s t

-- a board that has stopped, and stays so
pub record Stops (b : Board) (address : ℕ) : Type 0 where
  pub count : ℕ
  pub few : count ≤ 8
  pub there : HasStopped (cycles count b) address
  pub busy : IsBusy b count
  pub stays : (n : ℕ) → HasStopped (cycles n (cycles count b)) address

-- where a machine's step needs an address outside its window, the board stops with that address
abbrev pub Faults : Type 0
Faults = (b : Board) (s : Fm) (e : Outside) → StandsFor b s → HasWords s → fm_step s ≡ Err e → Stops b e.address

-- a board that has made a number of steps of its machine
pub record Made (b : Board) (s : Fm) (k : ℕ) (t : Fm) : Type 0 where
  pub there : StandsFor (cycles (run_cycles k s) b) t
  pub few : run_cycles k s ≤ 8 * k
  pub words : HasWords t

-- where a machine comes to a state in k steps, the board stands for it after the cycles of these steps
abbrev pub Runs : Type 0
Runs = (b : Board) (s : Fm) (k : ℕ) (t : Fm) → StandsFor b s → HasWords s → fm_run k s ≡ Ok t → Made b s k t

-- a board that has come to an address, for the first time
pub record Came (b : Board) (s : Fm) (pc k : ℕ) (t : Fm) : Type 0 where
  pub made : Made b s k t
  pub there : IsAt pc (cycles (run_cycles k s) b)
  pub before : (j : ℕ) → j < run_cycles k s → ¬ (IsAt pc (cycles j b))

-- where a machine first comes to an address in k steps, so does the board in the cycles of these steps
abbrev pub Ends : Type 0
Ends = (b : Board) (s : Fm) (pc k : ℕ) (t : Fm) → StandsFor b s → HasWords s → IsFirst s pc k t → Came b s pc k t

-- the machine of a board's register file and window, with no flag set
abbrev pub machine_of : Board → Fm
machine_of b = record { registers = b.kept.file; flags = no_flags; base = b.base; memory = b.memory }

-- From whatever a board holds, after a cycle with a reset it stands for the machine of its register file and window. So a reset
-- writes no register of the file, and no memory.
abbrev pub Begins : Type 0
Begins = (b : Board) → StandsFor (reset_cycle b) (machine_of b)

-- where a machine needs an address outside its window after k steps, the board stops there, within eight cycles of the
-- last step
abbrev pub Ceases : Type 0
Ceases = (b : Board) (s : Fm) (k : ℕ) (t : Fm) (e : Outside) → StandsFor b s → HasWords s →
    fm_run k s ≡ Ok t → fm_step t ≡ Err e → Stops (cycles (run_cycles k s) b) e.address

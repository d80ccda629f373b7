-- What is known of the devices and of the place for the machine, before a call or after it.
use Rattle.std.specs.Prelude.{ℕ, List, Option}
use Rattle.fm_machine.specs.State.{MachineOf}
use Rattle.stack_shelf.specs.{Files.{Files}, Causes.{Counts}}

-- a shelf: its files, where they are known, and its counts
pub record ShelfOf : Type 0 where
  pub files : Option Files
  pub counts : Counts

abbrev pub shelf_of : Option Files → Counts → ShelfOf
shelf_of files counts = record { files = files; counts = counts }

-- the bytes that the sink has taken, where they are known, how often it failed, and the place for the machine
pub record OutOf : Type 0 where
  pub taken : Option (List ℕ)
  pub faults : ℕ
  pub kept : Option MachineOf

abbrev pub out_of : Option (List ℕ) → ℕ → Option MachineOf → OutOf
out_of taken faults kept = record { taken = taken; faults = faults; kept = kept }

pub record World : Type 0 where
  pub shelf : ShelfOf
  pub out : OutOf

abbrev pub world : Option Files → Counts → Option (List ℕ) → ℕ → Option MachineOf → World
world files counts taken faults kept = record { shelf = shelf_of files counts; out = out_of taken faults kept }

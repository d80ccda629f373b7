-- A walk makes the steps of what the run is a run of.
use Rattle.std.specs.Prelude.{◌≡◌, ◌^◌, ◌<◌, ℕ, Ok, length}
use Rattle.fm_machine.specs.State as machine
use Rattle.fm_machine.specs.Run.{Avoids, IsFirst, fm_run}
use Rattle.debug_script.specs.declared.command.Place.TheVariants.{Number}
use Rattle.piton_semantics.specs.{Fits.{system_in}, Law.{Steps, advanced}, State.{PitonState}}
use Rattle.level_debuggers.specs.{Arrivals.{IsFirstArrival}, FmLevels.{FmLevelOf}, Levels.{LevelOf, Piton, Fm}, PitonLevels.{PitonLevelOf}}
use Rattle.level_debuggers.specs.Walks.{walk}

-- so many steps can be made, and lead there
pub record WalksTo (n : ℕ) (level to : LevelOf) : Type 0 where
  pub whole : length (walk n level).events ≡ n
  pub leads : (walk n level).level ≡ to

-- of the processor, inside the window and not from the final program counter on
abbrev pub MachinesWalk : Type 0
MachinesWalk = (n : ℕ) (run : FmLevelOf) (t : machine.Fm) → fm_run n run.state ≡ Ok t → Avoids run.state run.image.final_pc n →
    WalksTo n (Fm run) (Fm (record run { state = t }))

-- So a session arrives at an address where the processor's r15 is the address first, if the end doesn't come before.
abbrev pub MachinesArrive : Type 0
MachinesArrive = (address k : ℕ) (run : FmLevelOf) (t : machine.Fm) → IsFirst run.state address k t →
    Avoids run.state run.image.final_pc k → IsFirstArrival (Number address) k (Fm run)

-- of Piton's machine, none of them an error or from a halted state
abbrev pub SystemsWalk : Type 0
SystemsWalk = (n cost : ℕ) (run : PitonLevelOf) (q : PitonState) → Steps (system_in run.checked) n cost run.seen.state q →
    run.seen.steps < 2 ^ 64 → run.seen.counted < 2 ^ 64 →
    WalksTo n (Piton run) (Piton (record run { seen = advanced run.seen n cost q }))

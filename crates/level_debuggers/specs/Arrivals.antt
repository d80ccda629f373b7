-- Arrivals at a place, or at one of several.
use Rattle.std.specs.{Prelude.{◌≡◌, ◌<◌, ℕ, ◌+◌, List, Option, Some, None, Bool, true, false}, List.{find, range_with_len}}
use Rattle.debug_script.specs.declared.command.Place.{Place}
use Rattle.level_debuggers.specs.{declared.arrival.Arrival.{Arrival}, Levels.{LevelOf, stands_at, stands_at_one}, Walks.{SessionOf}}
use Rattle.level_debuggers.specs.Walks.{stepped, walk}
use Rattle.level_debuggers.specs.declared.arrival.Arrival.TheVariants as arrival

-- so many steps lead a run for the first time to where a test holds
pub record IsFirstTime (test : LevelOf → Bool) (k : ℕ) (level : LevelOf) : Type 0 where
  pub stands : test (walk k level).level ≡ true
  pub first : (j : ℕ) → j < k → test (walk j level).level ≡ false

-- to a place, or to one of several
abbrev pub IsFirstArrival : Place → ℕ → LevelOf → Type 0
IsFirstArrival there k level = IsFirstTime (stands_at there) k level

abbrev pub IsFirstOfAny : List Place → ℕ → LevelOf → Type 0
IsFirstOfAny places k level = IsFirstTime (stands_at_one places) k level

-- after how many steps a test of a run first holds, if after at most n
unfoldable pub first_where : (LevelOf → Bool) → ℕ → LevelOf → Option ℕ
first_where test n level = find (λ k. test (walk k level).level) (range_with_len 0 (n + 1))

abbrev pub first_arrival : Place → ℕ → LevelOf → Option ℕ
first_arrival there n level = first_where (stands_at there) n level

-- the answer of a call, and the session that it leaves
pub record Arrived : Type 0 where
  pub arrival : Arrival
  pub session : SessionOf

-- to the first arrival; or else all n steps, as without a place
abbrev pub arrived_by : ℕ → SessionOf → Option ℕ → Arrived
arrived_by n s (Some k) = record { arrival = arrival.There k; session = (stepped k s).session }
arrived_by n s None = let made = stepped n s in record { arrival = arrival.Elsewhere made.run; session = made.session }

abbrev pub arrived_where : (LevelOf → Bool) → ℕ → SessionOf → Arrived
arrived_where test n s = arrived_by n s (first_where test n s.level)

-- a call that is asked for at most n steps, to a place, or to one of several
abbrev pub arrived : Place → ℕ → SessionOf → Arrived
arrived there n s = arrived_where (stands_at there) n s

abbrev pub arrived_at_one : List Place → ℕ → SessionOf → Arrived
arrived_at_one places n s = arrived_where (stands_at_one places) n s

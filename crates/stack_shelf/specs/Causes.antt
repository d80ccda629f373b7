-- Counts that never fall, one of each kind for each name.
use Rattle.std.specs.Prelude.{ℕ, ◌+◌, ◌-◌, ◌^◌, ◌≤◌, min, List}

-- how often each went wrong, for each name: a call failed, a file was not there, a file was over the limit
pub record Counts : Type 0 where
  pub faults : List ℕ → ℕ
  pub absences : List ℕ → ℕ
  pub overruns : List ℕ → ℕ

-- a count went up, or can go no higher: it is the last value of its type
abbrev pub Rose : ℕ → ℕ → Type 0
Rose before after = min (before + 1) (2 ^ 64 - 1) ≤ after

-- no count fell
pub record NoneFell (before after : Counts) : Type 0 where
  pub faults : (name : List ℕ) → before.faults name ≤ after.faults name
  pub absences : (name : List ℕ) → before.absences name ≤ after.absences name
  pub overruns : (name : List ℕ) → before.overruns name ≤ after.overruns name

-- one more, up to the last value of its type
abbrev pub saturating_increment : ℕ → ℕ
saturating_increment n = min (n + 1) (2 ^ 64 - 1)

-- What a shelf, a sink and lines in memory are.
use Rattle.std.specs.Prelude.{ℕ, Bool, List, ◌++◌, take, drop, length, Option, Some, None, unwrap_or, Result, Ok, Err, String, ◌==◌}
use Rattle.std.specs.{Prelude.{map, find}, Option.{option_map}, List.{list_any}}
use Rattle.std.specs.{Global.{Vec, Global}, String.{string_bytes}}
use Rattle.stack_shelf.specs.{Causes.{Counts, saturating_increment}, Files.{Files, put_file}, declared.fault.FetchFault.{FetchFault}}
use Rattle.stack_shelf.specs.{declared.fault.StoreFault.{StoreFault}, declared.fault.PutFault.{PutFault}}
use Rattle.stack_shelf.specs.declared.fault.FetchFault.TheVariants as fetching
use Rattle.stack_shelf.specs.declared.fault.StoreFault.TheVariants as storing
use Rattle.stack_shelf.specs.declared.fault.PutFault.TheVariants as putting
use Rattle.stack_shelf.specs.declared.fault.LineFault.{LineFault}
use Rattle.stack_shelf.specs.declared.fault.LineFault.TheVariants as asking

-- a shelf in memory: its files, which calls are to fail and how many bytes they keep, the calls so far, and its counts
pub record MemoryShelfOf : Type 0 where
  pub files : Files
  pub failing : List (ℕ × ℕ)
  pub calls : ℕ
  pub faults : ℕ
  pub absences : ℕ
  pub overruns : ℕ

-- one count of each kind serves all names
abbrev pub counts_of : MemoryShelfOf → Counts
counts_of shelf = record { faults = λ _. shelf.faults; absences = λ _. shelf.absences; overruns = λ _. shelf.overruns }

-- a sink in memory: what it has taken, and the rest likewise
pub record MemorySinkOf : Type 0 where
  pub taken : List ℕ
  pub failing : List (ℕ × ℕ)
  pub calls : ℕ
  pub faults : ℕ

-- how many bytes a call with this number keeps, where it is to fail: the second number of the first such pair
abbrev pub kept_by : List (ℕ × ℕ) → ℕ → Option ℕ
kept_by failing call = option_map (λ pair. pair.1) (find (λ pair. pair.0 == call) failing)

-- the bytes of the names and of the files
abbrev pub shown : List (String Global × Vec ℕ) → Files
shown files = map (λ file. (string_bytes file.0, file.1.items)) files

-- the prefix that a failing call keeps
abbrev pub kept_prefix : List (ℕ × ℕ) → ℕ → List ℕ → List ℕ
kept_prefix failing call bytes = take (unwrap_or (kept_by failing call) 0) bytes

-- a sink after a call that took all of these bytes
abbrev pub taken_by : MemorySinkOf → List ℕ → MemorySinkOf
taken_by sink bytes = record sink { taken = sink.taken ++ bytes; calls = saturating_increment sink.calls }

-- a sink after a call with this result
abbrev pub after_put : {X : Type 0} → MemorySinkOf → List ℕ → Result X PutFault → MemorySinkOf
after_put sink bytes (Ok _) = taken_by sink bytes
after_put sink bytes (Err putting.Failed) =
    record sink {
      taken = sink.taken ++ kept_prefix sink.failing sink.calls bytes;
      calls = saturating_increment sink.calls;
      faults = saturating_increment sink.faults;
    }
after_put sink bytes (Err putting.Memory) = record sink { calls = saturating_increment sink.calls }

-- a shelf after a fetch that gave bytes
abbrev pub given_by : MemoryShelfOf → List ℕ → List ℕ → MemoryShelfOf
given_by shelf name bytes = record shelf { calls = saturating_increment shelf.calls }

-- a shelf after a store of these bytes under this name that succeeded
abbrev pub filed_by : MemoryShelfOf → List ℕ → List ℕ → MemoryShelfOf
filed_by shelf name bytes = record shelf { files = put_file shelf.files name bytes; calls = saturating_increment shelf.calls }

-- a shelf after a fetch with this result
abbrev pub after_fetch : {X : Type 0} → MemoryShelfOf → Result X FetchFault → MemoryShelfOf
after_fetch shelf (Err fetching.Failed) =
    record shelf { calls = saturating_increment shelf.calls; faults = saturating_increment shelf.faults }
after_fetch shelf (Err fetching.Missing) =
    record shelf { calls = saturating_increment shelf.calls; absences = saturating_increment shelf.absences }
after_fetch shelf (Err fetching.TooLong) =
    record shelf { calls = saturating_increment shelf.calls; overruns = saturating_increment shelf.overruns }
after_fetch shelf _ = record shelf { calls = saturating_increment shelf.calls }

-- a shelf after a store with this result
abbrev pub after_store : {X : Type 0} → MemoryShelfOf → List ℕ → List ℕ → Result X StoreFault → MemoryShelfOf
after_store shelf name bytes (Ok _) = filed_by shelf name bytes
after_store shelf name bytes (Err storing.Failed) =
    record shelf {
      files = put_file shelf.files name (kept_prefix shelf.failing shelf.calls bytes);
      calls = saturating_increment shelf.calls;
      faults = saturating_increment shelf.faults;
    }
after_store shelf name bytes (Err storing.Memory) = record shelf { calls = saturating_increment shelf.calls }

-- lines in memory: the text that is still to come, which calls are to fail, the calls so far, and the counts
pub record MemoryLinesOf : Type 0 where
  pub ahead : List ℕ
  pub failing : List ℕ
  pub calls : ℕ
  pub faults : ℕ
  pub overruns : ℕ

-- whether the call with this number is to fail
abbrev pub fails_at : List ℕ → ℕ → Bool
fails_at failing call = list_any (λ number. number == call) failing

-- lines after a call, of which only the number of calls is seen
abbrev pub line_call : MemoryLinesOf → MemoryLinesOf
line_call lines = record lines { calls = saturating_increment lines.calls }

-- lines after a call that gave this line
abbrev pub line_given_by : MemoryLinesOf → List ℕ → MemoryLinesOf
line_given_by lines line = record lines { ahead = drop (length line) lines.ahead; calls = saturating_increment lines.calls }

-- lines after a call whose line was over the limit
abbrev pub line_overrun : MemoryLinesOf → MemoryLinesOf
line_overrun lines = record lines { calls = saturating_increment lines.calls; overruns = saturating_increment lines.overruns }

-- lines after a call that failed
abbrev pub line_fault : MemoryLinesOf → MemoryLinesOf
line_fault lines = record lines { calls = saturating_increment lines.calls; faults = saturating_increment lines.faults }

-- lines after a call with this result
abbrev pub lines_after : MemoryLinesOf → Result (Option (Vec ℕ)) LineFault → MemoryLinesOf
lines_after lines (Ok (Some line)) = line_given_by lines line.items
lines_after lines (Ok None) = line_call lines
lines_after lines (Err asking.TooLong) = line_overrun lines
lines_after lines (Err asking.Failed) = line_fault lines
lines_after lines (Err asking.Memory) = line_call lines

-- What the shelf over a folder, the sink over standard output and the lines of standard input keep: their counts, and nothing of the
-- content.
use Rattle.std.specs.{Prelude.{ℕ, Bool, true, Option, Some, None, Result, Ok, Err}, Global.{Vec}}
use Rattle.stack_shelf.specs.{Causes.{Counts, saturating_increment}, declared.fault.FetchFault.{FetchFault}}
use Rattle.stack_shelf.specs.{declared.fault.StoreFault.{StoreFault}, declared.fault.PutFault.{PutFault}}
use Rattle.stack_shelf.specs.declared.fault.FetchFault.TheVariants as fetching
use Rattle.stack_shelf.specs.declared.fault.StoreFault.TheVariants as storing
use Rattle.stack_shelf.specs.declared.fault.PutFault.TheVariants as putting
use Rattle.stack_shelf.specs.declared.fault.LineFault.{LineFault}
use Rattle.stack_shelf.specs.declared.fault.LineFault.TheVariants as asking

-- a shelf over a folder: one count of each kind, for all names together
pub record FolderShelfOf : Type 0 where
  pub faults : ℕ
  pub absences : ℕ
  pub overruns : ℕ

-- the same three counts at each name
abbrev pub for_each_name : FolderShelfOf → Counts
for_each_name shelf = record { faults = λ _. shelf.faults; absences = λ _. shelf.absences; overruns = λ _. shelf.overruns }

-- the shelf after a fetch with this result: its count goes up, and no other
abbrev pub folder_after_fetch : {X : Type 0} → FolderShelfOf → Result X FetchFault → FolderShelfOf
folder_after_fetch shelf (Ok _) = shelf
folder_after_fetch shelf (Err fetching.Missing) = record shelf { absences = saturating_increment shelf.absences }
folder_after_fetch shelf (Err fetching.TooLong) = record shelf { overruns = saturating_increment shelf.overruns }
folder_after_fetch shelf (Err fetching.Failed) = record shelf { faults = saturating_increment shelf.faults }
folder_after_fetch shelf (Err fetching.Memory) = shelf

-- the shelf after a store with this result
abbrev pub folder_after_store : {X : Type 0} → FolderShelfOf → Result X StoreFault → FolderShelfOf
folder_after_store shelf (Ok _) = shelf
folder_after_store shelf (Err storing.Failed) = record shelf { faults = saturating_increment shelf.faults }
folder_after_store shelf (Err storing.Memory) = shelf

-- how often standard output failed, after a put with this result
abbrev pub faults_after_put : {X : Type 0} → ℕ → Result X PutFault → ℕ
faults_after_put faults (Ok _) = faults
faults_after_put faults (Err putting.Failed) = saturating_increment faults
faults_after_put faults (Err putting.Memory) = faults

-- the lines of standard input: whether their end was seen, and one count of each kind
pub record StdinLinesOf : Type 0 where
  pub over : Bool
  pub faults : ℕ
  pub overruns : ℕ

-- the lines after their end
abbrev pub input_over : StdinLinesOf → StdinLinesOf
input_over lines = record { over = true; faults = lines.faults; overruns = lines.overruns }

-- the lines after a call whose line was over the limit
abbrev pub input_overrun : StdinLinesOf → StdinLinesOf
input_overrun lines = record lines { overruns = saturating_increment lines.overruns }

-- the lines after a call that failed
abbrev pub input_fault : StdinLinesOf → StdinLinesOf
input_fault lines = record lines { faults = saturating_increment lines.faults }

-- the lines after a call with this result
abbrev pub input_after : StdinLinesOf → Result (Option (Vec ℕ)) LineFault → StdinLinesOf
input_after lines (Ok (Some _)) = lines
input_after lines (Ok None) = input_over lines
input_after lines (Err asking.TooLong) = input_overrun lines
input_after lines (Err asking.Failed) = input_fault lines
input_after lines (Err asking.Memory) = lines

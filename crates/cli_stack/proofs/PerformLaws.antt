-- What a store that failed leaves of a command, and why a command ended early.
use Rattle.std.proofs.Common.{◌≡◌, inl, inr, ⊎_elim, ℕ, suc, ◌++◌, List, Option, Some, None, IfSome, Result, Ok, Err, refl, arith, ◌∙◌, ap, subst}
use Rattle.std.{specs.Prelude.Contains, specs.Option.option_to_list}
use Rattle.stack_shelf.{specs.Files.Files, specs.Causes.{Counts, NoneFell}, specs.Shelf.PartlyStored}
use Rattle.level_debuggers.specs.Tallies.{Watching}
use Rattle.command_line.{specs.declared.command.Command.Command, specs.declared.early_end.EarlyEnd.EarlyEnd}
use Rattle.command_line.{specs.declared.early_end.EarlyEnd.TheVariants.{Missing, TooLong, ShelfFault, OutOfMemory}, specs.declared.role.Role.Role}
use Rattle.command_line.{specs.Gathered.{Texts, gathered}, specs.CommandFiles.{names_of, inputs_of, output_of, file_names}, specs.Devices.EndsAtOne}
use Rattle.command_line.{specs.Devices.{IsFaultAt, LeavesPart}, proofs.GatherLaws.rose_from}
use Rattle.stack_commands.specs.Prepared.{stored_by}
use Rattle.cli_stack.{specs.Answer.{Answer, answer_to, answer_on, set_file}, specs.World.{ShelfOf, shelf_of}, specs.Driver.{HasReason, LeavesAs, Leaves}}

-- the file that it writes is one of its files
own : (command : Command) (output : Role × List ℕ) → output_of command ≡ Some output → Contains (file_names (Some command)) output.1
own command output is = rw is (0, omega arith, refl)

pub fault_reason : (refused : Type 0) (before mid after : Counts) (command : Command) (output : Role × List ℕ) (end : EarlyEnd)
    → NoneFell before mid → output_of command ≡ Some output
    → IsFaultAt refused mid after output.1 end → HasReason refused before after (Some command) end
fault_reason refused before mid after command output (Missing missing) fell is fault = absurd fault
fault_reason refused before mid after command output (TooLong limit) fell is fault = absurd fault
fault_reason refused before mid after command output (ShelfFault name) fell is fault =
    (output.1, own command output is, (fault.0, rose_from _ _ _ (fell.faults output.1) fault.1))
fault_reason refused before mid after command output OutOfMemory fell is fault = fault

-- the file that is set has what the command stores
sets : (watches : List Watching) (files : Files) (command : Command) (texts : Texts) (output : Role × List ℕ) (bytes : List ℕ)
    → gathered files (inputs_of command) ≡ Ok texts → output_of command ≡ Some output → stored_by command texts ≡ Some bytes
    → (answer_to command watches files).output ≡ Some (output.1, bytes)
sets watches files command texts output bytes got is stores =
    ap (λ (r : Result Texts EarlyEnd). (answer_on command watches r).output) got
    ∙ ap (λ (o : Option (Role × List ℕ)). set_file o (stored_by command texts)) is ∙ ap (set_file (Some output)) stores

part : (refused : Type 0) (files : Files) (mid : Option Files) (before after : ShelfOf) (between : Counts) (command : Command)
    (output : Role × List ℕ) (bytes : List ℕ) (o : Option (List ℕ × List ℕ)) (end : EarlyEnd)
    → mid ≡ Some files → output_of command ≡ Some output → o ≡ Some (output.1, bytes) → NoneFell before.counts between
    → LeavesPart mid after.files between after.counts output.1 bytes → IsFaultAt refused between after.counts output.1 end
    → (a : Answer) → a.output ≡ o → LeavesAs a (file_names (Some command)) files before after (Err end)
part refused files mid before after between command output bytes o (Missing missing) was is says fell left fault a e = absurd fault
part refused files mid before after between command output bytes o (TooLong limit) was is says fell left fault a e = absurd fault
part refused files mid before after between command output bytes o (ShelfFault name) was is says fell left fault a e =
    rw (e, says) (⊎_elim (λ same. inl (same ∙ was)) (λ half. moved half.0) left)
  where
    moved : PartlyStored mid after.files output.1 bytes → PartlyStored (Some files) after.files output.1 bytes
    moved half = subst (λ (m : Option Files). PartlyStored m after.files output.1 bytes) was half
part refused files mid before after between command output bytes o OutOfMemory was is says fell left fault a e =
    ⊎_elim (λ same. inl (same ∙ was)) (λ half. inr
    (inr (rw (e, says) (moved half.0), (output.1, own command output is, rose_from _ _ _ (fell.faults output.1) half.1, tt)))) left
  where
    moved : PartlyStored mid after.files output.1 bytes → PartlyStored (Some files) after.files output.1 bytes
    moved half = subst (λ (m : Option Files). PartlyStored m after.files output.1 bytes) was half

pub save_leaves : (refused : Type 0) (watches : List Watching) (old mid new : Option Files) (before between after : Counts) (command : Command)
    (inputs : List (Role × List ℕ)) (texts : Texts) (output : Role × List ℕ) (bytes : List ℕ) (end : EarlyEnd)
    → mid ≡ old → inputs ≡ inputs_of command → IfSome old (λ files. gathered files inputs ≡ Ok texts) → stored_by command texts ≡ Some bytes
    → output_of command ≡ Some output → NoneFell before between
    → LeavesPart mid new between after output.1 bytes → IsFaultAt refused between after output.1 end
    → IfSome old (λ files. Leaves (Some command) watches files (shelf_of old before) (shelf_of new after) (Err end))
save_leaves refused watches None mid new before between after command inputs texts output bytes end was reads got stores is fell left fault = tt
save_leaves refused watches (Some files) mid new before between after command inputs texts output bytes end was reads got stores is fell left fault =
    part refused files mid (shelf_of (Some files) before) (shelf_of new after) between command output bytes _ end was is
    (sets watches files command texts output bytes (rw (← reads) got) is stores) fell left fault (answer_to command watches files) refl

-- the names of its inputs are among those of its files
further : (o : Option (Role × List ℕ)) (files : List (Role × List ℕ)) (name : List ℕ) → Contains (names_of files) name
    → Contains (names_of (option_to_list o ++ files)) name
further None files name found = found
further (Some output) files name found = (suc found.0, omega arith, found.2)

pub gather_reason : (refused : Type 0) (before after : Counts) (command : Command) (inputs : List (Role × List ℕ)) (end : EarlyEnd)
    → EndsAtOne refused before after (names_of inputs) end → inputs ≡ inputs_of command → HasReason refused before after (Some command) end
gather_reason refused before after command inputs (Missing missing) ends reads = rw (← reads) ends
gather_reason refused before after command inputs (TooLong limit) ends reads = rw (← reads) ends
gather_reason refused before after command inputs (ShelfFault failed) ends reads =
    (ends.0, further (output_of command) (inputs_of command) ends.0 (rw (← reads) ends.1), ends.2)
gather_reason refused before after command inputs OutOfMemory ends reads = ends

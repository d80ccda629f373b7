-- Why a command ended early, over several files.
use Rattle.std.{proofs.Common.{◌≡◌, ◌≤◌, ◌<◌, ◌++◌, ℕ, List, [], length, get_or, map, drop, arith, ◌∙◌, ap, sym, append-nil}, specs.Prelude.Contains}
use Rattle.std.proofs.lemmas.List.{length-map, get_or-map, drop_all}
use Rattle.stack_shelf.specs.Causes.{Counts, Rose, NoneFell}
use Rattle.command_line.{specs.declared.early_end.EarlyEnd.EarlyEnd, specs.declared.early_end.EarlyEnd.TheVariants.{Missing, TooLong, ShelfFault, OutOfMemory}}
use Rattle.command_line.{specs.declared.role.Role.Role, specs.declared.role.RoleFile.RoleFile, specs.CommandFiles.names_of, specs.Devices.{EndsAt, EndsAtOne}}
use Rattle.command_line.{specs.Devices.gave_each, specs.Gathered.Texts}

pub rose_from : (before mid after : ℕ) → before ≤ mid → Rose mid after → Rose before after
rose_from before mid after le rose = omega arith

among : (refused : Type 0) (before mid after : Counts) (names : List (List ℕ)) (name : List ℕ) (end : EarlyEnd) → NoneFell before mid
    → Contains names name → EndsAt refused mid after name end → EndsAtOne refused before after names end
among refused before mid after names name (Missing missing) fell in_names ends = (name, in_names, (ends.0, rose_from _ _ _ (fell.absences name) ends.1))
among refused before mid after names name (TooLong limit) fell in_names ends = (name, in_names, rose_from _ _ _ (fell.overruns name) ends)
among refused before mid after names name (ShelfFault failed) fell in_names ends = (name, in_names, (ends.0, rose_from _ _ _ (fell.faults name) ends.1))
among refused before mid after names name OutOfMemory fell in_names ends = ends

-- an input at a place is one of them
pub ends_at_input : (refused : Type 0) (before mid after : Counts) (inputs : List RoleFile) (i : ℕ) (input : RoleFile) (name : List ℕ) (end : EarlyEnd)
    → NoneFell before mid → i < length inputs
    → input ≡ get_or inputs i input → name ≡ input.name.now → EndsAt refused mid after name end
    → EndsAtOne refused before after (names_of (map (λ (input : RoleFile). (input.role, input.name.now)) inputs)) end
ends_at_input refused before mid after inputs i input name end fell lt is named ends =
    let pair : RoleFile → Role × List ℕ = λ i. (i.role, i.name.now) in
    let second : Role × List ℕ → List ℕ = λ p. p.1 in
    let lt' : i < length (map pair inputs) = rw length-map lt in
    let at : get_or (map second (map pair inputs)) i name ≡ name =
    get_or-map second (map pair inputs) i (pair input) name lt' ∙ ap second (get_or-map pair inputs i input (pair input) lt)
    ∙ ap (λ (i : RoleFile). i.name.now) (sym is) ∙ sym named in
    among refused before mid after _ name end fell (i, rw length-map lt', at) ends

-- where no file is left, the shelf is what it is after it gave all texts
pub gave_all : {S : Type 0} (gave : S → List ℕ → List ℕ → S) (before now : S) (inputs : List RoleFile) (i : ℕ) (texts : Texts) → length inputs ≤ i
    → ((more : Texts) → gave_each gave before (map (λ (input : RoleFile). (input.role, input.name.now)) inputs) (texts ++ more)
    ≡ gave_each gave now (map (λ (input : RoleFile). (input.role, input.name.now)) (drop i inputs)) more)
    → now ≡ gave_each gave before (map (λ (input : RoleFile). (input.role, input.name.now)) inputs) texts
gave_all gave before now inputs i texts le so_far =
    let pair : RoleFile → Role × List ℕ = λ f. (f.role, f.name.now) in
    sym (ap (λ (left : List RoleFile). gave_each gave now (map pair left) []) (drop_all i inputs le)) ∙ sym (so_far [])
    ∙ ap (gave_each gave before (map pair inputs)) (append-nil texts)

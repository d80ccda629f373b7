-- What fetching, storing and printing say.
use Rattle.std.specs.Prelude.{◌≡◌, ◌≢◌, ◌⊎◌, ◌==◌, ℕ, ◌∷◌, [], ◌++◌, List, Option, Result, Ok, Err, Contains, All, if◌then◌else◌}
use Rattle.stack_shelf.specs.{Files.{Files}, Causes.{Counts, Rose}, Shelf.{PartlyStored}}
use Rattle.command_line.specs.{declared.early_end.EarlyEnd.{EarlyEnd}, declared.early_end.EarlyEnd.TheVariants.{Missing, TooLong}}
use Rattle.command_line.specs.{declared.early_end.EarlyEnd.TheVariants.{ShelfFault, OutOfMemory}, declared.role.Role.{Role}}
use Rattle.command_line.specs.Gathered.{Texts}

-- what a call returned, seen by view, is what the definition gives, unless the shelf failed or memory ran out
abbrev pub GivesOrEndsEarly : {X Y : Type 0} → (X → Y) → Result X EarlyEnd → Result Y EarlyEnd → Type 0
GivesOrEndsEarly view (Ok x) gives = gives ≡ Ok (view x)
GivesOrEndsEarly view (Err (Missing name)) gives = gives ≡ Err (Missing name)
GivesOrEndsEarly view (Err (TooLong limit)) gives = gives ≡ Err (TooLong limit)
GivesOrEndsEarly view (Err (ShelfFault name)) gives = Unit {0}
GivesOrEndsEarly view (Err OutOfMemory) gives = Unit {0}

-- why a command ended early at this name; out of memory only where memory may be refused
abbrev pub EndsAt : Type 0 → Counts → Counts → List ℕ → EarlyEnd → Type 0
EndsAt refused before after name (Missing missing) = (missing ≡ name) × Rose (before.absences name) (after.absences name)
EndsAt refused before after name (TooLong limit) = Rose (before.overruns name) (after.overruns name)
EndsAt refused before after name (ShelfFault failed) = (failed ≡ name) × Rose (before.faults name) (after.faults name)
EndsAt refused before after name OutOfMemory = refused

-- the same for one of these names
abbrev pub EndsAtOne : Type 0 → Counts → Counts → List (List ℕ) → EarlyEnd → Type 0
EndsAtOne refused before after names OutOfMemory = refused
EndsAtOne refused before after names end = (name : List ℕ) × Contains names name × EndsAt refused before after name end

-- what a shelf is after it gave these texts for these files, each by a fetch of its own
abbrev pub gave_each : {S : Type 0} → (S → List ℕ → List ℕ → S) → S → List (Role × List ℕ) → Texts → S
gave_each gave shelf [] texts = shelf
gave_each gave shelf (file ∷ files) [] = shelf
gave_each gave shelf (file ∷ files) (text ∷ texts) = gave_each gave (gave shelf file.1 text.1) files texts

-- what a store that failed, or whose fault could not be named, leaves
abbrev pub LeavesPart : Option Files → Option Files → Counts → Counts → List ℕ → List ℕ → Type 0
LeavesPart old new before after name bytes =
    (new ≡ old) ⊎ (PartlyStored old new name bytes × Rose (before.faults name) (after.faults name))

-- a failure at this name, or out of memory
abbrev pub IsFaultAt : Type 0 → Counts → Counts → List ℕ → EarlyEnd → Type 0
IsFaultAt refused before after name (Missing missing) = ⊥
IsFaultAt refused before after name (TooLong limit) = ⊥
IsFaultAt refused before after name end = EndsAt refused before after name end

-- the lines of a text, each with its line feed; what follows the last line feed is a line too
abbrev pub onto_first : ℕ → List (List ℕ) → List (List ℕ)
onto_first byte [] = (byte ∷ []) ∷ []
onto_first byte (line ∷ lines) = (byte ∷ line) ∷ lines

abbrev pub lines_of : List ℕ → List (List ℕ)
lines_of [] = []
lines_of (byte ∷ text) = if byte == 10 then (byte ∷ []) ∷ lines_of text else onto_first byte (lines_of text)

-- what a sink is after it took these pieces, each by a call of its own
abbrev pub took_each : {S : Type 0} → (S → List ℕ → S) → S → List (List ℕ) → S
took_each took sink [] = sink
took_each took sink (piece ∷ pieces) = took_each took (took sink piece) pieces

-- a line ends with its first line feed, or it has none and nothing follows
abbrev pub IsFirstLine : List ℕ → List ℕ → Type 0
IsFirstLine line rest =
    (All (λ byte. byte ≢ 10) line × (rest ≡ []))
    ⊎ ((before : List ℕ) × (line ≡ before ++ 10 ∷ []) × All (λ byte. byte ≢ 10) before)

-- What the calls of a shelf and of a sink return and leave.
use Rattle.std.specs.Prelude.{◌≡◌, ◌⊎◌, ℕ, List, ◌++◌, length, take, Option, Some, None, Result, Ok, Err, nat_lt, if◌then◌else◌}
use Rattle.std.specs.Option.{option_map}
use Rattle.stack_shelf.specs.{Files.{Files, file_at, put_file, remove_file}, declared.fault.FetchFault.{FetchFault}}
use Rattle.stack_shelf.specs.declared.fault.FetchFault.TheVariants as fault

-- why a fetch has no bytes to give where nothing fails: there is no such file, or it is over the limit
pub data Refusal : Type 0 where
  Missing : Refusal
  TooLong : Refusal

-- a file within a limit, where there is one
abbrev pub within : ℕ → Option (List ℕ) → Result (List ℕ) Refusal
within limit None = Err Missing
within limit (Some bytes) = if nat_lt limit (length bytes) then Err TooLong else Ok bytes

-- what a fetch gives where nothing fails
abbrev pub fetched : Files → List ℕ → ℕ → Result (List ℕ) Refusal
fetched files name limit = within limit (file_at files name)

-- what a call returned, seen by view, is what a fetch gives, unless the shelf failed or memory ran out
abbrev pub Fetches : {X : Type 0} → (X → List ℕ) → Result X FetchFault → Result (List ℕ) Refusal → Type 0
Fetches view (Ok x) gives = gives ≡ Ok (view x)
Fetches view (Err fault.Missing) gives = gives ≡ Err Missing
Fetches view (Err fault.TooLong) gives = gives ≡ Err TooLong
Fetches view (Err fault.Failed) gives = Unit {0}
Fetches view (Err fault.Memory) gives = Unit {0}

-- the files with these bytes under this name, where files are known
abbrev pub stored : Option Files → List ℕ → List ℕ → Option Files
stored files name bytes = option_map (λ f. put_file f name bytes) files

-- the files without that name, where files are known
abbrev pub removed : Option Files → List ℕ → Option Files
removed files name = option_map (λ f. remove_file f name) files

-- what a store that did not succeed may leave: every file as it was, that one gone, or a prefix of the bytes in its place
abbrev pub PartlyStored : Option Files → Option Files → List ℕ → List ℕ → Type 0
PartlyStored old new name bytes =
    (new ≡ old) ⊎ ((new ≡ removed old name) ⊎ ((count : ℕ) × (new ≡ stored old name (take count bytes))))

-- the bytes with more at their end, where they are known
abbrev pub appended : Option (List ℕ) → List ℕ → Option (List ℕ)
appended taken bytes = option_map (λ t. t ++ bytes) taken

-- a prefix of the bytes was appended
abbrev pub PrefixAppended : Option (List ℕ) → Option (List ℕ) → List ℕ → Type 0
PrefixAppended old new bytes = (count : ℕ) × (new ≡ appended old (take count bytes))

-- Where a name has its bytes.
use Rattle.std.specs.Prelude.{ℕ, ◌≤◌, List, take}
use Rattle.stack_text.specs.{declared.name.NameBytes.{NameBytes}, declared.name.NameBytes.TheVariants.{InPlace, InVector}}

-- the bytes
abbrev pub kept_bytes : NameBytes → List ℕ
kept_bytes (InPlace length bytes) = take length bytes
kept_bytes (InVector bytes) = bytes.items

-- bytes in place are among the 30 that have room there
abbrev pub FitsInPlace : NameBytes → Type 0
FitsInPlace (InPlace length bytes) = length ≤ 30
FitsInPlace (InVector bytes) = Unit {0}

-- Why memory runs out, and what a call did where it did not.
use Rattle.std.specs.{Prelude.{ℕ, ◌+◌, ◌*◌, ◌^◌, ◌<◌, ◌≤◌, Result, Ok, Err}, Mem.{type_size}, Borrow.{RattleType}}

-- an item takes memory, but no more than a kilobyte
abbrev pub IsSmallItem : RattleType → Type 0
IsSmallItem T = (1 ≤ type_size T) × (type_size T ≤ 1024)

-- so many items may be asked for at once, of which no list has any yet: those of the largest window, and some more
abbrev pub IsModest : ℕ → Type 0
IsModest count = count ≤ 2 ^ 20 + 2 ^ 10

-- a list of so many items is within the bound of a heap, of which 0 says that there is none
abbrev pub FitsBound : ℕ → ℕ → Type 0
FitsBound bound count = 0 < bound → count ≤ bound

-- it is, but for 256 items
abbrev pub NearlyFitsBound : ℕ → ℕ → Type 0
NearlyFitsBound bound count = 0 < bound → count ≤ bound + 256

-- room is refused for some number of items, which is no more than that
abbrev pub RefusesWithin : (ℕ → Type 0) → ℕ → Type 0
RefusesWithin refuses most = (count : ℕ) × (count ≤ most) × refuses count

-- the room that a list of so many items asks for, at most, to take one more
abbrev pub room_after : ℕ → ℕ
room_after count = 2 * count + 8

-- the call did that, unless memory was refused
abbrev pub OnOkUnless : {X E : Type 0} → Type 0 → Result X E → Type 0 → Type 0
OnOkUnless refused (Ok _) did = did
OnOkUnless refused (Err _) did = refused

-- what the call returned is so, unless memory was refused
abbrev pub IfOkUnless : {X E : Type 0} → Type 0 → Result X E → (X → Type 0) → Type 0
IfOkUnless refused (Ok x) is = is x
IfOkUnless refused (Err _) is = refused

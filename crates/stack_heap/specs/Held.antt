-- What a heap that refuses nothing within its bound would give.
use Rattle.std.specs.{Prelude.{◌≡◌, ℕ, ◌≤◌, ◌<◌, ◌^◌, List, length, Vec, vec_len, vec_capacity}, Global.{Global}}

-- if there is a vector of such items, there is one of any of them, with any capacity below 2^63 that they fit
abbrev pub EachListIsHeld : Type 0 → Type 0
EachListIsHeld T =
    (some : Vec T Global) (items : List T) (room : ℕ) → length items ≤ room → room < 2 ^ 63
    → (made : Vec T Global) × (made.items ≡ items) × (vec_len made ≡ length items) × (vec_capacity made ≡ room)

-- How quick code reaches a word of a variable.
use Rattle.std.specs.Prelude.{◌≡◌, ℕ, ◌<◌, ◌≤◌, List, [], ◌∷◌}
use Rattle.fm_code.specs.InstructionWords.{reg, literal, mov}

-- by a register from 5 to 14 that holds its address, or by its address itself, which is loaded into r4
pub data Access : Type 0 where
  Held : (k : ℕ) → Access
  Known : (a : ℕ) → Access

-- the register that has the address once it is found
abbrev pub register_of : Access → ℕ
register_of (Held k) = k
register_of (Known a) = 4

-- nothing, or `MOVE r4,=a`
abbrev pub find_code : Access → List ℕ
find_code (Held k) = []
find_code (Known a) = mov (reg 4) literal ∷ a ∷ []

abbrev pub find_count : Access → ℕ
find_count (Held k) = 0
find_count (Known a) = 1

-- where the registers from 5 to 14 hold what the table says, the word is at the address a
abbrev pub Reaches : (ℕ → ℕ) → Access → ℕ → Type 0
Reaches table (Held k) a = (5 ≤ k) × (k < 15) × (table k ≡ a)
Reaches table (Known b) a = b ≡ a

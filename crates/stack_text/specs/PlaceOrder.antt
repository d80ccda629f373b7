-- Trees whose places go up from left to right, as they do in a text.
use Rattle.std.specs.Prelude.{ℕ, ◌+◌, ◌<◌, ◌≤◌}
use Rattle.stack_text.specs.Trees.{Node, Nodes, atom, list, none, more}

abbrev mutual
  -- all places of the tree are at least low and below high, and go up in reading order
  pub InOrder : ℕ → Node → ℕ → Type 0
  InOrder low (atom p bytes) high = (low ≤ p) × (p < high)
  InOrder low (list p ts) high = (low ≤ p) × (p < high) × AllInOrder (p + 1) ts high

  pub AllInOrder : ℕ → Nodes → ℕ → Type 0
  AllInOrder low none high = low ≤ high
  AllInOrder low (more t ts) high = (mid : ℕ) × InOrder low t mid × AllInOrder mid ts high

abbrev pub IsInOrder : Node → Type 0
IsInOrder t = (high : ℕ) × InOrder 0 t high

-- How long the lists and the atoms of a tree are.
use Rattle.std.specs.Prelude.{ℕ, max, length}
use Rattle.stack_text.specs.{Trees.{Node, Nodes, atom, list, none, more}, Grammar.Parts.{count_of}}

abbrev mutual
  -- how many bytes the longest atom has, or items the longest list, whichever is more
  pub longest_in : Node → ℕ
  longest_in (atom p bytes) = length bytes
  longest_in (list p ts) = max (count_of ts) (longest_among ts)

  pub longest_among : Nodes → ℕ
  longest_among none = 0
  longest_among (more t ts) = max (longest_in t) (longest_among ts)

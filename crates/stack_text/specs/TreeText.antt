-- How a tree is printed.
use Rattle.std.specs.Prelude.{ℕ, List, [], ◌∷◌, ◌++◌}
use Rattle.stack_text.specs.Trees.{Node, Nodes, atom, list, none, more}

abbrev mutual
  -- an atom as its bytes, and a list between `(` and `)`
  pub tree_text : Node → List ℕ
  tree_text (atom p bytes) = bytes
  tree_text (list p ts) = 40 ∷ (items_text ts ++ 41 ∷ [])

  -- with one space between
  pub items_text : Nodes → List ℕ
  items_text none = []
  items_text (more t ts) = tree_text t ++ spaced_text ts

  -- with a space before each
  pub spaced_text : Nodes → List ℕ
  spaced_text none = []
  spaced_text (more t ts) = 32 ∷ (tree_text t ++ spaced_text ts)

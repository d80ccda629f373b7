-- Trees, and the grammar of texts: a text is a tree where both have the same tokens.
use Rattle.std.specs.Prelude.{◌≡◌, ℕ, suc, ◌+◌, ◌<◌, ◌≤◌, ◌^◌, max, List, [], ◌∷◌, ◌++◌, length, map}
use Rattle.stack_text.specs.{SharedLimits.{most_nesting}, Tokens.{Token, opens_at, closes_at, atom_at, invalid_at, between, tokens}}
use Rattle.stack_text.specs.Tokens.{atom_run}

-- a tree: an atom with its place and bytes, or a list with the place of its `(` and its items
mutual
  pub data Node : Type 0 where
    atom : ℕ → List ℕ → Node
    list : ℕ → Nodes → Node

  pub data Nodes : Type 0 where
    none : Nodes
    more : Node → Nodes → Nodes

abbrev pub place_of : Node → ℕ
place_of (atom p bytes) = p
place_of (list p ts) = p

-- a token without what no tree keeps, the place of a `)`
abbrev pub as_kept : Token → Token
as_kept (opens_at p) = opens_at p
as_kept (closes_at p) = closes_at 0
as_kept (atom_at p bytes) = atom_at p bytes
as_kept (invalid_at p) = invalid_at p

abbrev mutual
  -- the tokens of a tree, from its first to its last
  pub tokens_of : Node → List Token
  tokens_of (atom p bytes) = atom_at p bytes ∷ []
  tokens_of (list p ts) = opens_at p ∷ (tokens_of_all ts ++ closes_at 0 ∷ [])

  pub tokens_of_all : Nodes → List Token
  tokens_of_all none = []
  tokens_of_all (more t ts) = tokens_of t ++ tokens_of_all ts

abbrev mutual
  -- how many lists nest: none in an atom, and the outermost list has depth 1
  pub depth : Node → ℕ
  depth (atom p bytes) = 0
  depth (list p ts) = suc (depths ts)

  pub depths : Nodes → ℕ
  depths none = 0
  depths (more t ts) = max (depth t) (depths ts)

-- the text is one tree: its tokens are those of the whole tree, and no more than 200 lists nest
pub record TreeOf (text : List ℕ) (t : Node) : Type 0 where
  pub tokens_are : map as_kept (tokens between 0 text) ≡ tokens_of t
  pub shallow : depth t ≤ most_nesting

abbrev mutual
  -- each atom is a non-empty run of atom bytes
  pub AtomsAreRuns : Node → Type 0
  AtomsAreRuns (atom p bytes) = (0 < length bytes) × (atom_run bytes ≡ bytes)
  AtomsAreRuns (list p ts) = AllAtomsAreRuns ts

  pub AllAtomsAreRuns : Nodes → Type 0
  AllAtomsAreRuns none = Unit {0}
  AllAtomsAreRuns (more t ts) = AtomsAreRuns t × AllAtomsAreRuns ts

abbrev mutual
  -- how many atoms and lists there are
  pub node_count : Node → ℕ
  node_count (atom p bytes) = 1
  node_count (list p ts) = 1 + node_counts ts

  pub node_counts : Nodes → ℕ
  node_counts none = 0
  node_counts (more t ts) = node_count t + node_counts ts

-- the form that a tree which was read has, whatever its places
pub record IsWellFormed (t : Node) : Type 0 where
  pub atoms : AtomsAreRuns t
  pub shallow : depth t ≤ most_nesting
  pub few : node_count t ≤ 2 ^ 31

abbrev mutual
  -- the tree with 0 in all its places
  pub without_places : Node → Node
  without_places (atom p bytes) = atom 0 bytes
  without_places (list p ts) = list 0 (all_without_places ts)

  pub all_without_places : Nodes → Nodes
  all_without_places none = none
  all_without_places (more t ts) = more (without_places t) (all_without_places ts)

-- the text is the tree but for places
abbrev pub ReadsAs : List ℕ → Node → Type 0
ReadsAs text t = (u : Node) × TreeOf text u × (without_places u ≡ without_places t)

-- Trees with 0 in all their places, and their texts.
use Rattle.std.specs.{Prelude.{ℕ, List, [], ◌∷◌, ◌++◌, map, ◌==◌, if◌then◌else◌}, List.{flat_map}}
use Rattle.stack_text.specs.{Trees.{Node, Nodes, atom, list}, TreeText.{items_text, spaced_text}, Views.TreeView.{nodes}}
use Rattle.stack_text.specs.declared.name.Named.{Named}

-- a list of trees
abbrev pub tree_of_all : List Node → Node
tree_of_all ts = list 0 (nodes ts)

-- a list of what is printed as such trees
abbrev pub list_tree : {X : Type 0} → (X → Node) → List X → Node
list_tree tree xs = tree_of_all (map tree xs)

-- a name
abbrev pub name_tree : Named → Node
name_tree n = atom 0 n.name

-- the bytes of a name, with 0 for its place
abbrev pub unplaced : List ℕ → Named
unplaced name = record { place = 0; name = name }

-- a name with 0 for its place
abbrev pub unplaced_name : Named → Named
unplaced_name n = record n { place = 0 }

-- the text of the items that are left, after so many
abbrev pub items_after : ℕ → Nodes → List ℕ
items_after index ts = if index == 0 then items_text ts else spaced_text ts

-- a list: the head with one space between, and each other item on a line of its own
abbrev pub lines_text : {X : Type 0} → (X → List ℕ) → List Node → List X → List ℕ
lines_text text head others = 40 ∷ (items_text (nodes head) ++ flat_map (λ x. 10 ∷ text x) others ++ 41 ∷ [])

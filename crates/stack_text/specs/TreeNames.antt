-- Trees that are names.
use Rattle.std.specs.Prelude.{ℕ, List, Option, None}
use Rattle.stack_text.specs.{Names.{name_of}, Trees.{Node, atom, list}}

-- the name that a tree is
abbrev pub name_of_tree : Node → Option (List ℕ)
name_of_tree (atom place word) = name_of word
name_of_tree (list place trees) = None

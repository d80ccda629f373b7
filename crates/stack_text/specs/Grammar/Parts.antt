-- Parts that many grammars have.
use Rattle.std.specs.Prelude.{ℕ, ◌+◌, List, [], Ok, Bool, false, IsTrue}
use Rattle.stack_text.specs.{Names.{is_name}, Trees.{Node, Nodes, atom, list, none, more}, declared.name.Named.{Named}}
use Rattle.stack_text.specs.Grammar.Judged.{Judged, fault, judged, each_of}

-- an atom whose bytes pass the test
abbrev pub is_atom_of : (List ℕ → Bool) → Node → Bool
is_atom_of test (atom p bytes) = test bytes
is_atom_of test (list p ts) = false

-- the bytes of an atom; a list has none
abbrev pub bytes_of : Node → List ℕ
bytes_of (atom p bytes) = bytes
bytes_of (list p ts) = []

-- the bytes of a name with a place are a name
abbrev pub IsNamed : Named → Type 0
IsNamed n = IsTrue (is_name n.name)

-- a name, or the rule broken at the tree
abbrev pub name_or : ℕ → Node → Judged Named
name_or rule (atom p bytes) = judged p rule (is_name bytes) (Ok (record { place = p; name = bytes }))
name_or rule (list p ts) = fault p rule

-- a list of such trees, or the rule broken at the tree
abbrev pub list_or : {X : Type 0} → ℕ → (Node → Judged X) → Node → Judged (List X)
list_or rule judge (list p ts) = each_of judge ts
list_or rule judge (atom p bytes) = fault p rule

-- how many trees there are
abbrev pub count_of : Nodes → ℕ
count_of none = 0
count_of (more t ts) = 1 + count_of ts

-- how many items a list has; a tree that is no list has none
abbrev pub list_length : Node → ℕ
list_length (atom p bytes) = 0
list_length (list p ts) = count_of ts

-- The tree of a text as a function of the text: its tokens are put together from the last to the first.
use Rattle.std.specs.Prelude.{◌≡◌, ℕ, List, [], ◌∷◌, Option, Some, None, Result, Ok, Err}
use Rattle.stack_text.specs.{Results.{unless_fault}, declared.text_fault.TextRule.{TextRule}, declared.text_fault.TextFault.{TextFault}}
use Rattle.stack_text.specs.{declared.text_fault.TextFault.TheVariants.{Fault, Memory}, Gives.{GivesUnless}, Tokens.{Token, opens_at}}
use Rattle.stack_text.specs.{Tokens.{closes_at, atom_at, invalid_at, between, tokens}, Trees.{Node, Nodes, atom, list, none, more}}
use Rattle.stack_text.specs.TextFaults.{text_fault}

-- a tree put in front of the items of the innermost list
abbrev pub in_front : Node → List Nodes → List Nodes
in_front t [] = []
in_front t (items ∷ outer) = more t items ∷ outer

-- the innermost list is whole, and an item of the one round it
abbrev pub as_item : ℕ → List Nodes → List Nodes
as_item place [] = []
as_item place (items ∷ outer) = in_front (list place items) outer

-- the items that the tokens are, of each list whose `(` is further to the left, the innermost first
unfoldable pub items_of : List Token → List Nodes
items_of [] = none ∷ []
items_of (opens_at place ∷ ts) = as_item place (items_of ts)
items_of (closes_at place ∷ ts) = none ∷ items_of ts
items_of (atom_at place bytes ∷ ts) = in_front (atom place bytes) (items_of ts)
items_of (invalid_at place ∷ ts) = items_of ts

abbrev pub first_item : List Nodes → Node
first_item (more t ts ∷ outer) = t
first_item items = list 0 none

-- the tree that a text is, or else its first fault
unfoldable pub tree_in : List ℕ → Result Node (TextRule × ℕ)
tree_in text = unless_fault (text_fault text) (first_item (items_of (tokens between 0 text)))

-- the fault that an error is, and none for out of memory
abbrev pub fault_of : TextFault → Option (TextRule × ℕ)
fault_of (Fault rule place) = Some (rule, place)
fault_of Memory = None

-- what reading a text gives, by that function, where `seen` is what clauses see of a tree
abbrev pub GivesTreeUnless : {T : Type 0} → Type 0 → (T → Node) → Result T TextFault → Result Node (TextRule × ℕ) → Type 0
GivesTreeUnless refused seen result value = GivesUnless refused fault_of seen result value

-- the same of callers that pass the library's heap: out of memory is free
abbrev pub GivesTree : {T : Type 0} → (T → Node) → Result T TextFault → Result Node (TextRule × ℕ) → Type 0
GivesTree seen result value = GivesTreeUnless (Unit {0}) seen result value

-- what reading a text gives, exactly, and never out of memory
abbrev pub ReadsExactly : {T : Type 0} → (T → Node) → Result T TextFault → Result Node (TextRule × ℕ) → Type 0
ReadsExactly seen (Ok t) value = value ≡ Ok (seen t)
ReadsExactly seen (Err (Fault rule place)) value = value ≡ Err (rule, place)
ReadsExactly seen (Err Memory) value = ⊥

-- The lists that are open while a text is read, the outermost first.
use Rattle.std.specs.Prelude.{◌≡◌, ℕ, List, [], ◌∷◌, ◌++◌, map, Option, Some, None, Result, Ok, Err}
use Rattle.stack_text.specs.{Tokens.{Token, opens_at, between, tokens}, Trees.{Node, tokens_of, tokens_of_all, as_kept}}
use Rattle.stack_text.specs.{Views.TreeView.{node_of, nodes_of}, TextFaults.{Context, before, within, after, after_tree, first_fault}}
use Rattle.stack_text.specs.{TextFaults.{text_fault}, declared.reader.OpenList.{OpenList}, declared.tree.TextTree.{TextTree}}
use Rattle.stack_text.specs.{declared.text_fault.TextFault.{TextFault}, declared.text_fault.TextFault.TheVariants.{Fault, Memory}}

-- the tokens so far, those of the whole trees in the open lists among them
abbrev pub opened : List OpenList → List Token
opened [] = []
opened (o ∷ os) = opens_at o.place ∷ (tokens_of_all (nodes_of o.items.items) ++ opened os)

abbrev pub context_from : Context → List OpenList → Context
context_from s [] = s
context_from s (o ∷ os) = context_from (within o.place s) os

-- where the next token is
abbrev pub context : List OpenList → Context
context os = context_from before os

-- The tree went into the innermost list, or is given back where none is open.
abbrev pub Puts : Type 0 → List OpenList → TextTree → Result (Option TextTree) TextFault → List OpenList → Type 0
Puts refused old t (Ok None) new = (opened new ≡ opened old ++ tokens_of (node_of t)) × (context new ≡ after_tree (context old))
Puts refused old t (Ok (Some u)) new = (old ≡ []) × (u ≡ t)
Puts refused old t (Err (Fault rule place)) new = ⊥
Puts refused old t (Err Memory) new = refused

-- The token was taken in, or ended the whole tree, or is a fault, whatever tokens follow.
abbrev pub Steps : Type 0 → List OpenList → Token → Result (Option TextTree) TextFault → List OpenList → Type 0
Steps refused old t (Ok None) new =
    (opened old ++ as_kept t ∷ [] ≡ opened new)
    × ((end : ℕ) (ts : List Token) → first_fault end (context old) (t ∷ ts) ≡ first_fault end (context new) ts)
Steps refused old t (Ok (Some tree)) new =
    (opened old ++ as_kept t ∷ [] ≡ tokens_of (node_of tree))
    × ((end : ℕ) (ts : List Token) → first_fault end (context old) (t ∷ ts) ≡ first_fault end after ts)
Steps refused old t (Err (Fault rule place)) new = (end : ℕ) (ts : List Token) → first_fault end (context old) (t ∷ ts) ≡ Some (rule, place)
Steps refused old t (Err Memory) new = refused

-- The tree is returned, if none of these tokens follows it.
abbrev pub ReturnsAlone : ℕ → TextTree → List Token → Result TextTree TextFault → Type 0
ReturnsAlone end t ts (Ok u) = (ts ≡ []) × (u ≡ t)
ReturnsAlone end t ts (Err (Fault rule place)) = first_fault end after ts ≡ Some (rule, place)
ReturnsAlone end t ts (Err Memory) = ⊥

-- What was read of a whole text: a tree with the text's tokens and no fault, or the first fault. What clauses see of a tree is `seen`.
abbrev pub ReadsText : {T : Type 0} → Type 0 → (T → Node) → List ℕ → Result T TextFault → Type 0
ReadsText refused seen text (Ok t) = (text_fault text ≡ None) × (map as_kept (tokens between 0 text) ≡ tokens_of (seen t))
ReadsText refused seen text (Err (Fault rule place)) = text_fault text ≡ Some (rule, place)
ReadsText refused seen text (Err Memory) = refused

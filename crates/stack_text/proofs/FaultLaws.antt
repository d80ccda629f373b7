-- A text is a tree's exactly where it has no fault.
use Rattle.std.proofs.Common.{◌≡◌, ◌↔◌, ℕ, ltb, List, [], ◌∷◌, ◌++◌, map, length, None, refl, sym, ap, ◌∙◌, append_assoc}
use Rattle.stack_text.{specs.Tokens.{Token, opens_at, closes_at, atom_at, invalid_at, between, tokens}, specs.Trees.{Node, Nodes, atom, list, none, more}}
use Rattle.stack_text.{specs.Trees.{tokens_of, tokens_of_all, as_kept, TreeOf}, specs.TextFaults.{Context, before, within, after, open_lists, after_tree}}
use Rattle.stack_text.{specs.TextFaults.{first_fault, text_fault}, specs.declared.text_fault.TextRule.TheVariants.G4, proofs.TreeLaws.guarded}
use Rattle.stack_text.proofs.TreeLaws.{tree_has_no_fault, tree_from_no_fault}

-- the tokens close all open lists, with whole trees before each `)`, and nothing follows
abbrev Closes : Context → List Token → Type 0
Closes before ts = ts ≡ []
Closes (within p s) ts = (us : Nodes) × (rest : List Token) × (ts ≡ tokens_of_all us ++ (closes_at 0 ∷ rest)) × Closes s rest
Closes after ts = ts ≡ []

-- the tokens are those of a tree, or of the rest of one
abbrev Completes : Context → List Token → Type 0
Completes before ts = (t : Node) × (ts ≡ tokens_of t)
Completes (within p s) ts = Closes (within p s) ts
Completes after ts = ts ≡ []

nested : (q : ℕ) (us vs : Nodes) (ts rest later : List Token) → ts ≡ tokens_of_all us ++ (closes_at 0 ∷ rest)
    → rest ≡ tokens_of_all vs ++ (closes_at 0 ∷ later) →
    opens_at q ∷ ts ≡ tokens_of_all (more (list q us) vs) ++ (closes_at 0 ∷ later)
nested q us vs ts rest later e f =
    ap (λ (xs : List Token). opens_at q ∷ xs) (e ∙ ap (λ (xs : List Token). tokens_of_all us ++ (closes_at 0 ∷ xs)) f)
    ∙ sym (append_assoc (opens_at q ∷ tokens_of_all us) (closes_at 0 ∷ []) (tokens_of_all vs ++ (closes_at 0 ∷ later)))
    ∙ sym (append_assoc (tokens_of (list q us)) (tokens_of_all vs) (closes_at 0 ∷ later))

after_closing : (s : Context) (ts : List Token) → Completes (after_tree s) ts → Closes s ts
after_closing before ts h = h
after_closing (within p s) ts h = h
after_closing after ts h = h

completes : (ts : List Token) (end : ℕ) (s : Context) → first_fault end s ts ≡ None → Completes s (map as_kept ts)
completes [] end before e = absurd cc
completes [] end (within p s) e = absurd cc
completes [] end after e = refl
completes (opens_at q ∷ ts) end before e =
    let h = completes ts end (within q before) e in
    (list q h.0, ap (λ (xs : List Token). opens_at q ∷ xs) (h.2 ∙ ap (λ (xs : List Token). tokens_of_all h.0 ++ (closes_at 0 ∷ xs)) h.3))
completes (closes_at q ∷ ts) end before e = absurd cc
completes (atom_at q w ∷ ts) end before e = (atom q w, ap (λ (xs : List Token). atom_at q w ∷ xs) (completes ts end after e))
completes (invalid_at q ∷ ts) end before e = absurd cc
completes (opens_at q ∷ ts) end (within p s) e =
    let g = guarded (ltb (open_lists (within p s)) 200) (first_fault end (within q (within p s)) ts) (G4, q) e in
    let h = completes ts end (within q (within p s)) g.1 in
    (more (list q h.0) h.3.0, h.3.1, nested q h.0 h.3.0 (map as_kept ts) h.1 h.3.1 h.2 h.3.2, h.3.3)
completes (closes_at q ∷ ts) end (within p s) e = (none, map as_kept ts, refl, after_closing s (map as_kept ts) (completes ts end (after_tree s) e))
completes (atom_at q w ∷ ts) end (within p s) e =
    let h = completes ts end (within p s) e in
    (more (atom q w) h.0, h.1, ap (λ (xs : List Token). atom_at q w ∷ xs) h.2, h.3)
completes (invalid_at q ∷ ts) end (within p s) e = absurd cc
completes (opens_at q ∷ ts) end after e = absurd cc
completes (closes_at q ∷ ts) end after e = absurd cc
completes (atom_at q w ∷ ts) end after e = absurd cc
completes (invalid_at q ∷ ts) end after e = absurd cc

-- a text with no fault has a tree
pub no_fault_has_tree : (text : List ℕ) → text_fault text ≡ None → (t : Node) × TreeOf text t
no_fault_has_tree text e = let h = completes (tokens between 0 text) (length text) before e in (h.0, tree_from_no_fault text h.0 e h.1)

-- it has one exactly there
pub tree_iff_no_fault : (text : List ℕ) → ((t : Node) × TreeOf text t) ↔ (text_fault text ≡ None)
tree_iff_no_fault text = (λ h. tree_has_no_fault text h.0 h.1, no_fault_has_tree text)

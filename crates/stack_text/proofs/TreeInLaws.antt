-- The tokens of a tree are put together to that tree.
use Rattle.std.{proofs.Common.{◌≡◌, ℕ, List, [], ◌∷◌, ◌++◌, map, Ok, Err, Result, IfErr, refl, sym, ap, ◌∙◌, append_assoc}, proofs.lemmas.List.append-nil}
use Rattle.stack_text.{specs.declared.text_fault.TextFault.TextFault, specs.declared.text_fault.TextFault.TheVariants.{Fault, Memory}}
use Rattle.stack_text.{specs.declared.text_fault.TextRule.TextRule, specs.Tokens.{Token, opens_at, closes_at, atom_at, invalid_at, between, tokens}}
use Rattle.stack_text.{specs.Trees.{Node, Nodes, atom, list, none, more, tokens_of, tokens_of_all, as_kept, TreeOf}, specs.Internal.OpenLists.ReadsText}
use Rattle.stack_text.{proofs.TreeLaws.tree_has_no_fault, specs.TreeIn.{in_front, as_item, items_of, first_item, tree_in, GivesTreeUnless, ReadsExactly}}

-- trees put in front of the items of the innermost list
abbrev all_in_front : Nodes → List Nodes → List Nodes
all_in_front none items = items
all_in_front (more t ts) items = in_front t (all_in_front ts items)

all_in_front-none : (ts : Nodes) (outer : List Nodes) → all_in_front ts (none ∷ outer) ≡ ts ∷ outer
all_in_front-none none outer = refl
all_in_front-none (more t ts) outer = ap (in_front t) (all_in_front-none ts outer)

-- no tree keeps the place of a `)`
items_of-as_kept : (ts : List Token) → items_of (map as_kept ts) ≡ items_of ts
unfolding items_of
items_of-as_kept [] = refl
items_of-as_kept (opens_at p ∷ ts) = ap (as_item p) (items_of-as_kept ts)
items_of-as_kept (closes_at p ∷ ts) = ap (λ (items : List Nodes). none ∷ items) (items_of-as_kept ts)
items_of-as_kept (atom_at p w ∷ ts) = ap (in_front (atom p w)) (items_of-as_kept ts)
items_of-as_kept (invalid_at p ∷ ts) = items_of-as_kept ts

mutual
  unfolding items_of

  items_of-tree : (t : Node) (ts : List Token) → items_of (tokens_of t ++ ts) ≡ in_front t (items_of ts)
  items_of-tree (atom p w) ts = refl
  items_of-tree (list p us) ts =
      ap (λ (rest : List Token). as_item p (items_of rest)) (append_assoc (tokens_of_all us) (closes_at 0 ∷ []) ts)
      ∙ ap (as_item p) (items_of-trees us (closes_at 0 ∷ ts) ∙ all_in_front-none us (items_of ts))

  items_of-trees : (us : Nodes) (ts : List Token) → items_of (tokens_of_all us ++ ts) ≡ all_in_front us (items_of ts)
  items_of-trees none ts = refl
  items_of-trees (more t us) ts =
      ap items_of (append_assoc (tokens_of t) (tokens_of_all us) ts) ∙ items_of-tree t (tokens_of_all us ++ ts) ∙ ap (in_front t) (items_of-trees us ts)

tree_in-tokens : (text : List ℕ) (t : Node) → map as_kept (tokens between 0 text) ≡ tokens_of t → first_item (items_of (tokens between 0 text)) ≡ t
unfolding items_of
tree_in-tokens text t e =
    ap first_item (sym (items_of-as_kept (tokens between 0 text)) ∙ ap items_of (e ∙ sym (append-nil (tokens_of t))) ∙ items_of-tree t [])

-- a text that is a tree's has that tree
pub tree_in-TreeOf : (text : List ℕ) (t : Node) → TreeOf text t → tree_in text ≡ Ok t
unfolding tree_in
tree_in-TreeOf text t h = rw (tree_has_no_fault text t h) (ap (λ (u : Node). Ok u) (tree_in-tokens text t h.tokens_are))

pub gives_tree : {T : Type 0} (R : Type 0) (seen : T → Node) (text : List ℕ) (result : Result T TextFault) → ReadsText R seen text result
    → GivesTreeUnless R seen result (tree_in text)
unfolding tree_in
gives_tree R seen text (Ok t) h = rw h.0 (ap (λ (u : Node). Ok u) (tree_in-tokens text (seen t) h.1))
gives_tree R seen text (Err (Fault rule place)) h = rw h refl
gives_tree R seen text (Err Memory) h = h

-- where memory runs out for a reason that isn't there, reading is exact
pub reads_exactly : {T : Type 0} (R : Type 0) (seen : T → Node) (Why : Type 0) (result : Result T TextFault)
    (value : Result Node (TextRule × ℕ)) → ¬ Why → GivesTreeUnless R seen result value
    → IfErr result (λ e. e ≡ Memory → Why) → ReadsExactly seen result value
reads_exactly R seen Why (Ok t) value not h k = h
reads_exactly R seen Why (Err (Fault rule place)) value not h k = h
reads_exactly R seen Why (Err Memory) value not h k = absurd (not (k refl))

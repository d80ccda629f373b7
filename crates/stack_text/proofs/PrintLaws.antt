-- What is printed spells the tree, so that it is read again.
use Rattle.std.proofs.Common.{◌≡◌, Vec, Global, ℕ, zero, suc, ◌+◌, ◌<◌, ◌≤◌, List, [], ◌∷◌, ◌++◌, map, length, get_or, take, cond, eqb, refl, sym, ap, subst}
use Rattle.std.{proofs.Common.{◌∙◌, append_assoc, arith}, specs.Prelude.{Bool, true, false, if◌then◌else◌}, proofs.lemmas.List.{append-nil, map_push}}
use Rattle.std.{proofs.lemmas.List.{take_more, length-append, length-take, length-map, take_all}, proofs.lemmas.Bool.ne_eqb}
use Rattle.stack_text.{specs.Trees.{Node, Nodes, atom, list, none, more, IsWellFormed, ReadsAs}, specs.Views.TreeView.{nodes, owned_node, owned_nodes}}
use Rattle.stack_text.{specs.TreeText.{tree_text, items_text, spaced_text}, specs.Internal.Spellings.{Spells, SpellsAll, SpellsRest}}
use Rattle.stack_text.{specs.declared.tree.Tree.Tree, specs.declared.tree.Tree.TheViews.List as MadeList, proofs.TreeViewLaws.owned_node-list}
use Rattle.stack_text.proofs.SpellingLaws.{spelled_is_read}
use Rattle.stack_heap.specs.Heaps.{FitsBound}

-- ---- printing in a loop

spaced_text-push : (ts : List Node) (t : Node) → spaced_text (nodes (ts ++ t ∷ [])) ≡ spaced_text (nodes ts) ++ 32 ∷ tree_text t
spaced_text-push [] t = ap (λ (w : List ℕ). 32 ∷ w) (append-nil (tree_text t))
spaced_text-push (x ∷ ts) t = ap (λ (w : List ℕ). 32 ∷ (tree_text x ++ w)) (spaced_text-push ts t)
    ∙ ap (λ (w : List ℕ). 32 ∷ w) (sym (append_assoc (tree_text x) (spaced_text (nodes ts)) (32 ∷ tree_text t)))

items_text-push : (ts : List Node) (t : Node) → items_text (nodes (ts ++ t ∷ [])) ≡ (items_text (nodes ts) ++ cond (eqb (length ts) 0) [] (32 ∷ []))
    ++ tree_text t
items_text-push [] t = append-nil (tree_text t)
items_text-push (x ∷ ts) t = rw (ne_eqb (suc (length ts)) 0 (λ e. omega arith))
    (ap (λ (w : List ℕ). tree_text x ++ w) (spaced_text-push ts t) ∙ sym (append_assoc (tree_text x) (spaced_text (nodes ts)) (32 ∷ tree_text t))
    ∙ sym (append_assoc (tree_text x ++ spaced_text (nodes ts)) (32 ∷ []) (tree_text t)))

pub items_text-owned_nodes-more : (ts : List Tree) (i : ℕ) (t : Tree) → i < length ts → t ≡ get_or ts i t
    → items_text (owned_nodes (take (i + 1) ts)) ≡ (items_text (owned_nodes (take i ts)) ++ cond (eqb i 0) [] (32 ∷ [])) ++ tree_text (owned_node t)
items_text-owned_nodes-more ts i t lt is =
    let long : length (map owned_node (take i ts)) ≡ i = omega (arith, length-map (take i ts) owned_node, length-take i ts) in
    ap (λ (us : List Tree). items_text (owned_nodes us)) (take_more ts i t lt ∙ ap (λ (u : Tree). take i ts ++ u ∷ []) (sym is))
    ∙ ap (λ (us : List Node). items_text (nodes us)) (map_push owned_node (take i ts) t)
    ∙ items_text-push (map owned_node (take i ts)) (owned_node t)
    ∙ ap (λ (n : ℕ). (items_text (owned_nodes (take i ts)) ++ cond (eqb n 0) [] (32 ∷ [])) ++ tree_text (owned_node t)) long

pub printed_more : (old out apart new : List ℕ) (ts : List Tree) (i : ℕ) (t : Tree) → i < length ts → t ≡ get_or ts i t →
    out ≡ old ++ 40 ∷ items_text (owned_nodes (take i ts)) → apart ≡ out ++ cond (eqb i 0) [] (32 ∷ []) → new ≡ apart ++ tree_text (owned_node t)
    → new ≡ old ++ 40 ∷ items_text (owned_nodes (take (i + 1) ts))
printed_more old out apart new ts i t lt is out_is apart_is new_is =
    new_is ∙ ap (λ (w : List ℕ). w ++ tree_text (owned_node t)) (apart_is ∙ ap (λ (w : List ℕ). w ++ cond (eqb i 0) [] (32 ∷ [])) out_is)
    ∙ ap (λ (w : List ℕ). w ++ tree_text (owned_node t)) (append_assoc old (40 ∷ items_text (owned_nodes (take i ts))) (cond (eqb i 0) [] (32 ∷ [])))
    ∙ append_assoc old (40 ∷ (items_text (owned_nodes (take i ts)) ++ cond (eqb i 0) [] (32 ∷ []))) (tree_text (owned_node t))
    ∙ ap (λ (w : List ℕ). old ++ 40 ∷ w) (sym (items_text-owned_nodes-more ts i t lt is))

pub printed_all : (old out new : List ℕ) (p : ℕ) (v : Vec Tree Global) (t : Tree) (i : ℕ) → length v.items ≤ i → t ≡ MadeList p v →
    out ≡ old ++ 40 ∷ items_text (owned_nodes (take i v.items)) → new ≡ out ++ 41 ∷ [] → new ≡ old ++ tree_text (owned_node t)
printed_all old out new p v t i le is out_is new_is =
    new_is ∙ ap (λ (w : List ℕ). w ++ 41 ∷ []) (out_is ∙ ap (λ (us : List Tree). old ++ 40 ∷ items_text (owned_nodes us)) (take_all i v.items le))
    ∙ append_assoc old (40 ∷ items_text (owned_nodes v.items)) (41 ∷ [])
    ∙ ap (λ (n : Node). old ++ tree_text n) (sym (ap owned_node is ∙ owned_node-list p v))

-- the text of the first ones is no longer than that of all
spaced_front : (i : ℕ) (ts : List Tree) → length (spaced_text (owned_nodes (take i ts))) ≤ length (spaced_text (owned_nodes ts))
spaced_front zero ts = omega arith
spaced_front (suc i) [] = omega arith
spaced_front (suc i) (t ∷ ts) =
    let others = spaced_front i ts in
    omega (
      arith,
      others,
      length-append (tree_text (owned_node t)) (spaced_text (owned_nodes (take i ts))),
      length-append (tree_text (owned_node t)) (spaced_text (owned_nodes ts)),
    )

items_front : (i : ℕ) (ts : List Tree) → length (items_text (owned_nodes (take i ts))) ≤ length (items_text (owned_nodes ts))
items_front zero ts = omega arith
items_front (suc i) [] = omega arith
items_front (suc i) (t ∷ ts) =
    let others = spaced_front i ts in
    omega (
      arith,
      others,
      length-append (tree_text (owned_node t)) (spaced_text (owned_nodes (take i ts))),
      length-append (tree_text (owned_node t)) (spaced_text (owned_nodes ts)),
    )

-- so what is printed of a list so far is within the bound of all
pub printed_front : (bound : ℕ) (old out : List ℕ) (p : ℕ) (v : Vec Tree Global) (t : Tree) (i : ℕ) → t ≡ MadeList p v
    → FitsBound bound (length (old ++ tree_text (owned_node t))) → out ≡ old ++ 40 ∷ items_text (owned_nodes (take i v.items))
    → FitsBound bound (length out)
printed_front bound old out p v t i is fits out_is = λ bounded.
    let all : length (old ++ tree_text (owned_node t)) ≡ length (old ++ 40 ∷ (items_text (owned_nodes v.items) ++ 41 ∷ []))
    = ap (λ (n : Node). length (old ++ tree_text n)) (ap owned_node is ∙ owned_node-list p v) in
    omega (
      arith,
      fits bounded,
      all,
      ap length out_is,
      items_front i v.items,
      length-append old (40 ∷ items_text (owned_nodes (take i v.items))),
      length-append old (40 ∷ (items_text (owned_nodes v.items) ++ 41 ∷ [])),
      length-append (items_text (owned_nodes v.items)) (41 ∷ []),
    )

-- and so it is with the next item
pub printed_item : (bound : ℕ) (old out apart : List ℕ) (p : ℕ) (v : Vec Tree Global) (t : Tree) (i : ℕ) (u : Tree) → t ≡ MadeList p v
    → FitsBound bound (length (old ++ tree_text (owned_node t))) → i < length v.items → u ≡ get_or v.items i u
    → out ≡ old ++ 40 ∷ items_text (owned_nodes (take i v.items)) → apart ≡ out ++ cond (eqb i 0) [] (32 ∷ [])
    → FitsBound bound (length (apart ++ tree_text (owned_node u)))
printed_item bound old out apart p v t i u is fits lt u_is out_is apart_is =
    let printed = apart ++ tree_text (owned_node u) in
    printed_front bound old printed p v t (i + 1) is fits (printed_more old out apart printed v.items i u lt u_is out_is apart_is refl)

-- ---- reading what was printed

mutual
  -- what is printed for a tree spells it
  pub Spells-tree_text : (t : Node) → Spells t (tree_text t)
  Spells-tree_text (atom p bytes) = refl
  Spells-tree_text (list p ts) = (items_text ts, SpellsAll-items_text ts, refl)

  pub SpellsAll-items_text : (ts : Nodes) → SpellsAll ts (items_text ts)
  SpellsAll-items_text none = refl
  SpellsAll-items_text (more t ts) = (tree_text t, spaced_text ts, Spells-tree_text t, SpellsRest-spaced_text ts, refl)

  pub SpellsRest-spaced_text : (ts : Nodes) → SpellsRest ts (spaced_text ts)
  SpellsRest-spaced_text none = refl
  SpellsRest-spaced_text (more t ts) = (32 ∷ [], tree_text t, spaced_text ts, omega arith, (tt, tt), Spells-tree_text t, SpellsRest-spaced_text ts, refl)

pub tree_text_reads : (t : Node) → IsWellFormed t → ReadsAs (tree_text t) t
tree_text_reads t form = subst (λ (text : List ℕ). ReadsAs text t) (append-nil (tree_text t)) (spelled_is_read t (tree_text t) [] form (Spells-tree_text t) tt)

-- a text behind a space where it isn't the first, and what follows it
pub apart_by : (b : Bool) (out text others : List ℕ) → ((out ++ (if b then [] else 32 ∷ [])) ++ text) ++ others ≡ out
    ++ (if b then text ++ others else 32 ∷ (text ++ others))
apart_by true out text others = rw (append-nil out) (append_assoc out text others)
apart_by false out text others = append_assoc (out ++ 32 ∷ []) text others ∙ append_assoc out (32 ∷ []) (text ++ others)

-- What a clause sees of a tree that is made, and that is matched.
use Rattle.std.proofs.Common.{◌≡◌, Vec, Global, ℕ, ◌+◌, ◌<◌, ◌≤◌, List, [], ◌∷◌, ◌++◌, map, length, get_or, take, sym, ap, ap₂, ◌∙◌}
use Rattle.std.{proofs.lemmas.List.{map_push, take_more, take_all}, specs.Borrow.Bor}
use Rattle.stack_text.{specs.Trees.{Node, atom, list}, specs.Views.TreeView.{nodes, node_of_layer, node_of, nodes_of, owned_layer, owned_node, owned_nodes}}
use Rattle.stack_text.{specs.declared.tree.TextTree.TextTree, specs.declared.tree.TextTree.TheBlock.Atom}
use Rattle.stack_text.{specs.declared.tree.TextTree.TheViews.List as MadeList, specs.declared.tree.TextTree.TheOpen.{Atom as AtomF, List as ListF}}
use Rattle.stack_text.{specs.declared.tree.TextTree.TheVariants.{rolls-Atom, rolls-List}, specs.declared.tree.TextTree.TheFolds.fold-roll-TextTree}
use Rattle.stack_text.{specs.declared.tree.Tree.Tree, specs.declared.tree.Tree.TheBlock.Atom as OwnedAtom, specs.declared.tree.Tree.TheViews.List as OwnedList}
use Rattle.stack_text.specs.declared.tree.Tree.TheOpen.{Atom as OwnedAtomF, List as OwnedListF}
use Rattle.stack_text.specs.declared.tree.Tree.TheVariants.{rolls-Atom as rolls-OwnedAtom, rolls-List as rolls-OwnedList}
use Rattle.stack_text.specs.declared.tree.Tree.TheFolds.{fold-roll-Tree}

pub node_of-atom : (p : ℕ) (bytes : Bor (List ℕ)) → node_of (Atom p bytes) ≡ atom p bytes.now
node_of-atom p bytes = ap node_of (sym (rolls-Atom p bytes)) ∙ fold-roll-TextTree Node node_of_layer (AtomF p bytes)

pub node_of-list : (p : ℕ) (items : Vec TextTree Global) → node_of (MadeList p items) ≡ list p (nodes_of items.items)
node_of-list p items = ap node_of (sym (rolls-List p items)) ∙ fold-roll-TextTree Node node_of_layer (ListF p items)

pub owned_node-atom : (p : ℕ) (bytes : Vec ℕ Global) → owned_node (OwnedAtom p bytes) ≡ atom p bytes.items
owned_node-atom p bytes = ap owned_node (sym (rolls-OwnedAtom p bytes)) ∙ fold-roll-Tree Node owned_layer (OwnedAtomF p bytes)

pub owned_node-list : (p : ℕ) (items : Vec Tree Global) → owned_node (OwnedList p items) ≡ list p (owned_nodes items.items)
owned_node-list p items = ap owned_node (sym (rolls-OwnedList p items)) ∙ fold-roll-Tree Node owned_layer (OwnedListF p items)

-- ---- a tree copied in a loop

pub copied_more : (owned new : List Tree) (ts : List TextTree) (i : ℕ) (t : TextTree) (u : Tree) → i < length ts → t ≡ get_or ts i t →
    map owned_node owned ≡ map node_of (take i ts) → owned_node u ≡ node_of t → new ≡ owned ++ u ∷ [] → map owned_node new ≡ map node_of (take (i + 1) ts)
copied_more owned new ts i t u lt is so_far same new_is =
    ap (map owned_node) new_is ∙ map_push owned_node owned u
    ∙ ap₂ (λ (ns : List Node) (n : Node). ns ++ n ∷ []) so_far same
    ∙ sym (map_push node_of (take i ts) t)
    ∙ ap (map node_of) (ap (λ (u : TextTree). take i ts ++ u ∷ []) is ∙ sym (take_more ts i t lt))

pub copied_all : (owned : Vec Tree Global) (p : ℕ) (v : Vec TextTree Global) (t : TextTree) (i : ℕ) → length v.items ≤ i → t ≡ MadeList p v →
    map owned_node owned.items ≡ map node_of (take i v.items) → owned_node (OwnedList p owned) ≡ node_of t
copied_all owned p v t i le is so_far =
    owned_node-list p owned
    ∙ ap (λ (ns : List Node). list p (nodes ns)) (so_far ∙ ap (map node_of) (take_all i v.items le))
    ∙ sym (ap node_of is ∙ node_of-list p v)

-- A printed text spells its tree.
use Rattle.std.{proofs.Common.{◌≡◌, ℕ, List, [], ◌∷◌, ◌++◌, map, refl, ap, append_assoc, arith}, specs.List.flat_map}
use Rattle.stack_text.{specs.Trees.{Node, list, without_places as unplaced_tree, all_without_places}, specs.TreeText.{tree_text, items_text, spaced_text}}
use Rattle.stack_text.{specs.Views.TreeView.nodes, specs.Internal.Spellings.{Spells, SpellsRest}, proofs.PrintLaws.Spells-tree_text}
use Rattle.stack_text.specs.Grammar.Printed.{lines_text}

-- items on lines of their own
pub spells_lines : {X : Type 0} (tree : X → Node) (text : X → List ℕ) → ((x : X) → Spells (tree x) (text x)) → (xs : List X)
    → SpellsRest (nodes (map tree xs)) (flat_map (λ x. 10 ∷ text x) xs)
spells_lines tree text h [] = refl
spells_lines tree text h (x ∷ xs) = (10 ∷ [], text x, flat_map (λ y. 10 ∷ text y) xs, omega arith, (tt, tt), h x, spells_lines tree text h xs, refl)

-- after items with a space before each
pub spells_after : (ts us : List Node) (text : List ℕ) → SpellsRest (nodes us) text → SpellsRest (nodes (ts ++ us)) (spaced_text (nodes ts) ++ text)
spells_after [] us text h = h
spells_after (t ∷ ts) us text h = (
  32 ∷ [],
  tree_text t,
  spaced_text (nodes ts) ++ text,
  omega arith,
  (tt, tt),
  Spells-tree_text t,
  spells_after ts us text h,
  ap (λ (w : List ℕ). 32 ∷ w) (append_assoc (tree_text t) (spaced_text (nodes ts)) text),
)

-- a list of a head and lines
pub spells_list : {X : Type 0} (tree : X → Node) (text : X → List ℕ) → ((x : X) → Spells (tree x) (text x)) → (t : Node) (ts : List Node) (xs : List X) →
    Spells (list 0 (nodes ((t ∷ ts) ++ map tree xs))) (lines_text text (t ∷ ts) xs)
spells_list tree text h t ts xs =
    let lines = flat_map (λ x. 10 ∷ text x) xs in (
      items_text (nodes (t ∷ ts)) ++ lines,
      (
        tree_text t,
        spaced_text (nodes ts) ++ lines,
        Spells-tree_text t,
        spells_after ts (map tree xs) lines (spells_lines tree text h xs),
        append_assoc (tree_text t) (spaced_text (nodes ts)) lines,
      ),
      refl,
    )

pub unplaced_all : {X : Type 0} (tree : X → Node) → ((x : X) → unplaced_tree (tree x) ≡ tree x) → (xs : List X)
    → all_without_places (nodes (map tree xs)) ≡ nodes (map tree xs)
unplaced_all tree h [] = refl
unplaced_all tree h (x ∷ xs) = rw (h x, unplaced_all tree h xs) refl

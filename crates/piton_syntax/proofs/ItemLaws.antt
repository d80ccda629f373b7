-- The items of a list by the first, and those that follow, as they are read and printed.
use Rattle.std.proofs.Common.{◌≡◌, ◌≢◌, ◌<◌, ◌+◌, ℕ, Bool, true, false, List, [], ◌∷◌, ◌++◌, length, drop, get_or, map, refl, sym, ap, ◌∙◌, arith}
use Rattle.std.{specs.Prelude.{◌==◌, if◌then◌else◌, Result, Ok, Err}, proofs.lemmas.Bool.{eqb-true, eqb-false, ne_eqb}}
use Rattle.stack_text.{specs.declared.breach.Breach.Breach, specs.Trees.{Node, none, more}, specs.TreeText.{spaced_text, tree_text}}
use Rattle.stack_text.{specs.Views.TreeView.{node_of, nodes, nodes_of}, specs.Grammar.Judged.{Judged, ◌⊛◌}, specs.Grammar.Printed.items_after}
use Rattle.stack_text.{specs.Grammar.Reading.Finds, proofs.Loops.drop-item, proofs.PrintLaws.apart_by, specs.declared.tree.TextTree.TextTree}
use Rattle.stack_text.proofs.TreeListLaws.{no_parts, rest, rest_is_drop}

first_and_rest : (ts : List TextTree) (first : TextTree) → length ts ≢ 0 → first ≡ get_or ts 0 first
    → nodes_of ts ≡ more (node_of first) (nodes_of (rest 1 ts))
first_and_rest [] first ne is = absurd (ne refl)
first_and_rest (t ∷ ts) first ne is = rw (is, rest_is_drop 1 (t ∷ ts)) refl

-- a list that was found empty has no items
pub no_items : (ts : List TextTree) {empty : Bool} → empty ≡ (length ts == 0) → empty ≡ true → nodes_of ts ≡ none
no_items ts test is = no_parts ts (eqb-true (length ts) 0 (sym test ∙ is))

-- one that was not has the first, which was matched, and the others
pub first_item : (ts : List TextTree) (first : TextTree) {matched : TextTree} {node : Node} {empty : Bool} → empty ≡ (length ts == 0) → empty ≡ false
    → first ≡ get_or ts 0 first → first ≡ matched → node_of matched ≡ node → nodes_of ts ≡ more node (nodes_of (rest 1 ts))
first_item ts first test is_not is matches seen =
    first_and_rest ts first (eqb-false (length ts) 0 (sym test ∙ is_not)) is ∙ ap (λ (n : Node). more n (nodes_of (rest 1 ts))) (ap node_of matches ∙ seen)

-- an item is printed behind a space where it is not the first: it, and what is left, after what is there
pub items_next : {X : Type 0} (tree : X → Node) (xs : List X) (n : ℕ) (x : X) (out apart text all : List ℕ) → n < length xs → x ≡ get_or xs n x
    → apart ≡ out ++ (if n == 0 then [] else 32 ∷ []) → text ≡ apart ++ tree_text (tree x)
    → out ++ items_after n (nodes (map tree (drop n xs))) ≡ all → text ++ items_after (n + 1) (nodes (map tree (drop (n + 1) xs))) ≡ all
items_next {X} tree xs n x out apart text all lt is apart_is text_is so_far =
    rw (text_is, apart_is, ne_eqb (n + 1) 0 (λ k. omega (arith, k)))
    (apart_by (n == 0) out (tree_text (tree x)) (spaced_text (nodes (map tree (drop (n + 1) xs)))))
    ∙ ap (λ (ys : List X). out ++ items_after n (nodes (map tree ys))) (sym (drop-item xs n x lt is))
    ∙ so_far

-- what a reader finds is found of each value that is made of it
pub finds_made : {X Y : Type 0} → (make : X → Y) (r : Result X Breach) (s : Judged X) → Finds (λ x. x) r s → Finds make r (Ok make ⊛ s)
finds_made make (Ok x) s h = rw h refl
finds_made make (Err breach) s h = (h.0, rw h.1 refl)

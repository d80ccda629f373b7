-- How many atoms and lists the trees of a list have at most.
use Rattle.std.{proofs.Common.{◌≡◌, ℕ, ◌+◌, ◌*◌, ◌≤◌, List, [], ◌∷◌, map, length, arith}, specs.List.sum_by, proofs.lemmas.List.Sums.sum_by-cons}
use Rattle.stack_text.{specs.declared.name.Named.Named, specs.Trees.{Node, node_count, node_counts}, specs.Views.TreeView.nodes}
use Rattle.stack_text.specs.Grammar.Printed.{name_tree}

-- by a bound for each
pub sum_over : {X : Type 0} (f : X → ℕ) (tree : X → Node) → ((x : X) → node_count (tree x) ≤ f x) → (xs : List X)
    → node_counts (nodes (map tree xs)) ≤ sum_by f xs
sum_over f tree over [] = omega arith
sum_over f tree over (x ∷ xs) = let one = over x in let others = sum_over f tree over xs in omega (arith, sum_by-cons f x xs, one, others)

-- by one bound for all
pub each_over : {X : Type 0} (n : ℕ) (tree : X → Node) → ((x : X) → node_count (tree x) ≤ n) → (xs : List X) → node_counts (nodes (map tree xs)) ≤ n * length xs
each_over n tree over [] = omega arith
each_over n tree over (x ∷ xs) =
    let one = over x in
    let others = each_over n tree over xs in
    let product : n * (1 + length xs) ≡ n + n * length xs = omega arith in
    omega (arith, one, others, product)

pub names_over : (ns : List Named) → node_counts (nodes (map name_tree ns)) ≤ length ns
names_over ns = let over = each_over 1 name_tree (λ n. omega arith) ns in omega (arith, over)

-- Trees of certificates.
use Rattle.std.proofs.Common.{◌≡◌, ◌≢◌, ℕ, zero, suc, ◌+◌, ◌<◌, ◌≤◌, ◌^◌, nat_le, List, [], ◌∷◌, length, get_or, set, drop, replicate, true, Option, Some, None}
use Rattle.std.{proofs.Common.{Result, Ok, refl, ap, sym, ◌∙◌, arith}, proofs.lemmas.Bool.{and_parts, le-leb, and_from}, proofs.lemmas.List.drop_all}
use Rattle.stack_text.{specs.Gives.FailsUnless, specs.Trees.more, specs.declared.tree.TextTree.TextTree, specs.Views.TreeView.{node_of, nodes_of}}
use Rattle.space_cert.{specs.CertText.{Fault, three_of, entry_at, with_entries}, specs.Covers.Bounds, specs.Bounded.{is_bound, are_bounds}}

pub not_three : (trees : List TextTree) → length trees ≢ 3 → None ≡ three_of (nodes_of trees)
not_three [] ne = refl
not_three (a ∷ []) ne = refl
not_three (a ∷ b ∷ []) ne = refl
not_three (a ∷ b ∷ c ∷ []) ne = absurd (ne refl)
not_three (a ∷ b ∷ c ∷ d ∷ trees) ne = refl

-- Entries one after another.

nodes_at : (trees : List TextTree) (i : ℕ) (tree : TextTree) → i < length trees → tree ≡ get_or trees i tree
    → nodes_of (drop i trees) ≡ more (node_of tree) (nodes_of (drop (i + 1) trees))
nodes_at [] i tree lt e = absurd (omega (arith, lt))
nodes_at (t ∷ trees) zero tree lt e = ap (λ (x : TextTree). more (node_of x) (nodes_of trees)) (sym e)
nodes_at (t ∷ trees) (suc i) tree lt e =
    let count : suc (i + 1) ≡ suc i + 1 = omega arith in
    nodes_at trees i tree (omega (arith, lt)) e ∙ ap (λ j. more (node_of tree) (nodes_of (drop j (t ∷ trees)))) count

module _ (names : List (List ℕ)) (trees : List TextTree) (i : ℕ) (tree : TextTree) (lt : i < length trees) (is : tree ≡ get_or trees i tree)
    (bs : Bounds) (all : Result Bounds Fault) (so_far : with_entries names bs (nodes_of (drop i trees)) ≡ all) where
  pub entry_next : (e : ℕ × (ℕ × ℕ)) → entry_at names bs (node_of tree) ≡ Ok e → with_entries names (set bs e.0 (Some e.1))
      (nodes_of (drop (i + 1) trees)) ≡ all
  unfolding with_entries
  entry_next e read = cc (read, nodes_at trees i tree lt is, so_far)

  pub entry_stops : (R : Type 0) (fault : Option Fault) → FailsUnless R fault (entry_at names bs (node_of tree)) → FailsUnless R fault all
  unfolding with_entries
  entry_stops R None h = h
  entry_stops R (Some fault) h = cc (so_far, nodes_at trees i tree lt is, h)

pub entries_end : (names : List (List ℕ)) (trees : List TextTree) (i : ℕ) (bs : Bounds) (all : Result Bounds Fault) → length trees ≤ i
    → with_entries names bs (nodes_of (drop i trees)) ≡ all → all ≡ Ok bs
unfolding with_entries
entries_end names trees i bs all le so_far = sym so_far ∙ ap (λ (ts : List TextTree). with_entries names bs (nodes_of ts)) (drop_all i trees le)

pub none_within : (n : ℕ) → are_bounds (replicate n None) ≡ true
none_within zero = refl
none_within (suc n) = none_within n

pub set_within : (bs : Bounds) (p : ℕ) (b : ℕ × ℕ) → are_bounds bs ≡ true → b.0 ≤ 2 ^ 40 → b.1 ≤ 2 ^ 40 → are_bounds (set bs p (Some b)) ≡ true
set_within [] p b h t c = refl
set_within (o ∷ bs) zero b h t c = and_from _ _ (and_from (nat_le b.0 (2 ^ 40)) (nat_le b.1 (2 ^ 40)) (le-leb b.0 (2 ^ 40) t) (le-leb b.1 (2 ^ 40) c))
    (and_parts (is_bound o) (are_bounds bs) h).1
set_within (o ∷ bs) (suc p) b h t c = and_from _ _ (and_parts (is_bound o) (are_bounds bs) h).0
    (set_within bs p b (and_parts (is_bound o) (are_bounds bs) h).1 t c)

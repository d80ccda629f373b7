-- Trees that are read one after the other, each of which has a value or a fault.
use Rattle.std.proofs.Common.{◌≡◌, ◌<◌, ◌≤◌, ◌+◌, ℕ, List, [], ◌∷◌, ◌++◌, length, drop, get_or, Option, Some, None, Result, Ok, Err, refl, sym, ap, ◌∙◌}
use Rattle.std.{proofs.Common.{append_assoc, append-nil}, proofs.lemmas.List.drop_all}
use Rattle.stack_text.{specs.Gives.Fails, specs.Results.◌>>=◌, specs.Trees.{Node, Nodes, none, more}, specs.Views.TreeView.{node_of, nodes_of}}
use Rattle.stack_text.{specs.declared.tree.TextTree.TextTree, proofs.Loops.drop-item}

-- items in front of those that are left
abbrev pub with_front : {X F : Type 0} → List X → Result (List X) F → Result (List X) F
with_front xs (Ok ys) = Ok (xs ++ ys)
with_front xs (Err fault) = Err fault

pub with_front-with_front : {X F : Type 0} (xs ys : List X) (rest : Result (List X) F) → with_front xs (with_front ys rest) ≡ with_front (xs ++ ys) rest
with_front-with_front {X} {F} xs ys (Ok zs) = let ok : List X → Result (List X) F = λ ws. Ok ws in ap ok (sym (append_assoc xs ys zs))
with_front-with_front xs ys (Err fault) = refl

pub with_front-none : {X F : Type 0} (xs : List X) → with_front {F = F} xs (Ok []) ≡ Ok xs
with_front-none {X} {F} xs = let ok : List X → Result (List X) F = λ ws. Ok ws in ap ok (append-nil xs)

-- `all` is `read` of each tree, and n of the trees were read to be xs
module _ {X F : Type 0} (read : Node → Result X F) (all : Nodes → Result (List X) F) (empty : all none ≡ Ok [])
    (step : (t : Node) (ts : Nodes) → all (more t ts) ≡ (read t >>= λ x. all ts >>= λ xs. Ok (x ∷ xs)))
    (xs : List X) (n : ℕ) (trees : List TextTree) (so_far : with_front xs (all (nodes_of (drop n trees))) ≡ all (nodes_of trees)) where
  split : (t : TextTree) → n < length trees → t ≡ get_or trees n t → all (nodes_of (drop n trees))
      ≡ (read (node_of t) >>= λ x. all (nodes_of (drop (n + 1) trees)) >>= λ xs. Ok (x ∷ xs))
  split t lt is = ap (λ (ts : List TextTree). all (nodes_of ts)) (drop-item trees n t lt is) ∙ step (node_of t) (nodes_of (drop (n + 1) trees))

  -- the next tree has a value
  pub next_read : (t : TextTree) (x : X) → n < length trees → t ≡ get_or trees n t → read (node_of t) ≡ Ok x
      → with_front (xs ++ x ∷ []) (all (nodes_of (drop (n + 1) trees))) ≡ all (nodes_of trees)
  next_read t x lt is e =
      let rest = all (nodes_of (drop (n + 1) trees)) in
      let one : all (nodes_of (drop n trees)) ≡ with_front (x ∷ []) rest
      = split t lt is ∙ ap (λ (r : Result X F). r >>= λ y. rest >>= λ ys. Ok (y ∷ ys)) e ∙ cases rest in
      sym (with_front-with_front xs (x ∷ []) rest) ∙ ap (with_front xs) (sym one) ∙ so_far
    where
      cases : (r : Result (List X) F) → (r >>= λ ys. Ok (x ∷ ys)) ≡ with_front (x ∷ []) r
      cases (Ok ys) = refl
      cases (Err fault) = refl

  -- the next tree has a fault, where `None` is out of memory
  pub next_fails : (fault : Option F) (t : TextTree) → n < length trees → t ≡ get_or trees n t → Fails fault (read (node_of t))
      → Fails fault (all (nodes_of trees))
  next_fails None t lt is e = tt
  next_fails (Some fault) t lt is e =
      let rest = all (nodes_of (drop (n + 1) trees)) in
      let failed : all (nodes_of (drop n trees)) ≡ Err fault = split t lt is ∙ ap (λ (r : Result X F). r >>= λ y. rest >>= λ ys. Ok (y ∷ ys)) e in
      sym so_far ∙ ap (with_front xs) failed

  -- there is no further tree
  pub all_read : length trees ≤ n → all (nodes_of trees) ≡ Ok xs
  all_read past = sym so_far ∙ ap (λ (ts : List TextTree). with_front xs (all (nodes_of ts))) (drop_all n trees past) ∙ ap (with_front xs) empty
      ∙ with_front-none xs

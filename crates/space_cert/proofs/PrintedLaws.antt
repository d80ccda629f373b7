-- Printing entries one after another.
use Rattle.std.proofs.Common.{◌≡◌, ℕ, zero, suc, ◌+◌, ◌<◌, ◌≤◌, List, [], ◌∷◌, ◌++◌, length, get_or, drop, Bool, true, false, if◌then◌else◌, ◌==◌, Some, None}
use Rattle.std.{proofs.Common.{refl, ap, sym, ◌∙◌, arith}, proofs.lemmas.Bool.ne_eqb, proofs.lemmas.List.{append-nil, drop_all}}
use Rattle.stack_text.{specs.Trees.{Node, none}, specs.TreeText.{tree_text, items_text, spaced_text}, specs.Views.TreeView.nodes}
use Rattle.stack_text.{specs.Grammar.Printed.items_after, proofs.PrintLaws.apart_by, proofs.Loops.drop-item}
use Rattle.gypsy_syntax.specs.declared.proc.Proc.{Proc}
use Rattle.gypsy_space.specs.Callees.{names_of}
use Rattle.space_cert.{specs.Covers.Bounds, specs.CertText.{entry_tree, entry_trees}}

bounds_left : (bs : Bounds) (i : ℕ) → i < length bs → drop i bs ≡ get_or bs i None ∷ drop (i + 1) bs
bounds_left [] i lt = absurd (omega (arith, lt))
bounds_left (b ∷ bs) zero lt = refl
bounds_left (b ∷ bs) (suc i) lt =
    let next : suc (i + 1) ≡ suc i + 1 = omega arith in
    bounds_left bs i (omega (arith, lt)) ∙ ap (λ (n : ℕ). get_or bs i None ∷ drop n (b ∷ bs)) next

-- the entries of the procedures from i on
abbrev pub entries_left : List Proc → Bounds → ℕ → List Node
entries_left procs bs i = entry_trees (names_of (drop i procs)) (drop i bs)

module _ (procs : List Proc) (bs : Bounds) (many : length bs ≡ length procs) (i : ℕ) (p : Proc) (lt : i < length procs) (is : p ≡ get_or procs i p) where
  one_left : entries_left procs bs i ≡ entry_trees (p.name.name ∷ names_of (drop (i + 1) procs)) (get_or bs i None ∷ drop (i + 1) bs)
  one_left = λ j. entry_trees (names_of (drop-item procs i p lt is j)) (bounds_left bs i (omega (arith, lt, many)) j)

  -- a procedure without bounds
  pub left_out : None ≡ get_or bs i None → entries_left procs bs (i + 1) ≡ entries_left procs bs i
  left_out e = sym (one_left ∙ ap (λ o. entry_trees (p.name.name ∷ names_of (drop (i + 1) procs)) (o ∷ drop (i + 1) bs)) (sym e))

  first_left : (b : ℕ × ℕ) → Some b ≡ get_or bs i None → entries_left procs bs i ≡ entry_tree p.name.name b ∷ entries_left procs bs (i + 1)
  first_left b e = one_left ∙ ap (λ o. entry_trees (p.name.name ∷ names_of (drop (i + 1) procs)) (o ∷ drop (i + 1) bs)) (sym e)

  -- one with bounds
  pub printed_next : (b : ℕ × ℕ) (k : ℕ) (out apart new all : List ℕ) → Some b ≡ get_or bs i None → apart ≡ out ++ (if k == 0 then [] else 32 ∷ [])
      → new ≡ apart ++ tree_text (entry_tree p.name.name b) →
      out ++ items_after k (nodes (entries_left procs bs i)) ≡ all → new ++ items_after (k + 1) (nodes (entries_left procs bs (i + 1))) ≡ all
  printed_next b k out apart new all e ea en so_far =
      let t = entry_tree p.name.name b in
      let ts = nodes (entries_left procs bs (i + 1)) in
      let later : (k + 1 == 0) ≡ false = ne_eqb (k + 1) 0 (λ z. omega arith) in
      (λ j. (en ∙ ap (λ (w : List ℕ). w ++ tree_text t) ea) j ++ (if later j then items_text ts else spaced_text ts))
      ∙ (apart_by (k == 0) out (tree_text t) (spaced_text ts) ∙ (ap (λ (us : List Node). out ++ items_after k (nodes us)) (sym (first_left b e)) ∙ so_far))

no_more : (b : Bool) → (if b then items_text none else spaced_text none) ≡ []
no_more true = refl
no_more false = refl

pub printed_end : (procs : List Proc) (bs : Bounds) (i k : ℕ) (out all : List ℕ) → length procs ≤ i
    → out ++ items_after k (nodes (entries_left procs bs i)) ≡ all → out ≡ all
printed_end procs bs i k out all le so_far = cc (append-nil out, no_more (k == 0), drop_all i procs le, so_far)

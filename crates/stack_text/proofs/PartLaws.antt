-- Lists of parts, read one after the other.
use Rattle.std.proofs.Common.{◌≡◌, ℕ, ◌+◌, ◌<◌, ◌≤◌, List, [], ◌∷◌, ◌++◌, length, drop, get_or, Ok, Err, refl, sym, ap, subst, ◌∙◌}
use Rattle.std.proofs.lemmas.List.{drop_all}
use Rattle.stack_text.{specs.Trees.{Node, Nodes, more}, specs.Views.TreeView.{node_of, nodes_of}, specs.declared.tree.TextTree.TextTree}
use Rattle.stack_text.{specs.declared.grammar.fault.FormFault.FormFault, specs.declared.grammar.fault.FormFault.TheVariants.{Form, Memory}}
use Rattle.stack_text.{proofs.Loops.drop-item, proofs.ResultLoops.{with_front, with_front-with_front, with_front-none}, specs.Grammar.Judged.{Judged, ◌⊛◌}}
use Rattle.stack_text.{specs.Grammar.Judged.{front, each_of}, specs.Grammar.Reading.IsFirstFault}

-- a part that is there, before the others
pub one_more : {X : Type 0} → (judge : Node → Judged X) (t : Node) (ts : Nodes) (x : X) → judge t ≡ Ok x
    → each_of judge (more t ts) ≡ with_front (x ∷ []) (each_of judge ts)
one_more {X = X} judge t ts x e = rw e (cases (each_of judge ts))
  where
    cases : (r : Judged (List X)) → Ok front ⊛ Ok x ⊛ r ≡ with_front (x ∷ []) r
    cases (Ok ys) = refl
    cases (Err faults) = refl

-- the first fault of a part is that of all parts
pub first_of_parts : {X Y : Type 0} → (R : Type 0) (e : FormFault) (r : Judged (X → Y)) (s : Judged X) → IsFirstFault R e r → IsFirstFault R e (r ⊛ s)
first_of_parts R (Form rule place) r (Ok x) h = (h.0, rw h.1 refl)
first_of_parts R (Form rule place) r (Err gs) h = (h.0 ++ gs.0 ∷ gs.1, rw h.1 refl)
first_of_parts R Memory r s h = h

-- the first fault of a part is that of a value with this part
pub first_of_value : {X Y : Type 0} → (R : Type 0) (e : FormFault) (f : X → Y) (s : Judged X) → IsFirstFault R e s → IsFirstFault R e (Ok f ⊛ s)
first_of_value R (Form rule place) f s h = (h.0, rw h.1 refl)
first_of_value R Memory f s h = h

-- likewise where further parts follow
pub first_of_2 : {X Y Z : Type 0} → (R : Type 0) (e : FormFault) (f : X → Y → Z) (r : Judged X) (s : Judged Y) → IsFirstFault R e r
    → IsFirstFault R e (Ok f ⊛ r ⊛ s)
first_of_2 R e f r s h = first_of_parts R e (Ok f ⊛ r) s (first_of_value R e f r h)

pub first_of_3 : {X Y Z A : Type 0} → (R : Type 0) (e : FormFault) (f : X → Y → Z → A) (r : Judged X) (s : Judged Y) (t : Judged Z) → IsFirstFault R e r
    → IsFirstFault R e (Ok f ⊛ r ⊛ s ⊛ t)
first_of_3 R e f r s t h = first_of_parts R e (Ok f ⊛ r ⊛ s) t (first_of_2 R e f r s h)

pub first_of_4 : {X Y Z A B : Type 0} → (R : Type 0) (e : FormFault) (f : X → Y → Z → A → B) (r : Judged X) (s : Judged Y) (t : Judged Z) (u : Judged A)
    → IsFirstFault R e r → IsFirstFault R e (Ok f ⊛ r ⊛ s ⊛ t ⊛ u)
first_of_4 R e f r s t u h = first_of_parts R e (Ok f ⊛ r ⊛ s ⊛ t) u (first_of_3 R e f r s t h)

pub first_of_5 : {X Y Z A B C : Type 0} → (R : Type 0) (e : FormFault) (f : X → Y → Z → A → B → C) (r : Judged X) (s : Judged Y) (t : Judged Z)
    (u : Judged A) (v : Judged B) → IsFirstFault R e r → IsFirstFault R e (Ok f ⊛ r ⊛ s ⊛ t ⊛ u ⊛ v)
first_of_5 R e f r s t u v h = first_of_parts R e (Ok f ⊛ r ⊛ s ⊛ t ⊛ u) v (first_of_4 R e f r s t u h)

pub first_of_6 : {X Y Z A B C D : Type 0} → (R : Type 0) (e : FormFault) (f : X → Y → Z → A → B → C → D) (r : Judged X) (s : Judged Y) (t : Judged Z)
    (u : Judged A) (v : Judged B) (w : Judged C) → IsFirstFault R e r → IsFirstFault R e (Ok f ⊛ r ⊛ s ⊛ t ⊛ u ⊛ v ⊛ w)
first_of_6 R e f r s t u v w h = first_of_parts R e (Ok f ⊛ r ⊛ s ⊛ t ⊛ u ⊛ v) w (first_of_5 R e f r s t u v h)

pub first_of_7 : {X Y Z A B C D E : Type 0} → (R : Type 0) (e : FormFault) (f : X → Y → Z → A → B → C → D → E) (r : Judged X) (s : Judged Y)
    (t : Judged Z) (u : Judged A) (v : Judged B) (w : Judged C) (x : Judged D) → IsFirstFault R e r
    → IsFirstFault R e (Ok f ⊛ r ⊛ s ⊛ t ⊛ u ⊛ v ⊛ w ⊛ x)
first_of_7 R e f r s t u v w x h = first_of_parts R e (Ok f ⊛ r ⊛ s ⊛ t ⊛ u ⊛ v ⊛ w) x (first_of_6 R e f r s t u v w h)

fault_in_each : {X : Type 0} → (R : Type 0) (e : FormFault) (judge : Node → Judged X) (t : Node) (ts : Nodes) → IsFirstFault R e (judge t)
    → IsFirstFault R e (each_of judge (more t ts))
fault_in_each R e judge t ts h = first_of_parts R e (Ok front ⊛ judge t) (each_of judge ts) (first_of_value R e front (judge t) h)

fault_with_front : {X : Type 0} → (R : Type 0) (e : FormFault) (xs : List X) (r : Judged (List X)) → IsFirstFault R e r → IsFirstFault R e (with_front xs r)
fault_with_front R (Form rule place) xs r h = (h.0, rw h.1 refl)
fault_with_front R Memory xs r h = h

module _ {X : Type 0} (judge : Node → Judged X) (xs : List X) (i : ℕ) (trees : List TextTree)
    (so_far : with_front xs (each_of judge (nodes_of (drop i trees))) ≡ each_of judge (nodes_of trees)) where
  pub part_read : (t : TextTree) (x : X) → i < length trees → t ≡ get_or trees i t → judge (node_of t) ≡ Ok x
      → with_front (xs ++ x ∷ []) (each_of judge (nodes_of (drop (i + 1) trees))) ≡ each_of judge (nodes_of trees)
  part_read t x lt is e =
      sym (with_front-with_front xs (x ∷ []) (each_of judge (nodes_of (drop (i + 1) trees))))
      ∙ ap (with_front xs) (sym (one_more judge (node_of t) (nodes_of (drop (i + 1) trees)) x e))
      ∙ ap (λ ts. with_front xs (each_of judge (nodes_of ts))) (sym (drop-item trees i t lt is)) ∙ so_far

  pub part_fails : (R : Type 0) (e : FormFault) (t : TextTree) → i < length trees → t ≡ get_or trees i t → IsFirstFault R e (judge (node_of t))
      → IsFirstFault R e (each_of judge (nodes_of trees))
  part_fails R e t lt is h =
      subst (IsFirstFault R e) so_far
      (fault_with_front R e xs (each_of judge (nodes_of (drop i trees)))
      (subst (λ ts. IsFirstFault R e (each_of judge (nodes_of ts))) (sym (drop-item trees i t lt is))
      (fault_in_each R e judge (node_of t) (nodes_of (drop (i + 1) trees)) h)))

  pub parts_end : length trees ≤ i → each_of judge (nodes_of trees) ≡ Ok xs
  parts_end past =
      sym so_far ∙ ap (λ ts. with_front xs (each_of judge (nodes_of ts))) (drop_all i trees past) ∙ with_front-none xs

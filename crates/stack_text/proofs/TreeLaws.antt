-- One tree at most has given tokens, and a text that has a tree has no fault.
use Rattle.std.proofs.Common.{◌≡◌, ◌≢◌, ℕ, suc, ◌+◌, ◌≤◌, Bool, true, false, cond, ltb, List, [], ◌∷◌, ◌++◌, map, length, Option, Some, None, Result, Ok, Err}
use Rattle.std.{proofs.Common.{refl, sym, ap, ◌∙◌, append_assoc, arith}, specs.Prelude.{is_some, IfOk, MatchResult}, proofs.lemmas.Bool.{lt-ltb, ltb-true}}
use Rattle.std.proofs.lemmas.List.{append-nil}
use Rattle.stack_text.{specs.Tokens.{Token, opens_at, closes_at, atom_at, invalid_at, between, tokens}, specs.Trees.{Node, Nodes, atom, list, none, more}}
use Rattle.stack_text.{specs.Trees.{tokens_of, tokens_of_all, depth, depths, as_kept, TreeOf}, specs.TextFaults.{Context, before, within, after, open_lists}}
use Rattle.stack_text.{specs.TextFaults.{after_tree, first_fault, text_fault, ReportsFault}, specs.Internal.OpenLists.ReadsText}
use Rattle.stack_text.{specs.declared.text_fault.TextRule.TextRule, specs.declared.text_fault.TextRule.TheVariants.G4}
use Rattle.stack_text.{specs.declared.text_fault.TextFault.TextFault, specs.declared.text_fault.TextFault.TheVariants.{Fault, Memory}}

-- ---- no tree's tokens begin another's

mutual
  pub tokens_of-determines : (t u : Node) (xs ys : List Token) → tokens_of t ++ xs ≡ tokens_of u ++ ys → (t ≡ u) × (xs ≡ ys)
  tokens_of-determines (atom p w) (atom q v) xs ys e = (cc, cc)
  tokens_of-determines (atom p w) (list q us) xs ys e = absurd cc
  tokens_of-determines (list p ts) (atom q v) xs ys e = absurd cc
  tokens_of-determines (list p ts) (list q us) xs ys e =
      let e' : opens_at p ∷ (tokens_of_all ts ++ closes_at 0 ∷ xs) ≡ opens_at q ∷ (tokens_of_all us ++ closes_at 0 ∷ ys) =
      ap (λ (zs : List Token). opens_at p ∷ zs) (sym (append_assoc (tokens_of_all ts) (closes_at 0 ∷ []) xs)) ∙ e
      ∙ ap (λ (zs : List Token). opens_at q ∷ zs) (append_assoc (tokens_of_all us) (closes_at 0 ∷ []) ys) in
      let rest : tokens_of_all ts ++ closes_at 0 ∷ xs ≡ tokens_of_all us ++ closes_at 0 ∷ ys = cc in
      let place : p ≡ q = cc in
      let h = tokens_of_all-determine ts us xs ys rest in
      (ap (λ (r : ℕ). list r ts) place ∙ ap (λ (vs : Nodes). list q vs) h.0, h.1)

  pub tokens_of_all-determine : (ts us : Nodes) (xs ys : List Token) → tokens_of_all ts ++ closes_at 0 ∷ xs ≡ tokens_of_all us ++ closes_at 0 ∷ ys
      → (ts ≡ us) × (xs ≡ ys)
  tokens_of_all-determine none none xs ys e = (refl, cc)
  tokens_of_all-determine none (more (atom q v) us) xs ys e = absurd cc
  tokens_of_all-determine none (more (list q vs) us) xs ys e = absurd cc
  tokens_of_all-determine (more (atom p w) ts) none xs ys e = absurd cc
  tokens_of_all-determine (more (list p us) ts) none xs ys e = absurd cc
  tokens_of_all-determine (more t ts) (more u us) xs ys e =
      let e' = sym (append_assoc (tokens_of t) (tokens_of_all ts) (closes_at 0 ∷ xs)) ∙ e ∙ append_assoc (tokens_of u) (tokens_of_all us) (closes_at 0 ∷ ys) in
      let h = tokens_of-determines t u (tokens_of_all ts ++ closes_at 0 ∷ xs) (tokens_of_all us ++ closes_at 0 ∷ ys) e' in
      let k = tokens_of_all-determine ts us xs ys h.1 in
      (ap (λ (x : Node). more x ts) h.0 ∙ ap (λ (vs : Nodes). more u vs) k.0, k.1)

-- ---- faults and the tokens of trees

if_same : (b : Bool) (x y : Option (TextRule × ℕ)) (z : TextRule × ℕ) → is_some x ≡ is_some y → is_some (cond b x (Some z)) ≡ is_some (cond b y (Some z))
if_same true x y z e = e
if_same false x y z e = refl

-- the place of a closing parenthesis is nothing to whether there is a fault
fault-as_kept : (end : ℕ) (s : Context) (ts : List Token) → is_some (first_fault end s ts) ≡ is_some (first_fault end s (map as_kept ts))
fault-as_kept end before [] = refl
fault-as_kept end (within p s) [] = refl
fault-as_kept end after [] = refl
fault-as_kept end before (opens_at q ∷ ts) = fault-as_kept end (within q before) ts
fault-as_kept end before (closes_at q ∷ ts) = refl
fault-as_kept end before (atom_at q w ∷ ts) = fault-as_kept end after ts
fault-as_kept end before (invalid_at q ∷ ts) = refl
fault-as_kept end (within p s) (opens_at q ∷ ts) = if_same (ltb (open_lists (within p s)) 200) (first_fault end (within q (within p s)) ts)
    (first_fault end (within q (within p s)) (map as_kept ts)) (G4, q) (fault-as_kept end (within q (within p s)) ts)
fault-as_kept end (within p s) (closes_at q ∷ ts) = fault-as_kept end (after_tree s) ts
fault-as_kept end (within p s) (atom_at q w ∷ ts) = fault-as_kept end (within p s) ts
fault-as_kept end (within p s) (invalid_at q ∷ ts) = refl
fault-as_kept end after (opens_at q ∷ ts) = refl
fault-as_kept end after (closes_at q ∷ ts) = refl
fault-as_kept end after (atom_at q w ∷ ts) = refl
fault-as_kept end after (invalid_at q ∷ ts) = refl

mutual
  pub fault-tokens_of : (t : Node) (end : ℕ) (s : Context) (ts : List Token) → s ≢ after → depth t + open_lists s ≤ 200
      → first_fault end s (tokens_of t ++ ts) ≡ first_fault end (after_tree s) ts
  fault-tokens_of (atom p w) end before ts ne le = refl
  fault-tokens_of (atom p w) end (within q s) ts ne le = refl
  fault-tokens_of (atom p w) end after ts ne le = absurd (ne refl)
  fault-tokens_of (list p us) end before ts ne le =
      ap (first_fault end (within p before)) (append_assoc (tokens_of_all us) (closes_at 0 ∷ []) ts)
      ∙ fault-tokens_of_all us end p before (closes_at 0 ∷ ts) (omega arith)
  fault-tokens_of (list p us) end (within q s) ts ne le =
      rw (lt-ltb (suc (open_lists s)) 200 (omega arith))
      (ap (first_fault end (within p (within q s))) (append_assoc (tokens_of_all us) (closes_at 0 ∷ []) ts)
      ∙ fault-tokens_of_all us end p (within q s) (closes_at 0 ∷ ts) (omega arith))
  fault-tokens_of (list p us) end after ts ne le = absurd (ne refl)

  pub fault-tokens_of_all : (us : Nodes) (end p : ℕ) (s : Context) (ts : List Token) → depths us + open_lists (within p s) ≤ 200
      → first_fault end (within p s) (tokens_of_all us ++ ts) ≡ first_fault end (within p s) ts
  fault-tokens_of_all none end p s ts le = refl
  fault-tokens_of_all (more u us) end p s ts le =
      ap (first_fault end (within p s)) (append_assoc (tokens_of u) (tokens_of_all us) ts)
      ∙ fault-tokens_of u end (within p s) (tokens_of_all us ++ ts) (λ e. cc) (omega arith) ∙ fault-tokens_of_all us end p s ts (omega arith)

pub guarded : (b : Bool) (x : Option (TextRule × ℕ)) (z : TextRule × ℕ) → cond b x (Some z) ≡ None → (b ≡ true) × (x ≡ None)
guarded true x z e = (refl, e)
guarded false x z e = absurd cc

mutual
  pub tokens_of-shallow : (t : Node) (end : ℕ) (s : Context) (ts : List Token) → s ≢ after → open_lists s ≤ 200
      → first_fault end s (tokens_of t ++ ts) ≡ None → depth t + open_lists s ≤ 200
  tokens_of-shallow (atom p w) end s ts ne le e = omega arith
  tokens_of-shallow (list p us) end before ts ne le e =
      let h = tokens_of_all-shallow us end p before (closes_at 0 ∷ ts) (omega arith)
      (ap (first_fault end (within p before)) (sym (append_assoc (tokens_of_all us) (closes_at 0 ∷ []) ts)) ∙ e) in omega (arith, h)
  tokens_of-shallow (list p us) end (within q s) ts ne le e =
      let g = guarded (ltb (suc (open_lists s)) 200) (first_fault end (within p (within q s)) ((tokens_of_all us ++ closes_at 0 ∷ []) ++ ts)) (G4, p) e in
      let lt = ltb-true _ _ g.0 in
      let h = tokens_of_all-shallow us end p (within q s) (closes_at 0 ∷ ts) (omega (arith, lt))
      (ap (first_fault end (within p (within q s))) (sym (append_assoc (tokens_of_all us) (closes_at 0 ∷ []) ts)) ∙ g.1) in omega (arith, h)
  tokens_of-shallow (list p us) end after ts ne le e = absurd (ne refl)

  pub tokens_of_all-shallow : (us : Nodes) (end p : ℕ) (s : Context) (ts : List Token) → open_lists (within p s) ≤ 200
      → first_fault end (within p s) (tokens_of_all us ++ ts) ≡ None → depths us + open_lists (within p s) ≤ 200
  tokens_of_all-shallow none end p s ts le e = omega arith
  tokens_of_all-shallow (more u us) end p s ts le e =
      let e' = ap (first_fault end (within p s)) (sym (append_assoc (tokens_of u) (tokens_of_all us) ts)) ∙ e in
      let h = tokens_of-shallow u end (within p s) (tokens_of_all us ++ ts) (λ x. cc) le e' in
      let k = tokens_of_all-shallow us end p s ts le (sym (fault-tokens_of u end (within p s) (tokens_of_all us ++ ts) (λ x. cc) h) ∙ e') in
      omega (arith, h, k)

none_from_is_some : (o : Option (TextRule × ℕ)) → is_some o ≡ false → o ≡ None
none_from_is_some None e = refl
none_from_is_some (Some x) e = absurd cc

-- a text that is a tree has no fault
pub tree_has_no_fault : (text : List ℕ) (t : Node) → TreeOf text t → text_fault text ≡ None
tree_has_no_fault text t h =
    let clean : first_fault (length text) before (map as_kept (tokens between 0 text)) ≡ None =
    ap (first_fault (length text) before) (h.tokens_are ∙ sym (append-nil (tokens_of t)))
    ∙ fault-tokens_of t (length text) before [] (λ e. cc) (omega (arith, h.shallow)) in
    none_from_is_some (text_fault text) (fault-as_kept (length text) before (tokens between 0 text) ∙ ap is_some clean)

-- a text with no fault that has the tokens of a tree is that tree
pub tree_from_no_fault : (text : List ℕ) (t : Node) → text_fault text ≡ None → map as_kept (tokens between 0 text) ≡ tokens_of t → TreeOf text t
tree_from_no_fault text t none_is tokens_is =
    let clean : first_fault (length text) before (tokens_of t ++ []) ≡ None =
    ap (first_fault (length text) before) (append-nil (tokens_of t) ∙ sym tokens_is)
    ∙ none_from_is_some (first_fault (length text) before (map as_kept (tokens between 0 text)))
    (sym (fault-as_kept (length text) before (tokens between 0 text)) ∙ ap is_some none_is) in
    let h = tokens_of-shallow t (length text) before [] (λ e. cc) (omega arith) clean in
    record { tokens_are = tokens_is; shallow = omega (arith, h) }

pub one_tree : (text : List ℕ) (t u : Node) → TreeOf text t → TreeOf text u → t ≡ u
one_tree text t u h k = (tokens_of-determines t u [] [] (append-nil (tokens_of t) ∙ sym h.tokens_are ∙ k.tokens_are ∙ sym (append-nil (tokens_of u)))).0

-- ---- the clauses of `read_tree`, by what clauses see of a tree

module _ {T : Type 0} (seen : T → Node) (text : List ℕ) where
  pub is_found : (R : Type 0) (r : Result T TextFault) → ReadsText R seen text r → IfOk r (λ t. TreeOf text (seen t))
  is_found R (Ok t) h = tree_from_no_fault text (seen t) h.0 h.1
  is_found R (Err e) h = tt

  pub is_only : (R : Type 0) (r : Result T TextFault) → ReadsText R seen text r → (t : Node) → TreeOf text t → MatchResult r (λ u. seen u ≡ t) (λ e. e ≡ Memory)
  is_only R (Ok u) h t of = one_tree text (seen u) t (tree_from_no_fault text (seen u) h.0 h.1) of
  is_only R (Err (Fault r p)) h t of = let e = tree_has_no_fault text t of in absurd cc
  is_only R (Err Memory) h t of = refl

  -- what holds of each tree of a text holds of what is read
  pub is_kept : (R : Type 0) (P : Node → Type 0) (r : Result T TextFault) → ReadsText R seen text r → ((t : Node) → TreeOf text t → P t)
      → IfOk r (λ t. P (seen t))
  is_kept R P (Ok t) h k = k (seen t) (tree_from_no_fault text (seen t) h.0 h.1)
  is_kept R P (Err e) h k = tt

  pub reports_fault : (R : Type 0) (r : Result T TextFault) → ReadsText R seen text r → ReportsFault text r
  reports_fault R (Ok t) h = h.0
  reports_fault R (Err (Fault r p)) h = h
  reports_fault R (Err Memory) h = tt

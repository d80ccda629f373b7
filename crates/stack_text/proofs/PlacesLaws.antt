-- A grammar is independent of places: a tree and the same tree without places are one value but for places, or both have faults.
use Rattle.std.{proofs.Common.{◌≡◌, ℕ, Bool, List, Ok, Err, refl, sym, ap, subst, ◌∙◌}, specs.Prelude.{◌+◌, ◌&&◌}}
use Rattle.stack_text.{specs.Trees.{Node, Nodes, atom, list, none, more, without_places, all_without_places, place_of}, specs.Grammar.Judged.{Judged, ◌⊛◌}}
use Rattle.stack_text.specs.Grammar.Parts.{count_of, list_length, is_atom_of}

-- ---- two judgements

-- both are values, of which the relation holds, or neither is
abbrev pub AgreeBy : {X : Type 0} → (X → X → Type 0) → Judged X → Judged X → Type 0
AgreeBy P (Ok x) (Ok y) = P x y
AgreeBy P (Ok x) (Err fs) = ⊥
AgreeBy P (Err fs) (Ok y) = ⊥
AgreeBy P (Err fs) (Err gs) = Unit {0}

pub record Agree {X : Type 0} (P : X → X → Type 0) (r s : Judged X) : Type 0 where
  pub both : AgreeBy P r s

-- the second is the first, seen through the view
abbrev pub IsSame : {X : Type 0} → (X → X) → Judged X → Judged X → Type 0
IsSame view r s = Agree (λ x y. y ≡ view x) r s

pub agree_apply : {X Y : Type 0} (view : X → X) (Q : Y → Y → Type 0) (rf sf : Judged (X → Y)) (rx sx : Judged X)
    → Agree (λ f g. (x : X) → Q (f x) (g (view x))) rf sf → IsSame view rx sx → Agree Q (rf ⊛ rx) (sf ⊛ sx)
agree_apply {X} view Q (Ok f) (Ok g) (Ok x) (Ok y) h k = record { both = subst (λ (z : X). Q (f x) (g z)) (sym k.both) (h.both x) }
agree_apply view Q (Ok f) (Ok g) (Ok x) (Err gs) h k = absurd k.both
agree_apply view Q (Ok f) (Ok g) (Err fs) (Ok y) h k = absurd k.both
agree_apply view Q (Ok f) (Ok g) (Err fs) (Err gs) h k = record { both = tt }
agree_apply view Q (Ok f) (Err es) rx sx h k = absurd h.both
agree_apply view Q (Err es) (Ok g) rx sx h k = absurd h.both
agree_apply view Q (Err es) (Err ds) (Ok x) (Ok y) h k = record { both = tt }
agree_apply view Q (Err es) (Err ds) (Ok x) (Err gs) h k = record { both = tt }
agree_apply view Q (Err es) (Err ds) (Err fs) (Ok y) h k = record { both = tt }
agree_apply view Q (Err es) (Err ds) (Err fs) (Err gs) h k = record { both = tt }

-- a tree whose judgement without places is a value is the same value but for places
pub same_lifted : {X : Type 0} (view : X → X) (r s : Judged X) (x : X) → IsSame view r s → s ≡ Ok x → (y : X) × (r ≡ Ok y) × (view y ≡ x)
same_lifted view (Ok y) (Ok z) x h e = let k : z ≡ x = cc in (y, refl, sym h.both ∙ k)
same_lifted view (Ok y) (Err gs) x h e = absurd h.both
same_lifted view (Err fs) (Ok z) x h e = absurd h.both
same_lifted view (Err fs) (Err gs) x h e = absurd cc

-- ---- tests

pub same_atom : (test : List ℕ → Bool) (t : Node) → is_atom_of test (without_places t) ≡ is_atom_of test t
same_atom test (atom p w) = refl
same_atom test (list p ts) = refl

pub same_count : (ts : Nodes) → count_of (all_without_places ts) ≡ count_of ts
same_count none = refl
same_count (more t ts) = ap (λ (n : ℕ). 1 + n) (same_count ts)

pub same_list_length : (t : Node) → list_length (without_places t) ≡ list_length t
same_list_length (atom p w) = refl
same_list_length (list p ts) = same_count ts

pub same_and : {b c d e : Bool} → c ≡ b → e ≡ d → (c && e) ≡ (b && d)
same_and h k = rw (h, k) refl

pub unplaced_place : {X : Type 0} (t : Node) (f : ℕ → X) → f (place_of (without_places t)) ≡ f 0
unplaced_place (atom p w) f = refl
unplaced_place (list p ts) f = refl

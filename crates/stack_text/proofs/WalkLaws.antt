-- One walk over a grammar. Of each part it is known: where the places of a tree go up, the faults of the part go up too; the tree
-- without its places is the same value but for places, or has faults too; and what holds of the value, if there is one.
use Rattle.std.{proofs.Common.{◌≡◌, ◌+◌, ◌<◌, ◌≤◌, ℕ, List, [], ◌∷◌, length, map, Ok, All, refl, subst, sym, arith}, specs.Prelude.{Bool, true, false}}
use Rattle.std.{specs.Prelude.if◌then◌else◌, proofs.lemmas.List.Elements.{All-nil, All-cons}}
use Rattle.stack_text.specs.Trees.{Node, Nodes, atom, list, none, more, place_of, without_places, all_without_places, node_count, node_counts, depth}
use Rattle.stack_text.{specs.PlaceOrder.{InOrder, AllInOrder}, specs.Views.TreeView.nodes, specs.Grammar.Parts.{IsNamed, count_of, list_length, list_or}}
use Rattle.stack_text.{specs.Grammar.Parts.name_or, specs.Grammar.Printed.{list_tree, name_tree, unplaced_name}, specs.Names.is_name, proofs.KeepsLaws.Holds}
use Rattle.stack_text.{proofs.KeepsLaws.{holds_apply, holds_more}, specs.Grammar.Judged.{Judged, ◌⊛◌, each_of, fault, front, judged}, proofs.RiseLaws.Up}
use Rattle.stack_text.{proofs.RiseLaws.{apply_up, apply_value, at_fault as fault_up, higher, lower, place_within, starts}, proofs.PlacesLaws.{Agree, IsSame}}
use Rattle.stack_text.proofs.PlacesLaws.{agree_apply}

-- r is what the tree is judged to be, and s what it is without its places
pub record Walk {X : Type 0} (t : Node) (view : X → X) (P : X → Type 0) (r s : Judged X) : Type 0 where
  pub rises : (low high : ℕ) → InOrder low t high → Up low r high
  pub same : IsSame view r s
  pub holds : Holds P r

-- the same of several trees, one after the other
pub record Walks {X : Type 0} (ts : Nodes) (view : X → X) (P : X → Type 0) (r s : Judged X) : Type 0 where
  pub rises : (low high : ℕ) → AllInOrder low ts high → Up low r high
  pub same : IsSame view r s
  pub holds : Holds P r

-- the value fits in plain words, and its tree is no larger than the tree that was read
pub record Fitted {X : Type 0} (Fits : X → Type 0) (tree : X → Node) (t : Node) (x : X) : Type 0 where
  pub fits : Fits x
  pub size : node_count (tree x) ≤ node_count t

-- a part of a grammar, at a tree
abbrev pub Part : {X : Type 0} → (Node → Judged X) → (X → X) → (Node → X → Type 0) → Node → Type 0
Part judge view P t = Walk t view (P t) (judge t) (judge (without_places t))

-- ---- trees in order

-- the trees whose values a function is still to be given
pub record Fields {X : Type 0} (view : X → X) (P : X → Type 0) (F : Type 0) : Type 1 where
  pub trees : Nodes
  pub run : Judged F → Judged X
  pub run_without : Judged F → Judged X
  pub Agrees : F → F → Type 0
  pub Gives : F → Type 0
  pub rises : (low mid high : ℕ) (r : Judged F) → Up low r mid → AllInOrder mid trees high → Up low (run r) high
  pub same : (r s : Judged F) → Agree Agrees r s → IsSame view (run r) (run_without s)
  pub holds : (r : Judged F) → Holds Gives r → Holds P (run r)

abbrev pub done : {X : Type 0} {view : X → X} {P : X → Type 0} → Fields view P X
done {X} {view} {P} = record {
  trees = none;
  run = λ r. r;
  run_without = λ s. s;
  Agrees = λ x y. y ≡ view x;
  Gives = P;
  rises = λ low mid high r h o. higher h high o;
  same = λ r s h. h;
  holds = λ r h. h;
}

-- a part, and then the others
infixr 30 ◌▸◌
abbrev pub ◌▸◌ : {A F X : Type 0} {see : A → A} {view : X → X} {Q : A → Type 0} {P : X → Type 0} {t : Node} {r s : Judged A}
    → Walk t see Q r s → Fields view P F → Fields view P (A → F)
◌▸◌ {A} {F} {X} {see} {view} {Q} {P} {t} {r} {s} part fields = record {
  trees = more t fields.trees;
  run = λ f. fields.run (f ⊛ r);
  run_without = λ g. fields.run_without (g ⊛ s);
  Agrees = λ f g. (x : A) → fields.Agrees (f x) (g (see x));
  Gives = λ f. (x : A) → Q x → fields.Gives (f x);
  rises = λ low mid high f h o. fields.rises low o.0 high (f ⊛ r) (apply_up h (part.rises mid o.0 o.1)) o.2;
  same = λ f g h. fields.same (f ⊛ r) (g ⊛ s) (agree_apply see fields.Agrees f g r s h part.same);
  holds = λ f h. fields.holds (f ⊛ r) (holds_apply Q fields.Gives f r h part.holds);
}

-- all trees that are left
abbrev pub rest : {A X : Type 0} {see : A → A} {view : X → X} {Q : A → Type 0} {P : X → Type 0} {ts : Nodes} {r s : Judged A}
    → Walks ts see Q r s → Fields view P (A → X)
rest {A} {X} {see} {view} {Q} {P} {ts} {r} {s} parts = record {
  trees = ts;
  run = λ f. f ⊛ r;
  run_without = λ g. g ⊛ s;
  Agrees = λ f g. (x : A) → g (see x) ≡ view (f x);
  Gives = λ f. (x : A) → Q x → P (f x);
  rises = λ low mid high f h o. apply_up h (parts.rises mid high o);
  same = λ f g h. agree_apply see (λ x y. y ≡ view x) f g r s h parts.same;
  holds = λ f h. holds_apply Q P f r h parts.holds;
}

-- a tree that gives no value, such as a first word
abbrev pub skip : {F X : Type 0} {view : X → X} {P : X → Type 0} → Node → Fields view P F → Fields view P F
skip t fields = record fields {
  trees = more t fields.trees;
  rises = λ low mid high r h o.
      let p = place_within mid t o.0 o.1 in fields.rises low o.0 high r (higher h o.0 (omega (arith, p.0, p.1))) o.2;
}

pub all_in_order : {F X : Type 0} {view : X → X} {P : X → Type 0} (f g : F) (fields : Fields view P F) → fields.Agrees f g → fields.Gives f
    → Walks fields.trees view P (fields.run (Ok f)) (fields.run_without (Ok g))
all_in_order f g fields agrees gives = record {
  rises = λ low high o. fields.rises low low high (Ok f) (starts f low low (omega arith)) o;
  same = fields.same (Ok f) (Ok g) (record { both = agrees });
  holds = fields.holds (Ok f) (record { of_value = gives });
}

-- a list that has the value of its trees
pub of_list : {X : Type 0} {view : X → X} {P Q : X → Type 0} {p : ℕ} {ts : Nodes} {r s : Judged X} → ((x : X) → P x → Q x) → Walks ts view P r s
    → Walk (list p ts) view Q r s
of_list {P = P} {Q = Q} {p = p} {r = r} gives parts = record {
  rises = λ low high o. lower (parts.rises (p + 1) high o.2) low (omega (arith, o.0));
  same = parts.same;
  holds = holds_more P Q r gives parts.holds;
}

-- a list of such trees: f makes the value of theirs, and g the value without places
pub in_order : {F X : Type 0} {view : X → X} {P : X → Type 0} {p : ℕ} (f g : F) (fields : Fields view P F) → fields.Agrees f g → fields.Gives f
    → Walk (list p fields.trees) view P (fields.run (Ok f)) (fields.run_without (Ok g))
in_order f g fields agrees gives = of_list (λ x h. h) (all_in_order f g fields agrees gives)

-- ---- one tree

pub found : {X : Type 0} {view : X → X} {P : X → Type 0} {t : Node} {x y : X} → y ≡ view x → P x → Walk t view P (Ok x) (Ok y)
found {t = t} {x = x} e h = record {
  rises = λ low high o. let p = place_within low t high o in starts x low high (omega (arith, p.0, p.1));
  same = record { both = e };
  holds = record { of_value = h };
}

pub at_fault : {X : Type 0} {view : X → X} {P : X → Type 0} (rule : ℕ) (t : Node)
    → Walk t view P (fault (place_of t) rule) (fault (place_of (without_places t)) rule)
at_fault rule t = record {
  rises = λ low high o. let p = place_within low t high o in fault_up low (place_of t) rule high p.0 p.1;
  same = record { both = tt };
  holds = record { of_value = tt };
}

-- a choice by a test, which the same tree without places passes too
pub choice : {X : Type 0} {view : X → X} {P : X → Type 0} {t : Node} {r s u v : Judged X} (b c : Bool) → c ≡ b → (b ≡ true → Walk t view P r s)
    → (b ≡ false → Walk t view P u v) → Walk t view P (if b then r else u) (if c then s else v)
choice {view = view} {P = P} {t = t} {r = r} {s = s} {u = u} {v = v} true c e part other =
    subst (λ (d : Bool). Walk t view P r (if d then s else v)) (sym e) (part refl)
choice {view = view} {P = P} {t = t} {r = r} {s = s} {u = u} {v = v} false c e part other =
    subst (λ (d : Bool). Walk t view P u (if d then s else v)) (sym e) (other refl)

pub passing : {X : Type 0} {view : X → X} {P : X → Type 0} {t : Node} {b c : Bool} {r s : Judged X} (rule : ℕ) → c ≡ b
    → (b ≡ true → Walk t view P r s) → Walk t view P (judged (place_of t) rule b r) (judged (place_of (without_places t)) rule c s)
passing {t = t} {b = b} {c = c} rule e part = choice b c e part (λ fails. at_fault rule t)

pub tested : {X : Type 0} {view : X → X} {P : X → Type 0} {t : Node} {b c : Bool} {r s : Judged X} (rule : ℕ) → c ≡ b → Walk t view P r s
    → Walk t view P (judged (place_of t) rule b r) (judged (place_of (without_places t)) rule c s)
tested rule e part = passing rule e (λ passes. part)

-- a value made of a part
pub made : {A X : Type 0} {see : A → A} {view : X → X} {Q : A → Type 0} {P : X → Type 0} {t : Node} {r s : Judged A} (f g : A → X)
    → ((x : A) → g (see x) ≡ view (f x)) → ((x : A) → Q x → P (f x)) → Walk t see Q r s → Walk t view P (Ok f ⊛ r) (Ok g ⊛ s)
made {see = see} {view = view} {Q = Q} {P = P} {r = r} {s = s} f g agrees gives part = record {
  rises = λ low high o. apply_value f (part.rises low high o);
  same = agree_apply see (λ x y. y ≡ view x) (Ok f) (Ok g) r s (record { both = agrees }) part.same;
  holds = holds_apply Q P (Ok f) r (record { of_value = gives }) part.holds;
}

-- what more holds of the value
pub more_holds : {X : Type 0} {view : X → X} {P Q : X → Type 0} {t : Node} {r s : Judged X} → ((x : X) → P x → Q x) → Walk t view P r s
    → Walk t view Q r s
more_holds {P = P} {Q = Q} {r = r} gives part =
    record { rises = λ low high o. part.rises low high o; same = part.same; holds = holds_more P Q r gives part.holds }

pub some_nodes : (t : Node) → 1 ≤ node_count t
some_nodes (atom p w) = omega arith
some_nodes (list p ts) = omega arith

pub name : (rule : ℕ) (t : Node) → Part (name_or rule) unplaced_name (Fitted IsNamed name_tree) t
name rule (atom p w) = passing {b = is_name w} rule refl (λ is. found refl (record { fits = is; size = omega arith }))
name rule (list p ts) = at_fault rule (list p ts)

-- ---- several trees

-- each fits, there are as many as trees, and theirs are no larger
pub record FittedEach {X : Type 0} (Fits : X → Type 0) (tree : X → Node) (ts : Nodes) (xs : List X) : Type 0 where
  pub all : All Fits xs
  pub count : length xs ≡ count_of ts
  pub size : node_counts (nodes (map tree xs)) ≤ node_counts ts

pub record FittedList {X : Type 0} (Fits : X → Type 0) (tree : X → Node) (t : Node) (xs : List X) : Type 0 where
  pub all : All Fits xs
  pub count : length xs ≡ list_length t
  pub deep : 0 < depth t
  pub size : node_count (list_tree tree xs) ≤ node_count t

pub none_fitted : {X : Type 0} (Fits : X → Type 0) (tree : X → Node) → FittedEach Fits tree none []
none_fitted Fits tree = record { all = All-nil Fits; count = refl; size = omega arith }

pub one_fitted : {X : Type 0} (Fits : X → Type 0) (tree : X → Node) (t : Node) (ts : Nodes) (x : X) → Fitted Fits tree t x → (xs : List X)
    → FittedEach Fits tree ts xs → FittedEach Fits tree (more t ts) (x ∷ xs)
one_fitted Fits tree t ts x h xs k = record {
  all = All-cons Fits x xs h.fits k.all;
  count = let n : length xs ≡ count_of ts = k.count in omega (arith, n);
  size = omega (arith, h.size, k.size);
}

pub no_more : {X : Type 0} {view : X → X} {P : List X → Type 0} → P [] → Walks none (map view) P (Ok []) (Ok [])
no_more h = record { rises = λ low high o. starts [] low high o; same = record { both = refl }; holds = record { of_value = h } }

pub one_more : {X : Type 0} {view : X → X} {P : X → Type 0} {Q R : List X → Type 0} {t : Node} {ts : Nodes} {r s : Judged X} {rs ss : Judged (List X)}
    → ((x : X) → P x → (xs : List X) → Q xs → R (x ∷ xs)) → Walk t view P r s → Walks ts (map view) Q rs ss
    → Walks (more t ts) (map view) R (Ok front ⊛ r ⊛ rs) (Ok front ⊛ s ⊛ ss)
one_more gives part parts = all_in_order front front (part ▸ rest parts) (λ x xs. refl) gives

pub each : {X : Type 0} {view : X → X} (Fits : X → Type 0) (tree : X → Node) (judge : Node → Judged X)
    → ((t : Node) → Part judge view (Fitted Fits tree) t) → (ts : Nodes)
    → Walks ts (map view) (FittedEach Fits tree ts) (each_of judge ts) (each_of judge (all_without_places ts))
each Fits tree judge part none = no_more (none_fitted Fits tree)
each Fits tree judge part (more t ts) = one_more (one_fitted Fits tree t ts) (part t) (each Fits tree judge part ts)

pub after : {X : Type 0} {view : X → X} {P : X → Type 0} {ts : Nodes} {r s : Judged X} (t : Node) → Walks ts view P r s → Walks (more t ts) view P r s
after t parts = record {
  rises = λ low high o. let p = place_within low t o.0 o.1 in lower (parts.rises o.0 high o.2) low (omega (arith, p.0, p.1));
  same = parts.same;
  holds = parts.holds;
}

pub list_part : {X : Type 0} {view : X → X} (rule : ℕ) (Fits : X → Type 0) (tree : X → Node) (judge : Node → Judged X)
    → ((t : Node) → Part judge view (Fitted Fits tree) t) → (t : Node) → Part (list_or rule judge) (map view) (FittedList Fits tree) t
list_part rule Fits tree judge part (atom p w) = at_fault rule (atom p w)
list_part rule Fits tree judge part (list p ts) =
    of_list (λ xs h. record { all = h.all; count = h.count; deep = omega arith; size = omega (arith, h.size) }) (each Fits tree judge part ts)

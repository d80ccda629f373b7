-- What holds of the value that a tree is judged to be, if it is one; and what is found in a list.
use Rattle.std.{proofs.Common.{◌≡◌, ℕ, Bool, true, false, cond, List, [], ◌∷◌, Option, Some, Ok, Err, refl, subst}, specs.List.{find, list_all}}
use Rattle.std.proofs.lemmas.Bool.{and_parts}
use Rattle.stack_text.specs.Grammar.Judged.{Judged, judged, ◌⊛◌}

-- ---- what holds of a judgement's value, if it has one

abbrev pub HoldsBy : {X : Type 0} → (X → Type 0) → Judged X → Type 0
HoldsBy P (Ok x) = P x
HoldsBy P (Err fs) = Unit {0}

pub record Holds {X : Type 0} (P : X → Type 0) (r : Judged X) : Type 0 where
  pub of_value : HoldsBy P r

pub holds_apply : {X Y : Type 0} (P : X → Type 0) (Q : Y → Type 0) (rf : Judged (X → Y)) (rx : Judged X) → Holds (λ f. (x : X) → P x → Q (f x)) rf
    → Holds P rx → Holds Q (rf ⊛ rx)
holds_apply P Q (Ok f) (Ok x) h k = record { of_value = h.of_value x k.of_value }
holds_apply P Q (Ok f) (Err gs) h k = record { of_value = tt }
holds_apply P Q (Err fs) (Ok x) h k = record { of_value = tt }
holds_apply P Q (Err fs) (Err gs) h k = record { of_value = tt }

-- of the value of a passed test
pub holds_judged : {X : Type 0} (P : X → Type 0) (p rule : ℕ) (b : Bool) (r : Judged X) → (b ≡ true → Holds P r) → Holds P (judged p rule b r)
holds_judged P p rule true r h = h refl
holds_judged P p rule false r h = record { of_value = tt }

-- of a value of one part, of two, of three and of six
pub holds_one : {X Y : Type 0} (P : X → Type 0) (Q : Y → Type 0) (f : X → Y) (r : Judged X) → ((x : X) → P x → Q (f x)) → Holds P r → Holds Q (Ok f ⊛ r)
holds_one P Q f r base h = holds_apply P Q (Ok f) r (record { of_value = base }) h

pub holds_two : {X Y Z : Type 0} (P : X → Type 0) (R : Y → Type 0) (Q : Z → Type 0) (f : X → Y → Z) (r : Judged X) (s : Judged Y)
    → ((x : X) → P x → (y : Y) → R y → Q (f x y)) → Holds P r → Holds R s → Holds Q (Ok f ⊛ r ⊛ s)
holds_two {X} {Y} P R Q f r s base h k = holds_apply R Q (Ok f ⊛ r) s (holds_apply P (λ g. (y : Y) → R y → Q (g y)) (Ok f) r (record { of_value = base }) h) k

pub holds_three : {A B C Z : Type 0} (PA : A → Type 0) (PB : B → Type 0) (PC : C → Type 0) (Q : Z → Type 0) (f : A → B → C → Z) (ra : Judged A)
    (rb : Judged B) (rc : Judged C) →
    ((a : A) → PA a → (b : B) → PB b → (c : C) → PC c → Q (f a b c)) → Holds PA ra → Holds PB rb → Holds PC rc → Holds Q (Ok f ⊛ ra ⊛ rb ⊛ rc)
holds_three {A} {B} {C} PA PB PC Q f ra rb rc base ha hb hc =
    holds_apply PC Q (Ok f ⊛ ra ⊛ rb) rc (holds_apply PB (λ g. (c : C) → PC c → Q (g c)) (Ok f ⊛ ra) rb
    (holds_apply PA (λ g. (b : B) → PB b → (c : C) → PC c → Q (g b c)) (Ok f) ra (record { of_value = base }) ha) hb) hc

pub holds_six : {A B C D E F Z : Type 0} (PA : A → Type 0) (PB : B → Type 0) (PC : C → Type 0) (PD : D → Type 0) (PE : E → Type 0) (PF : F → Type 0)
    (Q : Z → Type 0) (f : A → B → C → D → E → F → Z) (ra : Judged A) (rb : Judged B) (rc : Judged C) (rd : Judged D) (re : Judged E) (ri : Judged F) →
    ((a : A) → PA a → (b : B) → PB b → (c : C) → PC c → (d : D) → PD d → (e : E) → PE e → (i : F) → PF i → Q (f a b c d e i)) → Holds PA ra
    → Holds PB rb → Holds PC rc → Holds PD rd → Holds PE re → Holds PF ri → Holds Q (Ok f ⊛ ra ⊛ rb ⊛ rc ⊛ rd ⊛ re ⊛ ri)
holds_six {A} {B} {C} {D} {E} {F} PA PB PC PD PE PF Q f ra rb rc rd re ri base ha hb hc hd he hi =
    holds_apply PF Q (Ok f ⊛ ra ⊛ rb ⊛ rc ⊛ rd ⊛ re) ri
    (holds_apply PE (λ g. (i : F) → PF i → Q (g i)) (Ok f ⊛ ra ⊛ rb ⊛ rc ⊛ rd) re
    (holds_apply PD (λ g. (e : E) → PE e → (i : F) → PF i → Q (g e i)) (Ok f ⊛ ra ⊛ rb ⊛ rc) rd
    (holds_apply PC (λ g. (d : D) → PD d → (e : E) → PE e → (i : F) → PF i → Q (g d e i)) (Ok f ⊛ ra ⊛ rb) rc
    (holds_apply PB (λ g. (c : C) → PC c → (d : D) → PD d → (e : E) → PE e → (i : F) → PF i → Q (g c d e i)) (Ok f ⊛ ra) rb
    (holds_apply PA (λ g. (b : B) → PB b → (c : C) → PC c → (d : D) → PD d → (e : E) → PE e → (i : F) → PF i → Q (g b c d e i)) (Ok f) ra
    (record { of_value = base }) ha) hb) hc) hd) he) hi

pub holds_at : {X : Type 0} (P : X → Type 0) (r : Judged X) (x : X) → Holds P r → r ≡ Ok x → P x
holds_at {X} P r x h e = let k : Holds P (Ok x) = subst (λ (s : Judged X). Holds P s) e h in k.of_value

-- what is found is among what was searched
found_first : {X : Type 0} (P : X → Bool) (y x : X) (b : Bool) (last : Option X) → P y ≡ true → (last ≡ Some x → P x ≡ true)
    → cond b (Some y) last ≡ Some x → P x ≡ true
found_first {X} P y x true last first others h = let k : y ≡ x = cc in subst (λ (z : X). P z ≡ true) k first
found_first P y x false last first others h = others h

pub found_passes : {X : Type 0} (P test : X → Bool) (xs : List X) (x : X) → list_all P xs ≡ true → find test xs ≡ Some x → P x ≡ true
found_passes P test [] x all h = absurd cc
found_passes P test (y ∷ ys) x all h =
    let p = and_parts (P y) (list_all P ys) all in
    found_first P y x (test y) (find test ys) p.0 (found_passes P test ys x p.1) h

-- what is found passes the test
found_tests_first : {X : Type 0} (test : X → Bool) (y x : X) (b : Bool) (last : Option X) → test y ≡ b → (last ≡ Some x → test x ≡ true)
    → cond b (Some y) last ≡ Some x → test x ≡ true
found_tests_first {X} test y x true last t others h = let k : y ≡ x = cc in subst (λ (z : X). test z ≡ true) k t
found_tests_first test y x false last t others h = others h

pub found_tests : {X : Type 0} (test : X → Bool) (xs : List X) (x : X) → find test xs ≡ Some x → test x ≡ true
found_tests test [] x h = absurd cc
found_tests test (y ∷ ys) x h = found_tests_first test y x (test y) (find test ys) refl (found_tests test ys x) h

pub holds_more : {X : Type 0} (P Q : X → Type 0) (r : Judged X) → ((x : X) → P x → Q x) → Holds P r → Holds Q r
holds_more P Q (Ok x) f h = record { of_value = f x h.of_value }
holds_more P Q (Err fs) f h = record { of_value = tt }

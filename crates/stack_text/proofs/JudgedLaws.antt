-- Where places go up, the first fault in reading order is the least.
use Rattle.std.{proofs.Common.{◌≡◌, ℕ, ◌+◌, ◌<◌, ◌≤◌, List, [], ◌∷◌, ◌++◌, Ok, Err, refl, ap, ◌∙◌, arith}, proofs.lemmas.Bool.{le-ltb, ne_eqb}}
use Rattle.stack_text.{specs.declared.breach.Breach.Breach, specs.Breaches.{lesser, least_of}, specs.Grammar.Judged.{Judged, ◌⊛◌}}

-- the places go up from low on, and are below high
abbrev pub Rises : ℕ → List Breach → ℕ → Type 0
Rises low [] high = low ≤ high
Rises low (f ∷ fs) high = (low ≤ f.place) × Rises (f.place + 1) fs high

-- the same of what a tree is judged to be
abbrev pub JudgedRises : {X : Type 0} → ℕ → Judged X → ℕ → Type 0
JudgedRises low (Ok x) high = low ≤ high
JudgedRises low (Err faults) high = Rises low (faults.0 ∷ faults.1) high

pub Rises-lower : (low lower : ℕ) (fs : List Breach) (high : ℕ) → lower ≤ low → Rises low fs high → Rises lower fs high
Rises-lower low lower [] high le h = omega arith
Rises-lower low lower (f ∷ fs) high le h = (omega (arith, h.0), h.1)

pub Rises-higher : (low high higher : ℕ) (fs : List Breach) → high ≤ higher → Rises low fs high → Rises low fs higher
Rises-higher low high higher [] le h = omega arith
Rises-higher low high higher (f ∷ fs) le h = (h.0, Rises-higher (f.place + 1) high higher fs le h.1)

pub Rises-append : (low mid high : ℕ) (fs gs : List Breach) → Rises low fs mid → Rises mid gs high → Rises low (fs ++ gs) high
Rises-append low mid high [] gs h k = Rises-lower mid low gs high h k
Rises-append low mid high (f ∷ fs) gs h k = (h.0, Rises-append (f.place + 1) mid high fs gs h.1 k)

-- the parts of a value, one after the other
pub JudgedRises-apply : {X Y : Type 0} → (low mid high : ℕ) (r : Judged (X → Y)) (s : Judged X) → low ≤ mid → mid ≤ high → JudgedRises low r mid
    → JudgedRises mid s high → JudgedRises low (r ⊛ s) high
JudgedRises-apply low mid high (Ok f) (Ok x) le up h k = omega arith
JudgedRises-apply low mid high (Ok f) (Err gs) le up h k = Rises-lower mid low (gs.0 ∷ gs.1) high le k
JudgedRises-apply low mid high (Err fs) (Ok x) le up h k = Rises-higher low mid high (fs.0 ∷ fs.1) up h
JudgedRises-apply low mid high (Err fs) (Err gs) le up h k = Rises-append low mid high (fs.0 ∷ fs.1) (gs.0 ∷ gs.1) h k

lesser_first : (f g : Breach) → f.place < g.place → lesser f g ≡ f
lesser_first f g lt = rw (le-ltb g.place f.place (omega arith), ne_eqb g.place f.place (λ e. omega arith)) refl

pub first_is_least : (low high : ℕ) (f : Breach) (fs : List Breach) → Rises low (f ∷ fs) high → least_of f fs ≡ f
first_is_least low high f [] h = refl
first_is_least low high f (g ∷ gs) h =
    ap (lesser f) (first_is_least (f.place + 1) high g gs h.1) ∙ lesser_first f g (omega (arith, h.1.0))

-- In a tree whose places go up, the faults of each part go up too.
use Rattle.std.proofs.Common.{◌≡◌, ◌+◌, ◌<◌, ◌≤◌, ℕ, List, [], ◌∷◌, Ok, Err, subst, arith}
use Rattle.stack_text.{specs.Breaches.least_of, specs.PlaceOrder.{InOrder, IsInOrder}, specs.Trees.{Node, atom, list, place_of}}
use Rattle.stack_text.{specs.declared.breach.Breach.Breach, specs.Grammar.Judged.{Judged, ◌⊛◌, fault}, proofs.JudgedLaws.{JudgedRises, JudgedRises-apply}}
use Rattle.stack_text.proofs.JudgedLaws.{Rises, Rises-lower, Rises-higher, first_is_least}

-- the faults have places from low on and below high, and go up
pub record Up {X : Type 0} (low : ℕ) (r : Judged X) (high : ℕ) : Type 0 where
  pub rises : JudgedRises low r high

Rises-le : (low : ℕ) (fs : List Breach) (high : ℕ) → Rises low fs high → low ≤ high
Rises-le low [] high h = h
Rises-le low (f ∷ fs) high h = let le : f.place + 1 ≤ high = Rises-le (f.place + 1) fs high h.1 in omega (arith, h.0)

JudgedRises-le : {X : Type 0} → (low : ℕ) (r : Judged X) (high : ℕ) → JudgedRises low r high → low ≤ high
JudgedRises-le low (Ok x) high h = h
JudgedRises-le low (Err fs) high h = Rises-le low (fs.0 ∷ fs.1) high h

pub up_le : {X : Type 0} → {low : ℕ} {r : Judged X} {high : ℕ} → Up low r high → low ≤ high
up_le {low = low} {r = r} {high = high} h = JudgedRises-le low r high h.rises

JudgedRises-higher : {X : Type 0} → (low : ℕ) (r : Judged X) (high higher : ℕ) → high ≤ higher → JudgedRises low r high → JudgedRises low r higher
JudgedRises-higher low (Ok x) high higher le h = omega arith
JudgedRises-higher low (Err fs) high higher le h = Rises-higher low high higher (fs.0 ∷ fs.1) le h

JudgedRises-lower : {X : Type 0} → (low lower : ℕ) (r : Judged X) (high : ℕ) → lower ≤ low → JudgedRises low r high → JudgedRises lower r high
JudgedRises-lower low lower (Ok x) high le h = omega arith
JudgedRises-lower low lower (Err fs) high le h = Rises-lower low lower (fs.0 ∷ fs.1) high le h

pub higher : {X : Type 0} → {low : ℕ} {r : Judged X} {mid : ℕ} → Up low r mid → (high : ℕ) → mid ≤ high → Up low r high
higher {low = low} {r = r} {mid = mid} h high le = record { rises = JudgedRises-higher low r mid high le h.rises }

pub lower : {X : Type 0} → {mid : ℕ} {r : Judged X} {high : ℕ} → Up mid r high → (low : ℕ) → low ≤ mid → Up low r high
lower {mid = mid} {r = r} {high = high} h low le = record { rises = JudgedRises-lower mid low r high le h.rises }

pub starts : {X : Type 0} → (x : X) (low high : ℕ) → low ≤ high → Up low (Ok x) high
starts x low high le = record { rises = le }

pub apply_up : {X Y : Type 0} → {low mid high : ℕ} {r : Judged (X → Y)} {s : Judged X} → Up low r mid → Up mid s high → Up low (r ⊛ s) high
apply_up {low = low} {mid = mid} {high = high} {r = r} {s = s} h k = record { rises = JudgedRises-apply low mid high r s (up_le h) (up_le k) h.rises k.rises }

pub at_fault : {X : Type 0} → (low place rule high : ℕ) → low ≤ place → place < high → Up low (fault {X = X} place rule) high
at_fault low place rule high le lt = record { rises = (le, omega arith) }

-- a tree's place is within
pub place_within : (low : ℕ) (t : Node) (high : ℕ) → InOrder low t high → (low ≤ place_of t) × (place_of t < high)
place_within low (atom p bytes) high h = h
place_within low (list p ts) high h = (h.0, h.1)

pub apply_value : {X Y : Type 0} → (f : X → Y) → {low high : ℕ} {r : Judged X} → Up low r high → Up low (Ok f ⊛ r) high
apply_value f {low = low} {high = high} h = apply_up (starts f low low (omega arith)) h

-- in a tree whose places go up, the first fault in reading order is the least of all
pub first_is_judged : {X : Type 0} → {r : Judged X} → (t : Node) → ((low high : ℕ) → InOrder low t high → Up low r high) → IsInOrder t
    → (first : Breach) (others : List Breach) → r ≡ Err (first, others) → least_of first others ≡ first
first_is_judged t up order first others e =
    first_is_least 0 order.0 first others (subst (λ r. JudgedRises 0 r order.0) e (up 0 order.0 order.1).rises)

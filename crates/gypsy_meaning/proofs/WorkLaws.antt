-- Work whose top is opened, and conditions that are raised above it.
use Rattle.std.{proofs.Common.{◌≡◌, ℕ, suc, ◌<◌, List, [], ◌∷◌, length, take, get_or, Bool, true, false, refl, ap, sym, ◌∙◌}, specs.Global.Vec}
use Rattle.std.{specs.declared.alloc.Global.Global, specs.declared.rc.Rc.Rc}
use Rattle.stack_text.specs.Values.{ValueOf}
use Rattle.gypsy_syntax.specs.Programs.{ConditionOf, Stmt}
use Rattle.gypsy_space.{specs.Costs.{Tally, spend}, specs.declared.program.Condition.Condition, specs.declared.program.Node.Node}
use Rattle.gypsy_semantics.{specs.Calls.{has_cond, is_leave}, specs.Machine.{Item, Frame, Do, Back, JoinOne, Guard, At, opens, open_on, settle, raise, stop_if}}
use Rattle.gypsy_meaning.{specs.Views.Work.{item_of, work_of, work_on, OpensOn}, specs.declared.work.Item.Item as Kept, proofs.OpenLaws.work_first}
use Rattle.gypsy_meaning.specs.declared.work.Item.TheVariants as kept

-- the last of the first items is their top
pub top_of : (items : List Kept) (b n : ℕ) (k : Kept) → b ≡ suc n → n < length items → k ≡ get_or items n k →
    work_of (take b items) ≡ item_of k ∷ work_of (take n items)
top_of items b n k e lt is = ap (λ (i : ℕ). work_of (take i items)) e ∙ work_first items n k k lt is

pub settled_opened : (s : Stmt) (ks ls : List Kept) (b : Bool) (w v : List Item) → ks ≡ [] → w ≡ Do s ∷ v → b ≡ true → OpensOn s ks ls b →
    work_on ls v ≡ settle w
settled_opened s ks ls true w v none top so h =
    sym (h v (settle v)) ∙ ap (λ (js : List Kept). opens s (work_on js v) (settle v)) none ∙ ap settle (sym top)
settled_opened s ks ls false w v none top so h = absurd cc

pub settled_empty : (s : Stmt) (ks ls : List Kept) (b : Bool) (w v : List Item) → w ≡ Do s ∷ v → b ≡ false → OpensOn s ks ls b → settle w ≡ settle v
settled_empty s ks ls true w v top so h = absurd cc
settled_empty s ks ls false w v top so h = ap settle top ∙ h.0 v (settle v)

pub back_caught : (c : ConditionOf) (place : ℕ) (s : Stmt) (w v u : List Item) → w ≡ Back place s ∷ v → is_leave c ≡ true → u ≡ settle v →
    (p : ℕ) (x : List ValueOf) (fs : List Frame) (t : Tally) → raise c p x w fs t ≡ At p x u fs (spend 3 2 t)
back_caught c place s w v u top leave is p x fs t =
    ap (λ (l : List Item). raise c p x l fs t) top
    ∙ ap (λ b. stop_if b (At p x (settle v) fs (spend 3 2 t)) (raise c p x v fs t)) leave
    ∙ ap (λ (l : List Item). At p x l fs (spend 3 2 t)) (sym is)

pub back_passed : (c : ConditionOf) (place : ℕ) (s : Stmt) (w v : List Item) → w ≡ Back place s ∷ v → is_leave c ≡ false →
    (p : ℕ) (x : List ValueOf) (fs : List Frame) (t : Tally) → raise c p x w fs t ≡ raise c p x v fs t
back_passed c place s w v top leave p x fs t =
    ap (λ (l : List Item). raise c p x l fs t) top
    ∙ ap (λ b. stop_if b (At p x (settle v) fs (spend 3 2 t)) (raise c p x v fs t)) leave

pub guard_caught : (c : ConditionOf) (place : ℕ) (cs : List ConditionOf) (s : Stmt) (w v u : List Item) → w ≡ Guard place cs s ∷ v → has_cond c cs ≡ true →
    u ≡ open_on s (JoinOne place ∷ v) → (p : ℕ) (x : List ValueOf) (fs : List Frame) (t : Tally) → raise c p x w fs t ≡ At p x u fs (spend 3 2 t)
guard_caught c place cs s w v u top has is p x fs t =
    ap (λ (l : List Item). raise c p x l fs t) top
    ∙ ap (λ b. stop_if b (At p x (open_on s (JoinOne place ∷ v)) fs (spend 3 2 t)) (raise c p x v fs t)) has
    ∙ ap (λ (l : List Item). At p x l fs (spend 3 2 t)) (sym is)

pub guard_passed : (c : ConditionOf) (place : ℕ) (cs : List ConditionOf) (s : Stmt) (w v : List Item) → w ≡ Guard place cs s ∷ v → has_cond c cs ≡ false →
    (p : ℕ) (x : List ValueOf) (fs : List Frame) (t : Tally) → raise c p x w fs t ≡ raise c p x v fs t
guard_passed c place cs s w v top has p x fs t =
    ap (λ (l : List Item). raise c p x l fs t) top
    ∙ ap (λ b. stop_if b (At p x (open_on s (JoinOne place ∷ v)) fs (spend 3 2 t)) (raise c p x v fs t)) has

-- an item that opens to itself
pub solid : (k : Kept) → ((n : Rc Node Global) → k ≡ kept.Do n → ⊥) →
    ((parts : Rc (Vec (Rc Node Global)) Global) (next : ℕ) → k ≡ kept.Parts parts next → ⊥) →
    (v : List Item) → settle (item_of k ∷ v) ≡ item_of k ∷ v
solid (kept.Do n) h g v = absurd (h n refl)
solid (kept.Parts parts next) h g v = absurd (g parts next refl)
solid (kept.Again place n) h g v = refl
solid (kept.Back place n) h g v = refl
solid (kept.JoinThen place n) h g v = refl
solid (kept.JoinOne place) h g v = refl
solid (kept.Guard place conds n) h g v = refl
solid (kept.Out c) h g v = refl

pub settled_solid : (k : Kept) (ls : List Kept) (w v : List Item) → ls ≡ [] → w ≡ item_of k ∷ v → ((n : Rc Node Global) → k ≡ kept.Do n → ⊥) →
    ((parts : Rc (Vec (Rc Node Global)) Global) (next : ℕ) → k ≡ kept.Parts parts next → ⊥) → work_on ls w ≡ settle w
settled_solid k ls w v none top h g = ap (λ (js : List Kept). work_on js w) none ∙ top ∙ sym (solid k h g v) ∙ ap settle (sym top)

-- an item that a condition passes over
passes : (k : Kept) → ((place : ℕ) (n : Rc Node Global) → k ≡ kept.Back place n → ⊥) →
    ((place : ℕ) (conds : Rc (Vec Condition) Global) (n : Rc Node Global) → k ≡ kept.Guard place conds n → ⊥) →
    (c : ConditionOf) (v : List Item) (p : ℕ) (x : List ValueOf) (fs : List Frame) (t : Tally) → raise c p x (item_of k ∷ v) fs t ≡ raise c p x v fs t
passes (kept.Do n) h g c v p x fs t = refl
passes (kept.Parts parts next) h g c v p x fs t = refl
passes (kept.Again place n) h g c v p x fs t = refl
passes (kept.Back place n) h g c v p x fs t = absurd (h place n refl)
passes (kept.JoinThen place n) h g c v p x fs t = refl
passes (kept.JoinOne place) h g c v p x fs t = refl
passes (kept.Guard place conds n) h g c v p x fs t = absurd (g place conds n refl)
passes (kept.Out d) h g c v p x fs t = refl

pub passed_over : (k : Kept) (w v : List Item) → w ≡ item_of k ∷ v → ((place : ℕ) (n : Rc Node Global) → k ≡ kept.Back place n → ⊥) →
    ((place : ℕ) (conds : Rc (Vec Condition) Global) (n : Rc Node Global) → k ≡ kept.Guard place conds n → ⊥) →
    (c : ConditionOf) (p : ℕ) (x : List ValueOf) (fs : List Frame) (t : Tally) → raise c p x w fs t ≡ raise c p x v fs t
passed_over k w v top h g c p x fs t = ap (λ (l : List Item). raise c p x l fs t) top ∙ passes k h g c v p x fs t

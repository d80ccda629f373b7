-- Statements that are opened, and work that is put on other work.
use Rattle.std.proofs.Common.{◌≡◌, ℕ, zero, suc, ◌-◌, ◌<◌, ◌≤◌, List, [], ◌∷◌, ◌++◌, length, drop, take, get_or, Bool, true, false, Some, refl, ap, sym, ◌∙◌}
use Rattle.std.{proofs.Common.arith, specs.Prelude.slice_get, proofs.Math.Seq.take-length, specs.declared.rc.Rc.Rc, specs.declared.alloc.Global.Global}
use Rattle.gypsy_syntax.specs.Programs.{Stmt}
use Rattle.gypsy_space.{specs.declared.program.Node.Node, specs.Nodes.seen_statements}
use Rattle.gypsy_semantics.specs.Machine.{Item, opens}
use Rattle.gypsy_meaning.{specs.Views.Work.{item_of, left_by, work_of, work_on, OpensOn}, specs.declared.work.Item.Item as Kept}

-- more items on top
pub work_more : (ks ls : List Kept) (w : List Item) → work_on (ks ++ ls) w ≡ work_on ls (work_on ks w)
work_more [] ls w = refl
work_more (k ∷ ks) ls w = work_more ks ls (item_of k ∷ w)

pub work_put : (ks : List Kept) (k : Kept) (w : List Item) → work_on (ks ++ k ∷ []) w ≡ item_of k ∷ work_on ks w
work_put ks k w = work_more ks (k ∷ []) w

-- the item at a position is the top of the first ones with it
pub work_first : (ks : List Kept) (n : ℕ) (k d : Kept) → n < length ks → k ≡ get_or ks n d → work_of (take (suc n) ks) ≡ item_of k ∷ work_of (take n ks)
work_first ks n k d lt is = ap work_of (first ks n k d lt is) ∙ work_put (take n ks) k []
  where
    first : (ks : List Kept) (n : ℕ) (k d : Kept) → n < length ks → k ≡ get_or ks n d → take (suc n) ks ≡ take n ks ++ k ∷ []
    first [] n k d lt is = absurd (omega (arith, lt))
    first (j ∷ ks) zero k d lt is = ap (λ (x : Kept). x ∷ []) (sym is)
    first (j ∷ ks) (suc n) k d lt is = ap (λ (x : List Kept). j ∷ x) (first ks n k d (omega (arith, lt)) is)

pub none_left : (ns : List (Rc Node Global)) (k : ℕ) (w ws : List Item) → length ns ≤ k → opens (seen_statements (drop k ns)) w ws ≡ ws
none_left [] zero w ws le = refl
none_left [] (suc k) w ws le = refl
none_left (n ∷ ns) zero w ws le = absurd (omega (arith, le))
none_left (n ∷ ns) (suc k) w ws le = none_left ns k w ws (omega (arith, le))

-- a statement is opened on an item that was put
pub put_opens : (s : Stmt) (js ls : List Kept) (b : Bool) (v w ws : List Item) → work_on js w ≡ v → OpensOn s js ls b → ws ≡ v →
    opens s v ws ≡ work_on ls w
put_opens s js ls true v w ws e h is = ap (λ (u : List Item). opens s u ws) (sym e) ∙ h w ws
put_opens s js ls false v w ws e h is = h.0 v ws ∙ is ∙ sym e ∙ ap (λ (k : List Kept). work_on k w) (sym h.1)

all_but_last : (ks : List Kept) (n : ℕ) (k : Kept) → suc n ≡ length ks → Some k ≡ slice_get ks n → ks ≡ take n ks ++ k ∷ []
all_but_last [] n k e h = absurd (omega (arith, e))
all_but_last (j ∷ []) zero k e h = let i : k ≡ j = cc in ap (λ (x : Kept). x ∷ []) (sym i)
all_but_last (j ∷ i ∷ ks) zero k e h = absurd (omega (arith, e))
all_but_last (j ∷ ks) (suc n) k e h = ap (λ (x : List Kept). j ∷ x) (all_but_last ks n k (omega (arith, e)) h)

-- the last item is the top
pub last_top : (ks : List Kept) (k : Kept) → Some k ≡ slice_get ks (length ks - 1) → work_of ks ≡ item_of k ∷ work_of (take (length ks - 1) ks)
last_top [] k h = absurd cc
last_top (j ∷ ks) k h =
    let e : length (j ∷ ks) - 1 ≡ length ks = omega arith in
    let whole : j ∷ ks ≡ take (length ks) (j ∷ ks) ++ k ∷ [] = all_but_last (j ∷ ks) (length ks) k (omega arith) (h ∙ ap (slice_get (j ∷ ks)) e) in
    ap work_of whole ∙ work_put (take (length ks) (j ∷ ks)) k [] ∙ ap (λ (n : ℕ). item_of k ∷ work_of (take n (j ∷ ks))) (sym e)

rest_of : (i j : Item) (v w : List Item) → i ∷ v ≡ j ∷ w → v ≡ w
rest_of i j v w e = cc

-- what is left without the top
pub popped : (ks : List Kept) (i : Item) (w : List Item) → work_of ks ≡ i ∷ w → work_of (take (length ks - 1) ks) ≡ w
popped [] i w h = absurd cc
popped (j ∷ ks) i w h =
    let n = length ks in
    let k : Kept = get_or (j ∷ ks) n j in
    let e : length (j ∷ ks) - 1 ≡ n = omega arith in
    let lt : n < length (j ∷ ks) = omega arith in
    let all : take (suc n) (j ∷ ks) ≡ j ∷ ks = take-length (j ∷ ks) in
    ap (λ (b : ℕ). work_of (take b (j ∷ ks))) e
    ∙ rest_of (item_of k) i (work_of (take n (j ∷ ks))) w (sym (work_first (j ∷ ks) n k j lt refl) ∙ ap work_of all ∙ h)

-- items that were moved on those that stay
pub moved : (ks ls added : List Kept) (kept : ℕ) → ls ≡ take kept ks ++ added → work_of ls ≡ left_by ks added kept
moved ks ls added kept e = ap work_of e ∙ work_more (take kept ks) added []

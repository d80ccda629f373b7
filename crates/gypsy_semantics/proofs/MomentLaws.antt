-- What a run shows after so many steps is where the step machine then stands.
use Rattle.std.proofs.Common.{◌≡◌, ℕ, zero, suc, ◌+◌, List, refl, sym, ap, subst, ◌∙◌, arith}
use Rattle.stack_text.specs.Values.{ValueOf}
use Rattle.gypsy_syntax.specs.Programs.{Program}
use Rattle.gypsy_space.{specs.Costs.{Tally, start_tally}, specs.Needs.StackSizes}
use Rattle.gypsy_semantics.{specs.Machine.{At, Ended, Frame, Item, Move, Next, State, gypsy_step}, specs.Views.Moments.{IsMoment, moment, moment_from}}
use Rattle.gypsy_semantics.{specs.Views.Moments.{moved_on, shown_stage, spent_by}, specs.Views.RunView.{Running, Seen, ShowsSum, Stage, added, after}}
use Rattle.gypsy_semantics.{specs.Views.RunView.{after_move, left_from, left_of, lending, lending_move, opening}, proofs.ApartLaws.{add_to, plus-nothing}}
use Rattle.gypsy_semantics.{proofs.ApartLaws.step_apart, proofs.LendingLaws.{back_again, step_lent}, proofs.SeenLaws.{after_last, after_same}}

-- One step more, made last.

alone : (q : Program) (sizes : StackSizes) (a : Move) → moved_on a (moment q sizes zero) ≡ a
alone q sizes (Next g) = refl
alone q sizes (Ended x c t) = refl

last_of : (q : Program) (sizes : StackSizes) (k : ℕ) (a : Move)
    → ((g : State) → moment q sizes (suc k) g ≡ moved_on (moment q sizes k g) (gypsy_step q sizes)) →
    moved_on a (moment q sizes (suc k)) ≡ moved_on (moved_on a (moment q sizes k)) (gypsy_step q sizes)
last_of q sizes k (Next g) rest = rest g
last_of q sizes k (Ended x c t) rest = refl

moment_last : (q : Program) (sizes : StackSizes) (k : ℕ) (g : State) → moment q sizes (suc k) g ≡ moved_on (moment q sizes k g) (gypsy_step q sizes)
moment_last q sizes zero g = alone q sizes (gypsy_step q sizes g)
moment_last q sizes (suc k) g = last_of q sizes k (gypsy_step q sizes g) (moment_last q sizes k)

-- What a step comes to is shown alike, whatever was lent or spent before.

stage_lent : (a : Move) → shown_stage (lending_move a) ≡ shown_stage a
stage_lent (Next (At p x w fs t)) = ap (λ (gs : List Frame). Running (At p x w gs start_tally)) (back_again x x fs refl)
stage_lent (Ended x c t) = refl

spent_lent : (a : Move) → spent_by (lending_move a) ≡ spent_by a
spent_lent (Next (At p x w fs t)) = refl
spent_lent (Ended x c t) = refl

stage_apart : (t : Tally) (a : Move) → shown_stage (add_to t a) ≡ shown_stage a
stage_apart t (Next (At p x w fs u)) = refl
stage_apart t (Ended x c u) = refl

spent_apart : (t : Tally) (a : Move) → spent_by (add_to t a) ≡ t.count + spent_by a
spent_apart t (Next (At p x w fs u)) = refl
spent_apart t (Ended x c u) = refl

stage_moved : (v : Seen) (a : Move) → (after_move v a).stage ≡ shown_stage a
stage_moved v (Next g) = refl
stage_moved v (Ended x c t) = refl

counted_moved : (v : Seen) (a : Move) → (after_move v a).counted ≡ added v.counted (spent_by a)
counted_moved v (Next g) = refl
counted_moved v (Ended x c t) = refl

-- Steps.

step_shown : (v : Seen) (p : ℕ) (x : List ValueOf) (w : List Item) (fs : List Frame) (t : Tally) → ShowsSum v.counted t.count →
    IsMoment (left_from v (shown_stage (Next (At p x w fs t)))) (gypsy_step v.program v.sizes (At p x w fs t))
step_shown v p x w fs t h =
    let q = v.program in
    let plain : State = At p x w fs start_tally in
    let a : Move = gypsy_step q v.sizes (lending plain) in
    let b : Move = gypsy_step q v.sizes plain in
    let lent : lending_move a ≡ lending_move b = step_lent q v.sizes plain in
    let apart : gypsy_step q v.sizes (At p x w fs t) ≡ add_to t b =
    ap (λ (u : Tally). gypsy_step q v.sizes (At p x w fs u)) (sym (plus-nothing t)) ∙ step_apart t q v.sizes plain in
    let cost : spent_by a ≡ spent_by b = sym (spent_lent a) ∙ ap spent_by lent ∙ spent_lent b in
    let sum : spent_by (add_to t b) ≡ t.count + spent_by b = spent_apart t b in
    let shown : ShowsSum (added v.counted (spent_by a)) (spent_by (add_to t b)) = omega (arith, h, cost, sum) in
    let P : ℕ → Type 0 = λ n. ShowsSum n (spent_by (add_to t b)) in
    let Q : Move → Type 0 = IsMoment (after_move v a) in
    subst Q (sym apart)
    record {
      stage = stage_moved v a ∙ sym (stage_lent a) ∙ ap shown_stage lent ∙ stage_lent b ∙ sym (stage_apart t b);
      counted = subst P (sym (counted_moved v a)) shown;
    }

from_shown : (v : Seen) (a : Move) → v.stage ≡ shown_stage a → ShowsSum v.counted (spent_by a)
    → IsMoment (left_from v (shown_stage a)) (moved_on a (gypsy_step v.program v.sizes))
from_shown v (Next (At p x w fs t)) e h = step_shown v p x w fs t h
from_shown v (Ended x c t) e h = record { stage = e; counted = h }

left_shown : (v : Seen) (a : Move) → IsMoment v a → IsMoment (left_of v) (moved_on a (gypsy_step v.program v.sizes))
unfolding left_of
left_shown v a m =
    let P : Stage → Type 0 = λ s. IsMoment (left_from v s) (moved_on a (gypsy_step v.program v.sizes)) in
    subst P (sym m.stage) (from_shown v a m.stage m.counted)

pub shows : (q : Program) (sizes : StackSizes) (v : List ValueOf) (k : ℕ) → IsMoment (after k (opening q sizes v)) (moment_from q sizes v k)
unfolding after
shows q sizes v zero = record { stage = refl; counted = refl }
shows q sizes v (suc k) =
    let first = opening q sizes v in
    let w = after k first in
    let a = moment_from q sizes v k in
    let same = after_same k first in
    let P : Program → Type 0 = λ r. IsMoment (left_of w) (moved_on a (gypsy_step r w.sizes)) in
    let Q : StackSizes → Type 0 = λ u. IsMoment (left_of w) (moved_on a (gypsy_step q u)) in
    let R : Seen → Type 0 = λ u. IsMoment u (moved_on a (gypsy_step q sizes)) in
    let S : Move → Type 0 = IsMoment (after (suc k) first) in
    let next : Q w.sizes = subst P same.program (left_shown w a (shows q sizes v k)) in
    subst S (sym (moment_last q sizes k _)) (subst R (sym (after_last k first)) (subst Q same.sizes next))

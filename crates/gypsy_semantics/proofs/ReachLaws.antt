-- Where a run stands by the step machine from the start, and what that says of the meaning.
use Rattle.std.{proofs.Common.{◌≡◌, ℕ, zero, suc, ◌+◌, ◌≤◌, List, refl, sym, ap, ap₂, subst, ◌∙◌, arith}, specs.Prelude.option_map}
use Rattle.stack_text.specs.Values.{ValueOf}
use Rattle.gypsy_syntax.specs.Programs.{Program}
use Rattle.gypsy_space.{specs.Costs.{Tally, start_tally}, specs.Needs.StackSizes}
use Rattle.gypsy_semantics.{specs.Calls.CurrentCondition, specs.Meaning.{Done, meaning}, specs.Counted.{CountedDone, CountedOutcome, CountedUnfinished}}
use Rattle.gypsy_semantics.{specs.Counted.{counted_meaning, tally_of, uncounted}, specs.Machine.{At, Ended, Frame, Going, Item, Move, Next, Over, State, go_on}}
use Rattle.gypsy_semantics.{specs.Machine.{gypsy_step, run, start}, specs.Views.RunView.{Finished, IsEnd, Running, Seen, ShowsSum, Stage, added, after}}
use Rattle.gypsy_semantics.specs.Views.RunView.{after_move, answer_by, answer_from, answer_of, bare, end_by, handed_back, left_from, left_of, opening, ran_on}
use Rattle.gypsy_semantics.{specs.Views.RunView.meaning_run, specs.Views.RunAgrees.MeansEnd, proofs.ApartLaws.{add, add_to, plus, plus-nothing, step_apart}}
use Rattle.gypsy_semantics.{proofs.CountLaws.meaning-uncounted, proofs.LendingLaws.run_lent, proofs.Runs.{agree, longer, one_end}}

-- after so many steps from the start, with so much spent
abbrev pub IsAt : Seen → Stage → ℕ → Tally → Type 0
IsAt v (Running g) made t =
    (k : ℕ) → run v.program v.sizes (made + k) (start v.program v.values) ≡ run v.program v.sizes k (add t g)
IsAt v (Finished x c) made t = run v.program v.sizes made (start v.program v.values) ≡ Over x c t

pub record Reached (v : Seen) : Type 0 where
  pub made : ℕ
  pub spent : Tally
  pub steps : ShowsSum v.steps made
  pub counted : ShowsSum v.counted spent.count
  pub at : IsAt v v.stage made spent

pub opening_reached : (q : Program) (sizes : StackSizes) (v : List ValueOf) → Reached (opening q sizes v)
opening_reached q sizes v = record {
  made = 0;
  spent = start_tally;
  steps = refl;
  counted = refl;
  at = λ k. let none : 0 + k ≡ k = omega arith in ap (λ n. run q sizes n (start q v)) none;
}

-- a counter that shows a sum shows what is added to it
added_shows : (shown n m : ℕ) → ShowsSum shown n → ShowsSum (added shown m) (n + m)
added_shows shown n m h = omega (arith, h)

stepped : (q : Program) (sizes : StackSizes) (g : State) (t : Tally) (a : Move) (k : ℕ) → gypsy_step q sizes g ≡ a
    → run q sizes (suc k) (add t g) ≡ go_on (add_to t a) (run q sizes k)
stepped q sizes g t a k e = ap (λ m. go_on m (run q sizes k)) (step_apart t q sizes g ∙ ap (add_to t) e)

-- what is spent is counted apart, and what is lent changes no run
bare_run : (q : Program) (sizes : StackSizes) (k : ℕ) (t : Tally) (p : ℕ) (x : List ValueOf) (w : List Item) (fs : List Frame) (u : Tally)
    → run q sizes k (add t (At p x w fs u)) ≡ run q sizes k (add (plus t u) (bare (At p x w fs u)))
bare_run q sizes k t p x w fs u =
    sym (run_lent q sizes k (At p x w fs (plus t u)))
    ∙ ap (λ (v : Tally). run q sizes k (At p x w (handed_back x fs) v)) (sym (plus-nothing (plus t u)))

pub move_reached : (v : Seen) (g : State) (made : ℕ) (t : Tally) (a : Move) → Reached v → ShowsSum v.steps made → ShowsSum v.counted t.count
    → IsAt v (Running g) made t → gypsy_step v.program v.sizes g ≡ a → Reached (after_move v a)
move_reached v g made t (Next (At p x w fs u)) r steps counted at e = record {
  made = made + 1;
  spent = plus t u;
  steps = added_shows v.steps made 1 steps;
  counted = added_shows v.counted t.count u.count counted;
  at = λ k.
      let q = v.program in
      let shift : made + 1 + k ≡ made + suc k = omega arith in
      ap (λ n. run q v.sizes n (start q v.values)) shift
      ∙ at (suc k)
      ∙ stepped q v.sizes g t (Next (At p x w fs u)) k e
      ∙ bare_run q v.sizes k t p x w fs u;
}
move_reached v g made t (Ended x c u) r steps counted at e = record {
  made = made + 1;
  spent = plus t u;
  steps = added_shows v.steps made 1 steps;
  counted = added_shows v.counted t.count u.count counted;
  at = at 1 ∙ stepped v.program v.sizes g t (Ended x c u) 0 e;
}

from_reached : (v : Seen) (s : Stage) (r : Reached v) → IsAt v s r.made r.spent → Reached (left_from v s)
from_reached v (Running g) r at = move_reached v g r.made r.spent (gypsy_step v.program v.sizes g) r r.steps r.counted at refl
from_reached v (Finished x c) r at = r

pub left_reached : (v : Seen) → Reached v → Reached (left_of v)
unfolding left_of
left_reached v r = from_reached v v.stage r r.at

pub after_reached : (k : ℕ) (v : Seen) → Reached v → Reached (after k v)
unfolding after
after_reached zero v r = r
after_reached (suc k) v r = after_reached k (left_of v) (left_reached v r)

-- The agreement.

-- where a run is over
pub end_agrees : (v : Seen) (x : List ValueOf) (c : CurrentCondition) → Reached v → v.stage ≡ Finished x c → MeansEnd v x c
end_agrees v x c r e =
    let q = v.program in
    let P : Stage → Type 0 = λ s. IsAt v s r.made r.spent in
    let over : run q v.sizes r.made (start q v.values) ≡ Over x c r.spent = subst P e r.at in
    let done = (agree q v.sizes v.values).ended r.made x c r.spent over in
    record {
      made = r.made;
      count = r.spent.count;
      steps = r.steps;
      counted = r.counted;
      meaning_is = sym (meaning-uncounted q v.sizes v.values (suc r.made)) ∙ ap uncounted done;
      count_is = ap (λ o. option_map (λ t. t.count) (tally_of o)) done;
    }

-- what is done without counts is done with them
pub counted_too : (o : CountedOutcome) (x : List ValueOf) (c : CurrentCondition) → uncounted o ≡ Done x c → (t : Tally) × (o ≡ CountedDone x c t)
counted_too (CountedDone y d t) x c e = (t, grind arith)
counted_too CountedUnfinished x c e = absurd cc

-- the machine ends within so many steps
abbrev EndsWithin : Seen → Stage → ℕ → List ValueOf → CurrentCondition → Type 0
EndsWithin v (Running g) k x c = (t u : Tally) × (run v.program v.sizes k (add t g) ≡ Over x c u)
EndsWithin v (Finished y d) k x c = (y ≡ x) × (d ≡ c)

same_end : (x y : List ValueOf) (c d : CurrentCondition) (t u : Tally) → Over x c t ≡ Over y d u → (x ≡ y) × (c ≡ d)
same_end x y c d t u e = (cc, cc)

module _ (x : List ValueOf) (c : CurrentCondition) where
  move_ends : (k : ℕ) (v : Seen) (t u : Tally) (a : Move) → ((w : Seen) → EndsWithin w w.stage k x c → IsEnd (meaning_run k w) x c)
      → go_on (add_to t a) (run v.program v.sizes k) ≡ Over x c u →
      IsEnd (ran_on (answer_by a) (after_move v a) (meaning_run k)) x c
  move_ends k v t u (Next (At p y w fs s)) rest h =
      rest (after_move v (Next (At p y w fs s))) (plus t s, u, sym (bare_run v.program v.sizes k t p y w fs s) ∙ h)
  move_ends k v t u (Ended y d s) rest h =
      let same = same_end y x d c (plus t s) u h in
      record { run = refl; stage = ap₂ Finished same.0 same.1 }

  from_ends : (k : ℕ) (v : Seen) (s : Stage) → ((w : Seen) → EndsWithin w w.stage k x c → IsEnd (meaning_run k w) x c) → v.stage ≡ s
      → EndsWithin v s (suc k) x c →
      IsEnd (ran_on (answer_from v s) (left_from v s) (meaning_run k)) x c
  from_ends k v (Running g) rest e h =
      let q = v.program in
      move_ends k v h.0 h.1 (gypsy_step q v.sizes g) rest (sym (stepped q v.sizes g h.0 (gypsy_step q v.sizes g) k refl) ∙ h.2)
  from_ends k v (Finished y d) rest e h = record { run = refl; stage = e ∙ ap₂ Finished h.0 h.1 }

  here_ends : (v : Seen) (s : Stage) → v.stage ≡ s → EndsWithin v s 0 x c → IsEnd (record { run = end_by s; seen = v }) x c
  here_ends v (Running g) e h = let never : Going ≡ Over x c h.1 = h.2 in absurd cc
  here_ends v (Finished y d) e h = record { run = refl; stage = e ∙ ap₂ Finished h.0 h.1 }

  run_ends : (k : ℕ) (v : Seen) → EndsWithin v v.stage k x c → IsEnd (meaning_run k v) x c
  unfolding meaning_run answer_of left_of
  run_ends zero v h = here_ends v v.stage refl h
  run_ends (suc k) v h = from_ends k v v.stage (run_ends k) refl h

  at_ends : (v : Seen) (s : Stage) (made j limit : ℕ) (spent t : Tally) → IsAt v s made spent
      → run v.program v.sizes j (start v.program v.values) ≡ Over x c t → j ≤ limit → EndsWithin v s limit x c
  at_ends v (Running g) made j limit spent t at over le =
      let q = v.program in
      (spent, t, sym (at limit) ∙ longer q v.sizes j (made + limit) (omega (arith, le)) (start q v.values) (Over x c t) tt over)
  at_ends v (Finished y d) made j limit spent t at over le =
      let q = v.program in
      same_end y x d c spent t (one_end q v.sizes made j (start q v.values) (Over y d spent) (Over x c t) tt tt at over)

  -- where the meaning is done, a run with a limit large enough ends with the same
  pub completes : (v : Seen) (n : ℕ) → Reached v → meaning v.program v.sizes v.values n ≡ Done x c → (j : ℕ)
      × ((limit : ℕ) → j ≤ limit → IsEnd (meaning_run limit v) x c)
  completes v n r done =
      let q = v.program in
      let counted = counted_too (counted_meaning q v.sizes v.values n) x c (meaning-uncounted q v.sizes v.values n ∙ done) in
      let over = (agree q v.sizes v.values).done n x c counted.0 counted.1 in
      (over.0, λ limit le. run_ends limit v (at_ends v v.stage r.made over.0 limit r.spent counted.0 r.at over.1 le))

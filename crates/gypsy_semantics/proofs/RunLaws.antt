-- Runs of several steps.
use Rattle.std.proofs.Common.{◌≡◌, ℕ, zero, suc, ◌+◌, ◌-◌, ◌<◌, ◌≤◌, Bool, true, false, refl, sym, ap, subst, ◌∙◌, arith}
use Rattle.gypsy_semantics.{specs.Views.RunAgrees.{EndAgrees, RunAgrees}, specs.Machine.{Ended, Move, Next, State, gypsy_step}, specs.Views.RunView.Finished}
use Rattle.gypsy_semantics.specs.Views.RunView.{Ran, Running, Seen, Stage, after_move, answer_by, answer_from, answer_of, end_by, is_over, left_from, left_of}
use Rattle.gypsy_semantics.{specs.Views.RunView.{ran_on, meaning_run}, specs.declared.answers.MeanRun.MeanRun, specs.declared.answers.Moved.Moved}
use Rattle.gypsy_semantics.proofs.ReachLaws.{IsAt, Reached, end_agrees, move_reached}
use Rattle.gypsy_semantics.specs.declared.answers.MeanRun.TheVariants as ran

abbrev pub over_answer : Bool → MeanRun
over_answer true = ran.Ended
over_answer false = ran.Spent

-- what is left of a run, by the answer of a step
next_by : (k : ℕ) (v : Seen) (a : Moved) → answer_of v ≡ a → meaning_run (suc k) v ≡ ran_on a (left_of v) (meaning_run k)
unfolding meaning_run
next_by k v a e = ap (λ b. ran_on b (left_of v) (meaning_run k)) e

pub run_left : (limit made : ℕ) (v : Seen) (r : Ran) (a : Moved) → made < limit → meaning_run (limit - made) v ≡ r → answer_of v ≡ a
    → ran_on a (left_of v) (meaning_run (limit - (made + 1))) ≡ r
run_left limit made v r a lt e is =
    let one : limit - made ≡ suc (limit - (made + 1)) = omega (arith, lt) in
    sym (next_by (limit - (made + 1)) v a is) ∙ sym (ap (λ n. meaning_run n v) one) ∙ e

pub run_done : (limit made : ℕ) (v : Seen) (r : Ran) → limit ≤ made → meaning_run (limit - made) v ≡ r → r ≡ record { run = end_by v.stage; seen = v }
unfolding meaning_run
run_done limit made v r le e = let none : limit - made ≡ 0 = omega (arith, le) in sym e ∙ ap (λ n. meaning_run n v) none

-- The answer of a run agrees with the meaning.

module _ (k : ℕ) (rest : (w : Seen) → Reached w → RunAgrees (meaning_run k w).seen (meaning_run k w).run) where
  move_agrees : (v : Seen) (g : State) (a : Move) → (r : Reached v) → v.stage ≡ Running g → IsAt v (Running g) r.made r.spent
      → gypsy_step v.program v.sizes g ≡ a →
      let b = ran_on (answer_by a) (after_move v a) (meaning_run k) in RunAgrees b.seen b.run
  move_agrees v g (Next h) r e at step = rest (after_move v (Next h)) (move_reached v g r.made r.spent (Next h) r r.steps r.counted at step)
  move_agrees v g (Ended x c u) r e at step =
      end_agrees (after_move v (Ended x c u)) x c (move_reached v g r.made r.spent (Ended x c u) r r.steps r.counted at step) refl

  from_agrees : (v : Seen) (s : Stage) → (r : Reached v) → v.stage ≡ s → let b =
      ran_on (answer_from v s) (left_from v s) (meaning_run k) in RunAgrees b.seen b.run
  from_agrees v (Running g) r e =
      let P : Stage → Type 0 = λ s. IsAt v s r.made r.spent in
      move_agrees v g (gypsy_step v.program v.sizes g) r e (subst P e r.at) refl
  from_agrees v (Finished x c) r e = let P : Stage → Type 0 = EndAgrees v in subst P (sym e) (end_agrees v x c r e)

here_agrees : (v : Seen) (s : Stage) → Reached v → v.stage ≡ s → RunAgrees v (end_by s)
here_agrees v (Running g) r e = tt
here_agrees v (Finished x c) r e = let P : Stage → Type 0 = EndAgrees v in subst P (sym e) (end_agrees v x c r e)

pub run_agrees : (k : ℕ) (v : Seen) → Reached v → RunAgrees (meaning_run k v).seen (meaning_run k v).run
unfolding meaning_run answer_of left_of
run_agrees zero v r = here_agrees v v.stage r refl
run_agrees (suc k) v r = from_agrees k (run_agrees k) v v.stage r refl

-- with what a run gave
pub answer_agrees : (k : ℕ) (v w : Seen) (run : MeanRun) → Reached v → meaning_run k v ≡ record { run = run; seen = w } → RunAgrees w run
answer_agrees k v w run r e = let P : Ran → Type 0 = λ b. RunAgrees b.seen b.run in subst P e (run_agrees k v r)

-- how a run ends whose steps are spent
pub end_over : (s : Stage) (b : Bool) → is_over s ≡ b → end_by s ≡ over_answer b
end_over (Running g) b e = ap over_answer e
end_over (Finished x c) b e = ap over_answer e

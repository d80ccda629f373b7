use Rattle.std.proofs.Common.{◌≡◌, ℕ, suc, ◌+◌, ◌-◌, ◌<◌, ◌≤◌, true, false, sym, ap, ◌∙◌, refl, arith}
use Rattle.gypsy_meaning.specs.Views.Running.{seen}
use Rattle.gypsy_semantics.{specs.Views.RunView.{Ran, Seen, after, left_of, meaning_run}, specs.declared.answers.MeanRun.MeanRun, proofs.RunLaws.end_over}
use Rattle.gypsy_semantics.{proofs.RunLaws.{run_done, run_left}, proofs.SeenLaws.after_last}
use Rattle.gypsy_semantics.specs.declared.answers.MeanRun.TheVariants as ran
use Rattle.gypsy_semantics.specs.declared.answers.Moved.TheVariants as moved
use Rattle.gypsy_meaning.proofs.running.Meaning.make_steps.Goals as goal

pub loop-made-init : goal.loop-made-init
unfolding after
loop-made-init g c =
    let v = seen c.args.self.now in
    let all : c.args.limit - 0 ≡ c.args.limit = omega arith in
    (ap (λ (n : ℕ). meaning_run n v) all, refl, c.requires)

pub returns-in-Ended-clause-ran : goal.returns-in-Ended-clause-ran
returns-in-Ended-clause-ran g c =
    let v = seen c.loop-made.self in
    let r = meaning_run c.args.limit (seen c.args.self.now) in
    let lt : c.loop-made._made < c.args.limit = omega arith in
    sym (run_left c.args.limit c.loop-made._made v r moved.Ended lt c.loop-made.invariant.0 (sym c.in_ok-step.ensures.answer ∙ c.in-Ended.is))
    ∙ ap (λ (s : Seen). let b : Ran = record { run = ran.Ended; seen = s } in b) (sym c.in_ok-step.ensures.left)

pub loop-made-preserved : goal.loop-made-preserved
loop-made-preserved g c =
    let v = seen c.loop-made.self in
    let w = seen c.args.self.now in
    let made = c.loop-made._made in
    let lt : made < c.args.limit = omega arith in
    let more : suc made ≡ made + 1 = omega arith in
    let left : seen c.step.new.self ≡ left_of v = c.in_ok-step.ensures.left in (
      ap (meaning_run (c.args.limit - (made + 1))) left
          ∙ run_left c.args.limit made v (meaning_run c.args.limit w) moved.Moved lt c.loop-made.invariant.0 (sym c.in_ok-step.ensures.answer ∙ c.in-Moved.is),
      left ∙ ap left_of c.loop-made.invariant.1 ∙ sym (after_last made w) ∙ ap (λ (n : ℕ). after n w) more,
      c.step.ensures.belongs,
    )

pub returns-then-ended-clause-ran : goal.returns-then-ended-clause-ran
returns-then-ended-clause-ran g c =
    let v = seen c.loop-made.self in
    let past : c.args.limit ≤ c.loop-made._made = omega arith in
    run_done c.args.limit c.loop-made._made v (meaning_run c.args.limit (seen c.args.self.now)) past c.loop-made.invariant.0
    ∙ ap (λ (e : MeanRun). let b : Ran = record { run = e; seen = v } in b) (end_over v.stage true (sym c.ended.ensures ∙ c.if-ended.true))

pub returns-else-ended-clause-ran : goal.returns-else-ended-clause-ran
returns-else-ended-clause-ran g c =
    let v = seen c.loop-made.self in
    let past : c.args.limit ≤ c.loop-made._made = omega arith in
    run_done c.args.limit c.loop-made._made v (meaning_run c.args.limit (seen c.args.self.now)) past c.loop-made.invariant.0
    ∙ ap (λ (e : MeanRun). let b : Ran = record { run = e; seen = v } in b) (end_over v.stage false (sym c.ended.ensures ∙ c.if-ended.false))

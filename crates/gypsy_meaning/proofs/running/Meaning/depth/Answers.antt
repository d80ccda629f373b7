use Rattle.std.proofs.Common.{◌≡◌, ℕ, ◌+◌, ◌^◌, ◌<◌, length, Option, sym, subst, ap, ◌∙◌, arith}
use Rattle.gypsy_meaning.{specs.Views.Running.{seen, stage_by}, specs.declared.running.Ending.Ending, proofs.ShownLaws.depth_shown}
use Rattle.gypsy_semantics.specs.Views.RunView.{depth_at}
use Rattle.gypsy_meaning.proofs.running.Meaning.depth.Goals as goal

pub returns-in-None : goal.returns-in-None
returns-in-None c = λ s needs b.
    let m = c.args.self.now in
    let lt : m.ctrl < 2 ^ 32 = omega arith in
    let d = depth_shown s needs m b c.in-None.is lt in
    let n : c.len.result ≡ length m.waiting.items = omega (arith, m.waiting.ok, c.len.ensures) in
    let P : ℕ → Type 0 = λ k. k + 1 < 2 ^ 32 in
    c.above.ensures (subst P (sym n) d.0) ∙ ap (λ (k : ℕ). k + 1) n ∙ sym d.1

pub returns-in-Some : goal.returns-in-Some
unfolding seen
returns-in-Some c = λ s needs b. ap (λ (o : Option Ending). depth_at (stage_by o c.args.self.now)) (sym c.in-Some.is)

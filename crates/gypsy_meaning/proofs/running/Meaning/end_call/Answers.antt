use Rattle.std.proofs.Common.{ℕ, sym, subst}
use Rattle.gypsy_meaning.{specs.Views.Held.Moves, specs.Views.Running.paid, specs.declared.running.Meaning.Meaning, proofs.ReturningLaws.end_moves}
use Rattle.gypsy_meaning.proofs.running.Meaning.end_call.Goals as goal

pub returns-clause-done : goal.returns-clause-done
returns-clause-done g c =
    let m = c.args.self.now in
    let Q : Meaning → Type 0 = Moves m in
    let R : ℕ → Type 0 = λ cost. Moves m (paid cost c.resume.new.self) in
    subst Q (sym c.pay.ensures)
    (subst R (sym c.cost.ensures.count)
    (end_moves c.args.needs.now.procedures.items m c.resume.new.self c.pop.new.self c.in-Some.frame c.settle.new.self c.requires.turn c.in-Some.ensures.items
    c.in_default-settle.ensures.done c.resume.ensures))

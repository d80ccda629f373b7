use Rattle.std.proofs.Common.{◌≡◌, ℕ, List, map, sym, subst, ap, ◌∙◌}
use Rattle.gypsy_syntax.specs.Programs.{ConditionOf}
use Rattle.gypsy_space.{specs.Nodes.{seen_cond, seen_program}, specs.declared.program.CallSite.CallSite, specs.declared.program.Condition.Condition}
use Rattle.gypsy_semantics.{specs.Calls.matching, specs.Machine.raise}
use Rattle.gypsy_meaning.{specs.Views.Held.Moves, specs.Internal.Returning.out_price, specs.Views.Running.paid, specs.Views.Work.work_of}
use Rattle.gypsy_meaning.{specs.declared.running.Meaning.Meaning, proofs.ReturningLaws.leave_moves}
use Rattle.gypsy_meaning.proofs.running.Meaning.leave_call.Goals as goal

pub returns-in-Ok-clause-done : goal.returns-in-Ok-clause-done
returns-in-Ok-clause-done g c =
    let m = c.args.self.now in
    let q = seen_program m.program in
    let d = seen_cond c.args.cond in
    let f = c.in-Some.frame in
    let caught = c.in-Ok.caught in
    let same : seen_cond c.matching-cond.result ≡ matching q m.procedure (map seen_cond f.call.value.conds.items) d =
    c.matching-cond.ensures
    ∙ ap (λ (cs : List Condition). matching q m.procedure (map seen_cond cs) d)
    (c.as_slice.ensures.value ∙ ap (λ (s : CallSite). s.conds.items) c.deref.ensures) in
    let Q : Meaning → Type 0 = Moves m in
    let R : ℕ → Type 0 = λ cost. Moves m (paid cost c.resume.new.self) in
    let price = c.out_price.ensures ∙ ap (λ b. out_price b caught) c.is_passed_on-passed.ensures in
    subst Q (sym c.pay.ensures)
    (subst R (sym price)
    (leave_moves m c.resume.new.self c.pop.new.self f c.raise.new.self caught d c.requires.turn.0 c.requires.turn.1 c.in-Some.ensures.items
    (λ p x fs t. ap (λ (e : ConditionOf). raise e p x (work_of f.work) fs t) (sym same) ∙ c.in-Ok.ensures.done p x fs t) c.resume.ensures))

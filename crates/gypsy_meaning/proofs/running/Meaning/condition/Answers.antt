use Rattle.std.proofs.Common.{List, Some, slice_get, ap, sym, ◌∙◌}
use Rattle.gypsy_space.{specs.Nodes.seen_cond, specs.declared.program.Condition.Condition}
use Rattle.gypsy_meaning.{specs.Views.Named.{conditions_of, current_or}, specs.declared.names.Names.Names, proofs.ShownLaws.condition_shown}
use Rattle.gypsy_meaning.proofs.running.Meaning.condition.Goals as goal

pub returns-in-Some-Declared : goal.returns-in-Some-Declared
returns-in-Some-Declared c = λ s needs b.
    let m = c.args.self.now in
    let h = c.in-Some-Declared in
    let p = c.active.result in
    condition_shown s needs m c.declared.result.now m.unnamed.routine p h.number b (ap (λ u. u.routine) b.unnamed_are) c.active.ensures
    (ap (λ (k : Condition). Some (seen_cond k)) (sym h.field-0-is) ∙ h.ensures)
    (c.declared.ensures ∙ ap (λ (t : List Names). current_or m.unnamed.routine (slice_get (conditions_of t p) h.number)) c.as_slice.ensures.value)

use Rattle.std.{proofs.Common.{◌∙◌, ap, sym}, specs.List.flat_map}
use Rattle.stack_text.proofs.BreachLaws.{notes_next}
use Rattle.gypsy_check.proofs.NoteLaws.{noted, literal_breaks, list_each}
use Rattle.gypsy_check.proofs.literals.+literals.Goals as goal

pub check_items-loop-item-preserved : goal.check_items-loop-item-preserved
check_items-loop-item-preserved t c =
    notes_next (literal_breaks) c.args.items.now c.loop-item.item-index c.item-item.result c.args.best.now c.loop-item.best c.check_literal.new.best
    c.loop-item-test.true c.item-item.is c.loop-item.invariant c.check_literal.ensures

pub check_literal-returns-in-List : goal.check_literal-returns-in-List
check_literal-returns-in-List t c =
    c.check_items.ensures
    ∙ ap (λ ls. noted c.args.best.now (flat_map literal_breaks ls)) c.as_slice.ensures.value
    ∙ ap (noted c.args.best.now) (sym (list_each c.in-List.place c.in-List.items) ∙ ap literal_breaks (sym c.in-List.is))

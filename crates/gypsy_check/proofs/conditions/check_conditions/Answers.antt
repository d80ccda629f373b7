use Rattle.stack_text.proofs.BreachLaws.{notes_next}
use Rattle.gypsy_check.specs.Rules.{condition_breaches}
use Rattle.gypsy_check.proofs.conditions.check_conditions.Goals as goal

pub loop-cond-preserved : goal.loop-cond-preserved
loop-cond-preserved c =
    notes_next (condition_breaches) c.args.conds.now c.loop-cond.cond-index c.cond-item.result c.args.best.now c.loop-cond.best c.check_condition.new.best
    c.loop-cond-test.true c.cond-item.is c.loop-cond.invariant c.check_condition.ensures

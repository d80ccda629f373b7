use Rattle.stack_text.proofs.BreachLaws.{notes_next}
use Rattle.gypsy_syntax.specs.Views.SourceView.{proc_of}
use Rattle.gypsy_check.specs.Rules.{raised_breaches}
use Rattle.gypsy_check.proofs.conditions.check_all_raised.Goals as goal

pub loop-cond-preserved : goal.loop-cond-preserved
loop-cond-preserved c =
    notes_next (raised_breaches (proc_of c.args.scope.now) c.args.in_loop) c.args.conds.now c.loop-cond.cond-index c.cond-item.result c.args.best.now
    c.loop-cond.best c.check_raised.new.best
    c.loop-cond-test.true c.cond-item.is c.loop-cond.invariant c.check_raised.ensures

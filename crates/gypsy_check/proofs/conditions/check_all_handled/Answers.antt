use Rattle.stack_text.proofs.BreachLaws.{notes_next}
use Rattle.gypsy_syntax.specs.Views.SourceView.{proc_of}
use Rattle.gypsy_check.specs.Rules.{handled_breaches}
use Rattle.gypsy_check.proofs.conditions.check_all_handled.Goals as goal

pub loop-cond-preserved : goal.loop-cond-preserved
loop-cond-preserved c =
    notes_next (handled_breaches (proc_of c.args.scope.now)) c.args.conds.now c.loop-cond.cond-index c.cond-item.result c.args.best.now c.loop-cond.best
    c.check_handled.new.best
    c.loop-cond-test.true c.cond-item.is c.loop-cond.invariant c.check_handled.ensures

use Rattle.stack_text.proofs.BreachLaws.{notes_next}
use Rattle.gypsy_syntax.{specs.declared.literal.Local.Local, specs.Views.SourceView.local_of}
use Rattle.gypsy_check.specs.Rules.{local_breaches}
use Rattle.gypsy_check.proofs.values.check_locals.Goals as goal

pub loop-local-preserved : goal.loop-local-preserved
loop-local-preserved c =
    notes_next (λ (l : Local). local_breaches (local_of l)) c.args.locals.now c.loop-local.local-index c.local-item.result c.args.best.now
    c.loop-local.best c.check_local.new.best
    c.loop-local-test.true c.local-item.is c.loop-local.invariant c.check_local.ensures

use Rattle.stack_text.proofs.BreachLaws.{notes_next}
use Rattle.gypsy_syntax.specs.declared.literal.Local.{Local}
use Rattle.gypsy_check.specs.Rules.{type_breaches}
use Rattle.gypsy_check.proofs.declarations.check_local_types.Goals as goal

pub loop-local-preserved : goal.loop-local-preserved
loop-local-preserved c =
    notes_next (λ (l : Local). type_breaches l.decl.shape) c.args.locals.now c.loop-local.local-index c.local-item.result c.args.best.now
    c.loop-local.best c.check_type.new.best
    c.loop-local-test.true c.local-item.is c.loop-local.invariant c.check_type.ensures

use Rattle.stack_text.proofs.BreachLaws.{notes_next}
use Rattle.gypsy_syntax.specs.Views.SourceView.{proc_of}
use Rattle.gypsy_check.specs.Rules.{undeclared}
use Rattle.gypsy_check.proofs.variables.check_all_declared.Goals as goal

pub loop-name-preserved : goal.loop-name-preserved
loop-name-preserved c =
    notes_next (undeclared (proc_of c.args.scope.now)) c.args.names.now c.loop-name.name-index c.name-item.result c.args.best.now c.loop-name.best
    c.check_declared.new.best
    c.loop-name-test.true c.name-item.is c.loop-name.invariant c.check_declared.ensures

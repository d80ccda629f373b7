use Rattle.stack_text.proofs.BreachLaws.{notes_next}
use Rattle.gypsy_syntax.{specs.declared.statement.Arg.Arg, specs.Views.SourceView.{arg_of, proc_of}}
use Rattle.gypsy_check.specs.Rules.{argument_breaches}
use Rattle.gypsy_check.proofs.predefs.check_arguments.Goals as goal

pub loop-arg-preserved : goal.loop-arg-preserved
loop-arg-preserved c =
    notes_next (λ (a : Arg). argument_breaches (proc_of c.args.scope.now) (arg_of a)) c.args.args.now c.loop-arg.arg-index c.arg-item.result
    c.args.best.now c.loop-arg.best c.check_argument.new.best
    c.loop-arg-test.true c.arg-item.is c.loop-arg.invariant c.check_argument.ensures

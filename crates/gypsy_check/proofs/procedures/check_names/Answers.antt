use Rattle.stack_text.proofs.BreachLaws.{notes_next}
use Rattle.gypsy_syntax.{specs.declared.proc.Proc.Proc, specs.Views.SourceView.proc_of}
use Rattle.gypsy_check.specs.Rules.{name_breaches}
use Rattle.gypsy_check.proofs.procedures.check_names.Goals as goal

pub loop-proc-preserved : goal.loop-proc-preserved
loop-proc-preserved c =
    notes_next (λ (p : Proc). name_breaches (proc_of p)) c.args.procs.now c.loop-proc.proc-index c.proc-item.result c.args.best.now c.loop-proc.best
    c.check_name.new.best
    c.loop-proc-test.true c.proc-item.is c.loop-proc.invariant c.check_name.ensures

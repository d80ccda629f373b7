use Rattle.stack_text.proofs.BreachLaws.{notes_next}
use Rattle.gypsy_syntax.{specs.declared.proc.Proc.Proc, specs.Views.SourceView.{proc_of, source_of}}
use Rattle.gypsy_check.specs.Rules.{procedure_breaches}
use Rattle.gypsy_check.proofs.procedures.check_procedures.Goals as goal

pub loop-proc-preserved : goal.loop-proc-preserved
loop-proc-preserved g c =
    notes_next (λ (p : Proc). procedure_breaches (source_of c.args.callees.now.source.now) (proc_of p)) c.args.procs.now c.loop-proc.proc-index
    c.proc-item.result c.args.best.now c.loop-proc.best c.check_procedure.new.best
    c.loop-proc-test.true c.proc-item.is c.loop-proc.invariant c.in_ok-check_procedure.ensures

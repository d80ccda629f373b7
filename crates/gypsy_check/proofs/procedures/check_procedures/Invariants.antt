use Rattle.std.{proofs.Common.take, specs.List.flat_map}
use Rattle.stack_text.specs.Breaches.{Notes}
use Rattle.gypsy_syntax.{specs.declared.proc.Proc.Proc, specs.Views.SourceView.{proc_of, source_of}}
use Rattle.gypsy_check.specs.Rules.{procedure_breaches}
use Rattle.gypsy_check.proofs.procedures.check_procedures.Given as goal

-- those so far
abbrev pub invariant-loop-proc : goal.invariant-loop-proc
invariant-loop-proc g l =
    Notes l.fn.best (flat_map (λ (p : Proc). procedure_breaches (source_of l.callees.source.now) (proc_of p)) (take l.proc-index l.procs)) l.best

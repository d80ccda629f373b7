use Rattle.std.{proofs.Common.take, specs.List.flat_map}
use Rattle.stack_text.specs.Breaches.{Notes}
use Rattle.gypsy_syntax.{specs.declared.proc.Proc.Proc, specs.Views.SourceView.proc_of}
use Rattle.gypsy_check.specs.Rules.{name_breaches}
use Rattle.gypsy_check.proofs.procedures.check_names.Given as goal

-- those so far
abbrev pub invariant-loop-proc : goal.invariant-loop-proc
invariant-loop-proc l = Notes l.fn.best (flat_map (λ (p : Proc). name_breaches (proc_of p)) (take l.proc-index l.procs)) l.best

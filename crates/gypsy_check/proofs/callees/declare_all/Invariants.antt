use Rattle.std.proofs.Common.{[], map, take}
use Rattle.stack_text.specs.Breaches.{Notes}
use Rattle.gypsy_syntax.specs.declared.proc.Proc.{Proc}
use Rattle.gypsy_check.{specs.Declarations.repeats, specs.Tables.KnowsProcs}
use Rattle.gypsy_check.proofs.callees.declare_all.Given as goal

-- the procedures so far
abbrev pub invariant-loop-proc : goal.invariant-loop-proc
invariant-loop-proc g l = record {
  known : KnowsProcs l.table (take l.proc-index l.procs);
  noted : Notes l.fn.best (repeats 1 [] (map (λ (p : Proc). p.name) (take l.proc-index l.procs))) l.best;
}

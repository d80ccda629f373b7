use Rattle.std.{proofs.Common.{◌++◌, ◌∷◌, map}, specs.List.flat_map}
use Rattle.gypsy_syntax.{specs.Printed.proc_text, specs.Views.SourceView.proc_of, proofs.PrintingLaws.procs_next}
use Rattle.gypsy_syntax.proofs.printing.print_procedures.Goals as goal

pub loop-proc-preserved : goal.loop-proc-preserved
loop-proc-preserved g c =
    procs_next c.args.procs.now c.loop-proc.proc-index c.proc-item.result c.loop-proc.out.items c.push.new.items.items c.print_procedure.new.out.items
    (c.args.out.now.items ++ flat_map (λ p. 10 ∷ proc_text p) (map proc_of c.args.procs.now)) c.loop-proc-test.true c.proc-item.is
    c.in_ok-push.ensures.items c.in_ok-print_procedure.ensures c.loop-proc.invariant

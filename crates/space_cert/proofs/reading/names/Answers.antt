use Rattle.name_tables.proofs.ListLaws.{names_next}
use Rattle.gypsy_syntax.specs.declared.proc.Proc.{Proc}
use Rattle.space_cert.proofs.reading.names.Goals as goal

pub loop-proc-preserved : goal.loop-proc-preserved
loop-proc-preserved g c =
    names_next (λ (p : Proc). p.name.name) c.args.procs.now c.loop-proc.proc-index c.proc-item.result c.bytes.result.now c.loop-proc.names
    c.enter.new.self c.loop-proc-test.true c.proc-item.is c.bytes.ensures.bytes c.requires c.in_ok-enter.ensures.names c.loop-proc.invariant

use Rattle.std.proofs.Common.{arith}
use Rattle.gypsy_syntax.specs.Views.SourceView.{proc_of}
use Rattle.gypsy_gen.proofs.MakingLaws.{procedure_more, procedures_done}
use Rattle.gypsy_gen.proofs.making.procedures.Goals as goal

pub loop-index-preserved : goal.loop-index-preserved
loop-index-preserved g c =
    procedure_more proc_of c.loop-index.procs.items c.push-in-loop-index.new.items.items c.in_ok-procedure.field-0
    c.loop-index.index c.loop-index.state c.next_state-state.result c.args.size _ (omega arith)
    c.in_ok-push-2.ensures.items c.next_state-state.ensures c.in_ok-procedure.ensures c.loop-index.invariant

pub returns : goal.returns
returns g c = procedures_done proc_of c.loop-index.procs.items c.loop-index.index c.loop-index.state c.args.size _ (omega arith) c.loop-index.invariant

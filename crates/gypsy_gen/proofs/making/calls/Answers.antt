use Rattle.std.proofs.Common.{arith}
use Rattle.gypsy_syntax.specs.Views.SourceView.{stmt_of}
use Rattle.gypsy_gen.proofs.MakingLaws.{call_more, calls_done}
use Rattle.gypsy_gen.proofs.making.calls.Goals as goal

pub loop-index-preserved : goal.loop-index-preserved
loop-index-preserved g c =
    call_more stmt_of c.loop-index.parts.items c.push.new.items.items c.in_ok-call.field-0 c.loop-index.index c.args.size _ (omega arith)
    c.in_ok-push.ensures.items c.in_ok-call.ensures c.loop-index.invariant

pub returns : goal.returns
returns g c = calls_done stmt_of c.loop-index.parts.items c.loop-index.index c.args.size _ (omega arith) c.loop-index.invariant

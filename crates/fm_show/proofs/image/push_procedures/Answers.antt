use Rattle.stack_text.proofs.Loops.{pieces_next}
use Rattle.fm_show.specs.ImageListing.{procedure_lines}
use Rattle.fm_show.proofs.image.push_procedures.Goals as goal

pub loop-procedure-preserved : goal.loop-procedure-preserved
loop-procedure-preserved g c =
    pieces_next procedure_lines c.args.procedures.now c.loop-procedure.procedure-index c.procedure-item.result _ _ _ c.loop-procedure-test.true
    c.procedure-item.is c.in_ok-push_procedure.ensures c.loop-procedure.invariant

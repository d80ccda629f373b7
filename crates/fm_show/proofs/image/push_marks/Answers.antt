use Rattle.std.proofs.lemmas.List.{get_or_default}
use Rattle.stack_text.proofs.Loops.{pieces_next}
use Rattle.fm_show.specs.ImageListing.{mark_line}
use Rattle.fm_show.proofs.image.push_marks.Goals as goal

pub loop-mark-preserved : goal.loop-mark-preserved
loop-mark-preserved g c =
    pieces_next (mark_line c.args.procedures.now) c.args.marks.now c.loop-mark.mark-index _ _ _ _ c.loop-mark-test.true
    (get_or_default c.args.marks.now c.loop-mark.mark-index _ _ c.loop-mark-test.true) c.in_ok-push_mark.ensures c.loop-mark.invariant

use Rattle.fm_image.specs.Spelling.{name_bytes}
use Rattle.stack_text.proofs.Loops.{pieces_next}
use Rattle.fm_image.proofs.writing.push_conditions.Goals as goal

pub loop-name-preserved : goal.loop-name-preserved
loop-name-preserved g c =
    pieces_next name_bytes c.args.conditions.now c.loop-name.name-index c.name-item.result _ _ _ c.loop-name-test.true c.name-item.is
    c.in_ok-push_name.ensures c.loop-name.invariant

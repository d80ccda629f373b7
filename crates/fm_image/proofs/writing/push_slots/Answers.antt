use Rattle.fm_image.specs.Spelling.{slot_bytes}
use Rattle.stack_text.proofs.Loops.{pieces_next}
use Rattle.fm_image.proofs.writing.push_slots.Goals as goal

pub loop-slot-preserved : goal.loop-slot-preserved
loop-slot-preserved g c =
    pieces_next slot_bytes c.args.slots.now c.loop-slot.slot-index c.slot-item.result _ _ _ c.loop-slot-test.true c.slot-item.is
    c.in_ok-push_slot.ensures c.loop-slot.invariant

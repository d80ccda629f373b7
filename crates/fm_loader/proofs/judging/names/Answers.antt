use Rattle.fm_image.specs.declared.slot.Slot.{Slot}
use Rattle.name_tables.proofs.ListLaws.{names_next}
use Rattle.fm_loader.proofs.judging.names.Goals as goal

pub loop-slot-preserved : goal.loop-slot-preserved
loop-slot-preserved g c =
    names_next (λ (slot : Slot). slot.name) c.args.slots.now c.loop-slot.slot-index c.slot-item.result c.bytes.result.now c.loop-slot.names
    c.enter.new.self c.loop-slot-test.true c.slot-item.is c.bytes.ensures.bytes c.requires c.in_ok-enter.ensures.names c.loop-slot.invariant

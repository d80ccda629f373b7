use Rattle.fm_loader.proofs.StoreLaws.{room_at}
use Rattle.fm_loader.proofs.loading.set_values.Goals as goal

pub set_value-requires-clause-room : goal.set_value-requires-clause-room
set_value-requires-clause-room c =
    room_at c.args.base c.args.slots.now c.args.values.now c.loop-place.place c.index-slots-place.result c.in-Some.value.now c.requires.fits
    c.requires.room c.loop-place-test.true c.index-slots-place.is c.in-Some.ensures.lookup.3.0 c.in-Some.ensures.lookup.1

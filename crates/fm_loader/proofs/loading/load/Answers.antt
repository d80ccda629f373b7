use Rattle.std.proofs.Common.{refl}
use Rattle.fm_image.proofs.LimitLaws.{sixteen, words_below}
use Rattle.fm_loader.proofs.ImageLaws.{has_window, has_room}
use Rattle.fm_loader.proofs.loading.load.Goals as goal

pub unreachable-requires : goal.unreachable-requires
unreachable-requires g c =
    let refused = (rw (c.in-Err-Size.is, c.in-Err-Size.field-0-is) at c.new.ensures.size).0 refl in let window = has_window _ c.image.invariant in cc

pub set_registers-requires-clause-sixteen : goal.set_registers-requires-clause-sixteen
set_registers-requires-clause-sixteen g c = rw c.as_slice.ensures.value (sixteen _ c.image.invariant)

pub set_words-requires-clause-few : goal.set_words-requires-clause-few
set_words-requires-clause-few g c = rw c.as_slice-2.ensures.value (words_below _ c.image.invariant)

pub set_values-requires-clause-room : goal.set_values-requires-clause-room
set_values-requires-clause-room g c = rw c.as_slice-3.ensures.value (has_room _ c.image.invariant)

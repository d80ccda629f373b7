use Rattle.std.proofs.Common.{arith}
use Rattle.fm_image.proofs.LimitLaws.{sized}
use Rattle.display_maps.proofs.reading_at.MachineAtStanding.below.Goals as goal

pub overflow_add-image-inside : goal.overflow_add-image-inside
overflow_add-image-inside c = omega (arith, (sized _ c.image.invariant).below, c.if-place-from.true)

use Rattle.std.proofs.Common.{ap, length, List, ℕ}
use Rattle.fm_asm.proofs.assembling.image.Goals as goal

pub bare_image-requires-clause-sixteen : goal.bare_image-requires-clause-sixteen
bare_image-requires-clause-sixteen g c = ap (λ (rs : List ℕ). length rs) c.in_ok-registers.ensures.items

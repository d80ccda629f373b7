use Rattle.fm_loader.proofs.ImageLaws.{own_names}
use Rattle.fm_loader.proofs.values.read_image_values.Goals as goal

pub read_values-requires-clause-names : goal.read_values-requires-clause-names
read_values-requires-clause-names g c = rw c.deref.ensures.value (own_names _ c.image.invariant)

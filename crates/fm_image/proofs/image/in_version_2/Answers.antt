use Rattle.fm_image.proofs.LimitLaws.{version_2_fits}
use Rattle.fm_image.proofs.image.in_version_2.Goals as goal

pub invariant_of-result : goal.invariant_of-result
invariant_of-result c = version_2_fits _ c.image.invariant

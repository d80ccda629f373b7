use Rattle.quick_moments.proofs.MomentLaws.{quick_moments_show}
use Rattle.quick_moments.proofs.laws.quick_moments_show.Goals as goal

pub returns : goal.returns
returns c = quick_moments_show

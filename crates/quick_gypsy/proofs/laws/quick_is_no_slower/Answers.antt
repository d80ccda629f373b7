use Rattle.quick_gypsy.proofs.LinedLaws.{quick_is_no_slower}
use Rattle.quick_gypsy.proofs.laws.quick_is_no_slower.Goals as goal

pub returns : goal.returns
returns c = quick_is_no_slower

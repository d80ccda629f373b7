use Rattle.quick_moments.proofs.StepLaws.{quick_steps_show}
use Rattle.quick_moments.proofs.laws.quick_steps_show.Goals as goal

pub returns : goal.returns
returns c = quick_steps_show

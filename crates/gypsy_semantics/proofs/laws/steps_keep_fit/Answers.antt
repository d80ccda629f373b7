use Rattle.gypsy_semantics.proofs.Keeping.{step_keeps}
use Rattle.gypsy_semantics.proofs.laws.steps_keep_fit.Goals as goal

pub returns : goal.returns
returns c = λ q sizes g fits h. step_keeps q sizes fits g h

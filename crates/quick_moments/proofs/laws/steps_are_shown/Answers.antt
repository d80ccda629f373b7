use Rattle.quick_moments.proofs.StepExampleLaws.{steps_are_shown}
use Rattle.quick_moments.proofs.laws.steps_are_shown.Goals as goal

pub returns : goal.returns
returns c = steps_are_shown

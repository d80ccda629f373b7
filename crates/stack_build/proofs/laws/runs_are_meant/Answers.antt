use Rattle.stack_build.proofs.MeantLaws.{means_only}
use Rattle.stack_build.proofs.laws.runs_are_meant.Goals as goal

pub returns : goal.returns
returns c = means_only

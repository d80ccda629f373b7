use Rattle.fm_circuit.proofs.FollowLaws.{steps}
use Rattle.fm_circuit.proofs.laws.steps.Goals as goal

pub returns : goal.returns
returns c = steps

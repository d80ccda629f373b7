use Rattle.fm_circuit.proofs.FollowLaws.{faults}
use Rattle.fm_circuit.proofs.laws.faults.Goals as goal

pub returns : goal.returns
returns c = faults

use Rattle.fm_circuit.proofs.RunningLaws.{ends}
use Rattle.fm_circuit.proofs.laws.ends.Goals as goal

pub returns : goal.returns
returns c = ends

use Rattle.fm_circuit.proofs.RunningLaws.{runs}
use Rattle.fm_circuit.proofs.laws.runs.Goals as goal

pub returns : goal.returns
returns c = runs

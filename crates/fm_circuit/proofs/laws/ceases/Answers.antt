use Rattle.fm_circuit.proofs.RunningLaws as running
use Rattle.fm_circuit.proofs.laws.ceases.Goals as goal

pub returns : goal.returns
returns c = running.ceases

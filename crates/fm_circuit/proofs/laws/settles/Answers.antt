use Rattle.fm_circuit.proofs.SettledLaws as settled
use Rattle.fm_circuit.proofs.laws.settles.Goals as goal

pub returns : goal.returns
returns c = settled.settles

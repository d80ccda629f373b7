use Rattle.fm_circuit.proofs.SizeLaws as size
use Rattle.fm_circuit.proofs.laws.fitting.Goals as goal

pub returns : goal.returns
returns c = size.fitting

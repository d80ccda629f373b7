use Rattle.fm_circuit.proofs.SizeLaws as size
use Rattle.fm_circuit.proofs.laws.sized.Goals as goal

pub returns : goal.returns
returns c = size.sized

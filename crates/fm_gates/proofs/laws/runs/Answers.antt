use Rattle.fm_gates.proofs.NetLaws as net
use Rattle.fm_gates.proofs.laws.runs.Goals as goal

pub returns : goal.returns
returns c = net.runs

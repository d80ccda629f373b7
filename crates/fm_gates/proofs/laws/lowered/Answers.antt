use Rattle.fm_gates.proofs.NetLaws as net
use Rattle.fm_gates.proofs.laws.lowered.Goals as goal

pub returns : goal.returns
returns c = net.lowered

use Rattle.fm_gates.proofs.NetLaws as net
use Rattle.fm_gates.proofs.laws.goes_on.Goals as goal

pub returns : goal.returns
returns c = net.goes_on

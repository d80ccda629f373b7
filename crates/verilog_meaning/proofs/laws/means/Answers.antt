use Rattle.verilog_meaning.proofs.CycleLaws as cycle
use Rattle.verilog_meaning.proofs.laws.means.Goals as goal

pub returns : goal.returns
returns c = cycle.means

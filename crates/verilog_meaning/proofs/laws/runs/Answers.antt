use Rattle.verilog_meaning.proofs.RunLaws as running
use Rattle.verilog_meaning.proofs.laws.runs.Goals as goal

pub returns : goal.returns
returns c = running.runs

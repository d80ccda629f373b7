use Rattle.verilog_meaning.proofs.SnapshotLaws as snapshot
use Rattle.verilog_meaning.proofs.laws.goes_on.Goals as goal

pub returns : goal.returns
returns c = snapshot.goes_on

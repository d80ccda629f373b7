use Rattle.verilog_meaning.proofs.ItemLaws as item
use Rattle.verilog_meaning.proofs.laws.names.Goals as goal

pub returns : goal.returns
returns c = item.names

use Rattle.verilog_meaning.proofs.TextLaws as text
use Rattle.verilog_meaning.proofs.laws.written.Goals as goal

pub returns : goal.returns
returns c = text.written_is

use Rattle.verilog_meaning.proofs.TextLaws as text
use Rattle.source_to_verilog.proofs.PowerLaws as power
use Rattle.source_to_verilog.proofs.laws.runs_in_verilog.Goals as goal

pub returns-clause-text : goal.returns-clause-text
returns-clause-text c = text.written_is

pub returns-clause-image : goal.returns-clause-image
returns-clause-image c = power.image_runs_in_verilog

pub returns-clause-built : goal.returns-clause-built
returns-clause-built c = power.text_runs_in_verilog c.builds_implement.ensures.implements

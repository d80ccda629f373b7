use Rattle.command_line.proofs.TaskLaws.{texts_read, sources_read, values_read}
use Rattle.command_line.proofs.laws.texts_are_read.Goals as goal

pub returns-clause-each : goal.returns-clause-each
returns-clause-each c = texts_read

pub returns-clause-sources : goal.returns-clause-sources
returns-clause-sources c = sources_read

pub returns-clause-values : goal.returns-clause-values
returns-clause-values c = values_read

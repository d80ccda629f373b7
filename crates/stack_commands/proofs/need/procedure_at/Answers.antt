use Rattle.std.proofs.Common.{sym}
use Rattle.stack_commands.proofs.NeedLaws.{name_at}
use Rattle.stack_commands.proofs.need.procedure_at.Goals as goal

pub returns : goal.returns
returns c = sym (name_at c.args.procs.now c.args.procedure c.index-procs-place.result c.requires c.index-procs-place.is)

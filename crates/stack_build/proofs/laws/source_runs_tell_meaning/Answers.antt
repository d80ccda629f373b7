use Rattle.stack_build.proofs.SourceRunLaws.{source_runs_tell}
use Rattle.stack_build.proofs.laws.source_runs_tell_meaning.Goals as goal

pub returns : goal.returns
returns c = source_runs_tell c.builds_implement.ensures.implements c.builds_implement.ensures.values c.runs_are_meant.ensures

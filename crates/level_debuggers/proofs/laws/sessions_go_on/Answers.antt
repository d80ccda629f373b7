use Rattle.level_debuggers.proofs.WalkLaws.{goes_on}
use Rattle.level_debuggers.proofs.laws.sessions_go_on.Goals as goal

pub returns : goal.returns
returns c = goes_on

use Rattle.quick_gypsy.proofs.QuickLaws.{statements_run}
use Rattle.quick_gypsy.proofs.laws.statements_run.Goals as goal

pub returns : goal.returns
returns c = statements_run

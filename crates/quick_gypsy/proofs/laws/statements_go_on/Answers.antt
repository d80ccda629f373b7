use Rattle.quick_gypsy.proofs.QuickLaws.{statements_go_on}
use Rattle.quick_gypsy.proofs.laws.statements_go_on.Goals as goal

pub returns : goal.returns
returns c = statements_go_on

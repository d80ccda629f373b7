use Rattle.gypsy_logic.proofs.CountedTableLaws.{takes_counts}
use Rattle.gypsy_logic.proofs.laws.statements_take_counts.Goals as goal

pub returns : goal.returns
returns c = takes_counts

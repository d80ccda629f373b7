use Rattle.gypsy_semantics.proofs.LendingLaws.{step_lent}
use Rattle.gypsy_semantics.proofs.laws.lending_changes_no_step.Goals as goal

pub returns : goal.returns
returns c = step_lent

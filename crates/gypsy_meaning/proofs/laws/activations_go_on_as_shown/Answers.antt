use Rattle.gypsy_meaning.proofs.StackLaws.{counts, ends_as_shown, leaves_as_shown}
use Rattle.gypsy_meaning.proofs.laws.activations_go_on_as_shown.Goals as goal

pub returns-clause-count : goal.returns-clause-count
returns-clause-count c = counts

pub returns-clause-ends : goal.returns-clause-ends
returns-clause-ends c = ends_as_shown

pub returns-clause-leaves : goal.returns-clause-leaves
returns-clause-leaves c = leaves_as_shown

use Rattle.gypsy_semantics.proofs.CountLaws.{meaning-uncounted}
use Rattle.gypsy_semantics.proofs.laws.counting_changes_nothing.Goals as goal

pub returns : goal.returns
returns c = meaning-uncounted

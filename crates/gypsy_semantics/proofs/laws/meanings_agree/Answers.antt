use Rattle.gypsy_semantics.proofs.Runs.{agree}
use Rattle.gypsy_semantics.proofs.laws.meanings_agree.Goals as goal

pub returns : goal.returns
returns c = agree

use Rattle.gypsy_semantics.proofs.MomentLaws.{shows}
use Rattle.gypsy_semantics.proofs.laws.runs_show_moments.Goals as goal

pub returns : goal.returns
returns c = shows

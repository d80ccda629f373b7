use Rattle.mini_gypsy.proofs.StoredLaws.{stands}
use Rattle.mini_gypsy.proofs.laws.stored_means_the_same.Goals as goal

pub returns : goal.returns
returns c = stands

use Rattle.gypsy_semantics.proofs.Keeping.{start_fits}
use Rattle.gypsy_semantics.proofs.laws.start_fits.Goals as goal

pub returns : goal.returns
returns c = λ q v fits h. start_fits q record { temp = 0; ctrl = 0 } fits v h

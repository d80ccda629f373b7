use Rattle.piton_check.proofs.PlacesLaws as laws
use Rattle.piton_check.proofs.laws.places_change_nothing.Goals as goal

pub returns : goal.returns
returns c = laws.places_change_nothing

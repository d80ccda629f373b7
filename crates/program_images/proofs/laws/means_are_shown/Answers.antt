use Rattle.program_images.proofs.ImageRules.{means_shown}
use Rattle.program_images.proofs.laws.means_are_shown.Goals as goal

pub returns : goal.returns
returns c = means_shown

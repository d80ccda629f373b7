use Rattle.program_images.proofs.ImageRules.{means_shown_after}
use Rattle.program_images.proofs.laws.counts_are_shown.Goals as goal

pub returns : goal.returns
returns c = means_shown_after

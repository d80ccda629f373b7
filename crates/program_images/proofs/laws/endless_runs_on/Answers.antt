use Rattle.program_images.proofs.ImageRules.{never_ends_unfinished}
use Rattle.program_images.proofs.laws.endless_runs_on.Goals as goal

pub returns : goal.returns
returns c = never_ends_unfinished

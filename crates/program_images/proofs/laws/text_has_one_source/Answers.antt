use Rattle.program_images.proofs.ImageRules.{one_source}
use Rattle.program_images.proofs.laws.text_has_one_source.Goals as goal

pub returns : goal.returns
returns c = one_source

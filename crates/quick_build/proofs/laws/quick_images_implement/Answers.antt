use Rattle.quick_build.proofs.MainLaws.{images_implement}
use Rattle.quick_build.proofs.laws.quick_images_implement.Goals as goal

pub returns : goal.returns
returns c = images_implement

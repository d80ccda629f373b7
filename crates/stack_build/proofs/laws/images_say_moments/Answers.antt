use Rattle.stack_build.proofs.ReadMomentsLaws.{images_say_moments}
use Rattle.stack_build.proofs.laws.images_say_moments.Goals as goal

pub returns : goal.returns
returns c = images_say_moments

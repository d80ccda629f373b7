use Rattle.quick_build.proofs.MainLaws.{images_end_as_meant, images_go_on}
use Rattle.quick_build.proofs.laws.quick_images_end_as_meant.Goals as goal

pub returns-clause-ends : goal.returns-clause-ends
returns-clause-ends c = images_end_as_meant

pub returns-clause-goes_on : goal.returns-clause-goes_on
returns-clause-goes_on c = images_go_on

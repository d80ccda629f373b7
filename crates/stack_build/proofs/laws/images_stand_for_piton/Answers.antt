use Rattle.piton_linker.proofs.ProcessorLaws.{piton_runs}
use Rattle.stack_build.proofs.StandingLaws.{images_stand}
use Rattle.stack_build.proofs.laws.images_stand_for_piton.Goals as goal

pub returns : goal.returns
returns c = images_stand c.generated_is_acceptable.ensures piton_runs

use Rattle.piton_linker.proofs.ProcessorLaws.{piton_runs}
use Rattle.stack_build.proofs.Implementing.{images_implement}
use Rattle.stack_build.proofs.laws.images_implement.Goals as goal

pub returns : goal.returns
returns c = images_implement c.meaning_runs.ensures.meaning c.generated_is_acceptable.ensures piton_runs

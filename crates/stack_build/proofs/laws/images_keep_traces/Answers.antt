use Rattle.piton_linker.proofs.ProcessorLaws.{piton_runs}
use Rattle.stack_build.proofs.TraceLaws as traces
use Rattle.stack_build.proofs.laws.images_keep_traces.Goals as goal

pub returns : goal.returns
returns c = traces.images_keep_traces c.moments_have_frames.ensures c.generated_is_acceptable.ensures piton_runs

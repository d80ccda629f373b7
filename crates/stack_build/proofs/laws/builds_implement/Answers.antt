use Rattle.piton_linker.proofs.ProcessorLaws.{piton_runs}
use Rattle.stack_build.proofs.BuildsLaws.{built_implements, built_takes_values}
use Rattle.stack_build.proofs.laws.builds_implement.Goals as goal

pub returns-clause-implements : goal.returns-clause-implements
returns-clause-implements c = built_implements c.meaning_runs.ensures.meaning c.moments_are_reached.ensures c.generated_is_acceptable.ensures piton_runs

pub returns-clause-values : goal.returns-clause-values
returns-clause-values c = built_takes_values c.meaning_runs.ensures.meaning c.moments_are_reached.ensures c.generated_is_acceptable.ensures piton_runs

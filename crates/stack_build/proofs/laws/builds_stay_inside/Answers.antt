use Rattle.stack_build.proofs.InsideLaws.{built_at_base, built_runs_inside}
use Rattle.stack_build.proofs.laws.builds_stay_inside.Goals as goal

pub returns-clause-base : goal.returns-clause-base
returns-clause-base c = built_at_base

pub returns-clause-inside : goal.returns-clause-inside
returns-clause-inside c = built_runs_inside c.builds_implement.ensures.implements

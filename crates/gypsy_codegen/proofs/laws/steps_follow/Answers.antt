use Rattle.gypsy_codegen.proofs.RowLaws.{steps_follow}
use Rattle.gypsy_codegen.proofs.laws.steps_follow.Goals as goal

pub returns : goal.returns
returns c = steps_follow record { calls = c.predefs_run.ensures.calls; arguments = c.predefs_run.ensures.arguments; values = c.predefs_run.ensures.values }

use Rattle.gypsy_codegen.proofs.MomentLaws.{each_step_costs, counts_grow}
use Rattle.gypsy_codegen.proofs.laws.steps_cost.Goals as goal

pub returns-clause-each : goal.returns-clause-each
returns-clause-each c = each_step_costs

pub returns-clause-grows : goal.returns-clause-grows
returns-clause-grows c = counts_grow

use Rattle.gypsy_codegen.proofs.laws.shown_states_read.Goals as goal
use Rattle.gypsy_codegen.proofs.RunLaws.{place_is_mark, variables_stand, waiting_variables_stand, actuals_share}

pub returns-clause-place : goal.returns-clause-place
returns-clause-place c = place_is_mark

pub returns-clause-variables : goal.returns-clause-variables
returns-clause-variables c = variables_stand

pub returns-clause-waiting : goal.returns-clause-waiting
returns-clause-waiting c = waiting_variables_stand

pub returns-clause-shared : goal.returns-clause-shared
returns-clause-shared c = actuals_share

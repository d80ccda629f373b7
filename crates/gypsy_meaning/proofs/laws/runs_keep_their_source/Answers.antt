use Rattle.gypsy_semantics.proofs.SeenLaws.{left_same, run_same}
use Rattle.gypsy_meaning.proofs.StepLaws.{is_run}
use Rattle.gypsy_meaning.proofs.laws.runs_keep_their_source.Goals as goal

pub returns-clause-step : goal.returns-clause-step
returns-clause-step c = left_same

pub returns-clause-run : goal.returns-clause-run
returns-clause-run c = run_same

pub returns-clause-belongs : goal.returns-clause-belongs
returns-clause-belongs c = is_run

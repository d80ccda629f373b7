use Rattle.cli_stack.proofs.MigrateLaws.{migrated_runs}
use Rattle.cli_stack.proofs.laws.migrated_runs_the_same.Goals as goal

pub returns : goal.returns
returns c = migrated_runs

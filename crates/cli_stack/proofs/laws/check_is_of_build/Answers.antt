use Rattle.cli_stack.proofs.AgainLaws.{checked_before}
use Rattle.cli_stack.proofs.laws.check_is_of_build.Goals as goal

pub returns : goal.returns
returns c = checked_before

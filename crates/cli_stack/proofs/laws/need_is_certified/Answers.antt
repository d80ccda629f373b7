use Rattle.cli_stack.proofs.AgainLaws.{certified_after}
use Rattle.cli_stack.proofs.laws.need_is_certified.Goals as goal

pub returns : goal.returns
returns c = certified_after

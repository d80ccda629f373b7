use Rattle.cli_stack.proofs.FirstLaws.{first_goes}
use Rattle.cli_stack.proofs.laws.first_goes.Goals as goal

pub returns : goal.returns
returns c = first_goes c.builds_implement.ensures.implements c.builds_implement.ensures.values

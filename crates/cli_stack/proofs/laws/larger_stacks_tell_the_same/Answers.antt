use Rattle.cli_stack.proofs.OneResultLaws.{one_result}
use Rattle.cli_stack.proofs.laws.larger_stacks_tell_the_same.Goals as goal

pub returns : goal.returns
returns c = let built = c.builds_implement.ensures in one_result built.implements built.values

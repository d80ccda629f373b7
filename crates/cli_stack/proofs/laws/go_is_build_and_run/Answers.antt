use Rattle.cli_stack.proofs.InTwoLaws.{in_two}
use Rattle.cli_stack.proofs.laws.go_is_build_and_run.Goals as goal

pub returns : goal.returns
returns c = in_two c.builds_implement.ensures.implements

use Rattle.cli_stack.proofs.DebugInTwoLaws.{debug_in_two}
use Rattle.cli_stack.proofs.laws.debug_is_build_and_idebug.Goals as goal

pub returns : goal.returns
returns c = debug_in_two c.builds_implement.ensures.implements

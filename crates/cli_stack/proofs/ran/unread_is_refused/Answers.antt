use Rattle.cli_stack.proofs.RanLaws as logs
use Rattle.cli_stack.proofs.ran.unread_is_refused.Goals as goal

pub returns : goal.returns
returns c = logs.unread_is_refused

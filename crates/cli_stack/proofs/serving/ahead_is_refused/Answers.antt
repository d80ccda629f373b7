use Rattle.cli_stack.proofs.TalkRanLaws as logs
use Rattle.cli_stack.proofs.serving.ahead_is_refused.Goals as goal

pub returns : goal.returns
returns c = logs.ahead_is_refused

use Rattle.debug_script.proofs.WordLaws.{depth_found}
use Rattle.debug_script.proofs.command.depth_behind.Goals as goal

pub returns : goal.returns
returns c = depth_found c.args.word.now c.strip_prefix.result c.strip_prefix.ensures.cases

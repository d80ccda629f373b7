use Rattle.command_replies.proofs.PitonTextLaws.{is_checked}
use Rattle.command_replies.proofs.piton_text.check_system.Goals as goal

pub returns-in-Ok-clause-found : goal.returns-in-Ok-clause-found
returns-in-Ok-clause-found g c = is_checked c.args.system c.in-Ok.checked c.in-Ok.ensures.checked c.in-Ok.ensures.kept

use Rattle.stack_commands.proofs.LinkedLaws.{small_opened}
use Rattle.stack_commands.proofs.pdebug.system_runner.Goals as goal

pub returns-in-Ok-clause-run : goal.returns-in-Ok-clause-run
returns-in-Ok-clause-run g c =
    small_opened c.args.checked c.in-Ok.image c.in_ok-state-in-Ok.state c.in-Ok.ensures.small c.in-Ok.ensures.image
    c.in_ok-state-in-Ok.ensures.opening

use Rattle.fm_image.proofs.LimitLaws.{sized}
use Rattle.stack_commands.proofs.turns.tasks.size_of.Goals as goal

pub returns-clause-few : goal.returns-clause-few
returns-clause-few c = (sized _ c.image.invariant).few

use Rattle.command_replies.proofs.PitonTextLaws.{few_areas}
use Rattle.command_replies.proofs.prun.run_system.Goals as goal

pub plan_of-requires : goal.plan_of-requires
plan_of-requires g c = rw c.system.ensures.value (few_areas c.args.checked.now c.system.ensures.checked)

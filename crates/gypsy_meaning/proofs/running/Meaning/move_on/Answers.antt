use Rattle.gypsy_meaning.proofs.ReadyLaws.{work_suits}
use Rattle.gypsy_meaning.proofs.running.Meaning.move_on.Goals as goal

pub step_within-requires-clause-suits : goal.step_within-requires-clause-suits
step_within-requires-clause-suits g c = work_suits c.args.needs.now.procedures.items c.args.self.now c.requires

use Rattle.level_debuggers.proofs.RunWalkLaws.{machines_arrive, machines_walk, systems_walk}
use Rattle.level_debuggers.proofs.laws.runs_walk.Goals as goal

pub returns-clause-machines : goal.returns-clause-machines
returns-clause-machines c = machines_walk

pub returns-clause-systems : goal.returns-clause-systems
returns-clause-systems c = systems_walk

pub returns-clause-arrivals : goal.returns-clause-arrivals
returns-clause-arrivals c = machines_arrive

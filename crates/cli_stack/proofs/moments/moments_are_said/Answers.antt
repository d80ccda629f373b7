use Rattle.cli_stack.{proofs.EndLaws.built_ends, proofs.SessionLaws.{built_says, machine_says, system_says}}
use Rattle.cli_stack.proofs.moments.moments_are_said.Goals as goal

pub returns-clause-machine : goal.returns-clause-machine
returns-clause-machine c = machine_says c.moments_are_read.ensures.memory c.runs_walk.ensures.machines

pub returns-clause-system : goal.returns-clause-system
returns-clause-system c = system_says c.moments_are_reached.ensures c.moments_are_read.ensures.shown c.runs_walk.ensures.systems

pub returns-clause-built : goal.returns-clause-built
returns-clause-built c =
    built_says c.generated_is_acceptable.ensures
    (machine_says c.moments_are_read.ensures.memory c.runs_walk.ensures.machines)
    (system_says c.moments_are_reached.ensures c.moments_are_read.ensures.shown c.runs_walk.ensures.systems)

pub returns-clause-ends : goal.returns-clause-ends
returns-clause-ends c = built_ends c.generated_is_acceptable.ensures c.moments_are_reached.ensures c.runs_walk.ensures.systems

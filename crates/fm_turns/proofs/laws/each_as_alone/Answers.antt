use Rattle.fm_machine.proofs.RunLaws.{outcome_is}
use Rattle.fm_turns.{specs.Starting.machine_of, proofs.WindowLaws.step_wider, proofs.OutcomeLaws.outcome_wider, proofs.TurningLaws.over_is_over}
use Rattle.fm_turns.{proofs.AloneLaws.{alone_is_counted, alone_is_least, alone_is_whole}, proofs.RoundsLaws.rounds_as_alone, proofs.OwnLaws.each_as_alone}
use Rattle.fm_turns.proofs.laws.each_as_alone.Goals as goal

pub returns-clause-steps : goal.returns-clause-steps
returns-clause-steps c = step_wider

pub returns-clause-runs : goal.returns-clause-runs
returns-clause-runs c = outcome_wider

pub returns-clause-is_run : goal.returns-clause-is_run
returns-clause-is_run c budget lengths task = outcome_is (machine_of task) task.image.final_pc _

pub returns-clause-counts : goal.returns-clause-counts
returns-clause-counts c = alone_is_counted

pub returns-clause-least : goal.returns-clause-least
returns-clause-least c = alone_is_least

pub returns-clause-whole : goal.returns-clause-whole
returns-clause-whole c = alone_is_whole

pub returns-clause-rounds : goal.returns-clause-rounds
returns-clause-rounds c = rounds_as_alone

pub returns-clause-alone : goal.returns-clause-alone
returns-clause-alone c = each_as_alone

pub returns-clause-over : goal.returns-clause-over
returns-clause-over c = over_is_over

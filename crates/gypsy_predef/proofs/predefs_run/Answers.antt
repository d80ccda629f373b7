use Rattle.gypsy_predef.{proofs.RowLaws.{runs, counts, written_words}, proofs.CallLaws.{calls, stand}, proofs.ArgumentLaws.{arguments_hold, values_kept}}
use Rattle.std.proofs.Common.{refl}
use Rattle.gypsy_syntax.specs.Predefined.{predef_effect}
use Rattle.gypsy_predef.proofs.predefs_run.Goals as goal

pub returns-clause-runs : goal.returns-clause-runs
returns-clause-runs c = runs

pub returns-clause-counts : goal.returns-clause-counts
returns-clause-counts c = counts

pub returns-clause-calls : goal.returns-clause-calls
returns-clause-calls c = calls

pub returns-clause-stand : goal.returns-clause-stand
returns-clause-stand c = stand

pub returns-clause-arguments : goal.returns-clause-arguments
returns-clause-arguments c = arguments_hold

pub returns-clause-written : goal.returns-clause-written
returns-clause-written c = written_words

pub returns-clause-values : goal.returns-clause-values
returns-clause-values c = values_kept

pub returns-clause-rows : goal.returns-clause-rows
unfolding predef_effect
returns-clause-rows c = record { below = refl; least = refl; greatest_turned = refl; least_turned = refl }

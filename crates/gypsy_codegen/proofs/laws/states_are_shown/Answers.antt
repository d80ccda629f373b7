use Rattle.gypsy_codegen.proofs.RunLaws.{start_shows, each_is_shown}
use Rattle.gypsy_codegen.proofs.laws.states_are_shown.Goals as goal

pub returns-clause-start : goal.returns-clause-start
returns-clause-start c = start_shows

pub returns-clause-each : goal.returns-clause-each
returns-clause-each c =
    each_is_shown record { calls = c.predefs_run.ensures.calls; arguments = c.predefs_run.ensures.arguments; values = c.predefs_run.ensures.values }

use Rattle.gypsy_codegen.proofs.RunLaws.{counted_runs, meaning_runs, limited_run_halts}
use Rattle.gypsy_codegen.proofs.laws.meaning_runs.Goals as goal

pub returns-clause-meaning : goal.returns-clause-meaning
returns-clause-meaning c =
    meaning_runs record { calls = c.predefs_run.ensures.calls; arguments = c.predefs_run.ensures.arguments; values = c.predefs_run.ensures.values }

pub returns-clause-counted : goal.returns-clause-counted
returns-clause-counted c =
    counted_runs record { calls = c.predefs_run.ensures.calls; arguments = c.predefs_run.ensures.arguments; values = c.predefs_run.ensures.values }

pub returns-clause-limited : goal.returns-clause-limited
returns-clause-limited c =
    limited_run_halts record { calls = c.predefs_run.ensures.calls; arguments = c.predefs_run.ensures.arguments; values = c.predefs_run.ensures.values }

use Rattle.gypsy_codegen.proofs.SystemLaws.{source_runs}
use Rattle.gypsy_codegen.proofs.laws.source_runs.Goals as goal

pub returns : goal.returns
returns c =
    source_runs
    record { calls = c.predefs_run.ensures.calls; arguments = c.predefs_run.ensures.arguments; values = c.predefs_run.ensures.values }
    record { fits = c.bodies_resolve.ensures.fit; rules = c.bodies_resolve.ensures.rules; views = c.bodies_resolve.ensures.one }

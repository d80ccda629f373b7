use Rattle.gypsy_codegen.proofs.MomentLaws.{each_moment_is_reached}
use Rattle.gypsy_codegen.proofs.laws.moments_are_reached.Goals as goal

pub returns : goal.returns
returns c =
    each_moment_is_reached
    record { calls = c.predefs_run.ensures.calls; arguments = c.predefs_run.ensures.arguments; values = c.predefs_run.ensures.values }

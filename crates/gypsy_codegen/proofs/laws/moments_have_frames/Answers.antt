use Rattle.gypsy_codegen.proofs.TraceLaws.{each_moment_has_frames}
use Rattle.gypsy_codegen.proofs.laws.moments_have_frames.Goals as goal

pub returns : goal.returns
returns c =
    each_moment_has_frames
    record { calls = c.predefs_run.ensures.calls; arguments = c.predefs_run.ensures.arguments; values = c.predefs_run.ensures.values }

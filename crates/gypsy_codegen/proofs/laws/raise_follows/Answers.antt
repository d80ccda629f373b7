use Rattle.gypsy_codegen.proofs.RunLaws.{raise_follows}
use Rattle.gypsy_codegen.proofs.laws.raise_follows.Goals as goal

pub returns : goal.returns
returns c = raise_follows record { calls = c.predefs_run.ensures.calls; arguments = c.predefs_run.ensures.arguments; values = c.predefs_run.ensures.values }

use Rattle.gypsy_syntax.proofs.ViewLaws.{seq_is_new}
use Rattle.gypsy_gen.proofs.body.sequence.Goals as goal

pub returns : goal.returns
returns c = seq_is_new 0 c.args.parts

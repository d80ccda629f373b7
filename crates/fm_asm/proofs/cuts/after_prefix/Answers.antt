use Rattle.fm_asm.proofs.CutLaws.{after_prefix_by}
use Rattle.fm_asm.proofs.cuts.after_prefix.Goals as goal

pub returns : goal.returns
returns c = after_prefix_by c.args.prefix.now c.args.bytes.now c.strip_prefix.result c.strip_prefix.ensures.cases

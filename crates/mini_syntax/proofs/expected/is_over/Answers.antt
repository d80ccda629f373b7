use Rattle.std.proofs.Common.{◌∙◌}
use Rattle.mini_syntax.proofs.MachineLaws.{over_all}
use Rattle.mini_syntax.proofs.expected.is_over.Goals as goal

pub returns : goal.returns
returns c = c.may_all_be_empty.ensures ∙ over_all c.args.stack.now

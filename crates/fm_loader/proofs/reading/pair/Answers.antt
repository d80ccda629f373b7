use Rattle.fm_loader.proofs.TreeLaws.{no_pair, is_pair}
use Rattle.fm_loader.proofs.reading.pair.Goals as goal

pub returns-then-trees-ne2 : goal.returns-then-trees-ne2
returns-then-trees-ne2 c = no_pair c.args.trees.now c.if-trees-ne2.true

pub returns : goal.returns
returns c = is_pair c.args.trees.now c.index-trees-0.result c.index-trees-1.result c.if-trees-ne2.false c.index-trees-0.is c.index-trees-1.is

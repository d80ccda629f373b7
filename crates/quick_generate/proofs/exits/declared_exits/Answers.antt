use Rattle.quick_generate.proofs.LoopLaws.{exit_next}
use Rattle.quick_generate.proofs.exits.declared_exits.Goals as goal

pub loop-index-preserved : goal.loop-index-preserved
loop-index-preserved g c =
    exit_next c.args.cell c.args.behind c.args.conds c.loop-index.index _ _ _ c.loop-index-test.true c.in_ok-exit.ensures c.loop-index.invariant

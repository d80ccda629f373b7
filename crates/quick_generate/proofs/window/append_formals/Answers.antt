use Rattle.quick_generate.proofs.LoopLaws.{formal_next}
use Rattle.quick_generate.proofs.window.append_formals.Goals as goal

pub loop-shape-preserved : goal.loop-shape-preserved
loop-shape-preserved g c =
    formal_next c.args.formals.now c.loop-shape.shape-index c.item_count.result c.loop-shape-item.result _ _ _ c.loop-shape-test.true
    c.loop-shape-item.is c.item_count.ensures c.in_ok-append_zeros.ensures c.loop-shape.invariant

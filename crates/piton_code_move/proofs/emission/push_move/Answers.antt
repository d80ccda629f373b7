use Rattle.std.proofs.Common.{◌≤◌, ap, arith}
use Rattle.piton_semantics.specs.PitonInstr.{decoded_view}
use Rattle.piton_code_move.proofs.emission.push_move.Goals as goal

pub overflow_add-index : goal.overflow_add-index
overflow_add-index g c =
    let n = c.in-PushTempStkIndex.index in
    let few : n ≤ 65536 = c.requires.counts n (ap decoded_view c.in-PushTempStkIndex.is) in
    omega (arith, few)

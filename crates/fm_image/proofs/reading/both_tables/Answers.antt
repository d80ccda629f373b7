use Rattle.std.proofs.Common.{arith}
use Rattle.fm_image.proofs.TableLaws.{few_read}
use Rattle.fm_image.proofs.reading.both_tables.Goals as goal

pub overflow_cast-len : goal.overflow_cast-len
overflow_cast-len g c =
    let few = few_read c.args.end c.args.left.now c.in_ok-procedures.procedures.items c.in_ok-procedures.left.now
    (λ i. omega (arith, c.type_inv.left i)) c.in_ok-procedures.ensures in
    omega (arith, few, c.in_ok-procedures.procedures.ok)

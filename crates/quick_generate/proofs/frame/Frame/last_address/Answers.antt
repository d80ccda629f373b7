use Rattle.std.proofs.Common.{arith}
use Rattle.quick_generate.proofs.FrameLaws.{words_with}
use Rattle.quick_generate.proofs.frame.Frame.last_address.Goals as goal

pub overflow_add-last : goal.overflow_add-last
overflow_add-last c =
    let frame = c.args.self.now in
    let within = words_with c.args.variable frame.shapes.items in
    omega (arith, within, c.first.ensures, c.count.ensures, c.saturating_sub.ensures, frame.room, frame.fits)

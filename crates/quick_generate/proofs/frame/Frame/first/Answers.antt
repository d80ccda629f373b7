use Rattle.std.proofs.Common.{arith}
use Rattle.quick_generate.proofs.FrameLaws.{words_before}
use Rattle.quick_generate.proofs.frame.Frame.first.Goals as goal

pub words_of-requires : goal.words_of-requires
words_of-requires c =
    let frame = c.args.self.now in
    let before = words_before c.min-before.result frame.shapes.items in
    rw c.as_slice.ensures.value (omega (arith, before, frame.room, frame.fits))

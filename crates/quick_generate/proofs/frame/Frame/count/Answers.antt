use Rattle.std.proofs.Common.{ap, arith}
use Rattle.gypsy_syntax.specs.Programs.{words_of}
use Rattle.quick_generate.proofs.FrameLaws.{words_at}
use Rattle.quick_generate.proofs.frame.Frame.count.Goals as goal

pub overflow_cast-result : goal.overflow_cast-result
overflow_cast-result c =
    let frame = c.args.self.now in
    let shapes = c.deref.result.now in
    let within = words_at c.args.variable shapes c.in-Some.shape.now c.in-Some.ensures.lookup.3.0 c.in-Some.ensures.lookup.1 in
    let all = ap words_of c.deref.ensures.value in
    omega (arith, c.item_count.ensures, frame.room, frame.fits, within, all)

use Rattle.quick_generate.proofs.LoopLaws.{numbers_made}
use Rattle.quick_generate.proofs.window.numbers.Goals as goal

pub returns : goal.returns
returns g c =
    numbers_made c.as_slice.result.now c.args.main.now.formals.items c.as_slice-2.result.now c.args.main.now.locals.items _ _ _
    c.as_slice.ensures.value c.as_slice-2.ensures.value c.new-numbers.ensures.items c.in_ok-append_formals.ensures c.in_ok-append_locals.ensures

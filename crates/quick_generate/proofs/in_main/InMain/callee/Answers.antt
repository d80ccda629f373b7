use Rattle.std.proofs.Common.{refl, arith}
use Rattle.quick_generate.{proofs.InMainLaws.callee_seen, specs.LinedViews.called_program}
use Rattle.quick_generate.proofs.in_main.InMain.callee.Goals as goal

pub returns-clause-inner : goal.returns-clause-inner
returns-clause-inner g c =
    callee_seen (called_program c.args.calls.now) c.args.self.now c.activation.result c.procedure-callee.result.now c.args.site.now.callee c.args.next
    c.len-count.result _ _ _ _ _ c.procedure-callee.ensures c.activation.ensures.used c.in_ok-variables.ensures c.as_slice.ensures.value
    (omega (arith, c.len-count.ensures)) refl (omega (arith, c.len.ensures, c.len-2.ensures))

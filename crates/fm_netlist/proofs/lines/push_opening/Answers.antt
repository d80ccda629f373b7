use Rattle.std.proofs.Common.{◌++◌, ◌∙◌, ap, arith}
use Rattle.fm_netlist.{specs.NetlistText.below, specs.Pieces.opening_text, proofs.BelowLaws.{below_next, below_none}}
use Rattle.fm_netlist.proofs.lines.push_opening.Goals as goal

pub loop-init : goal.loop-init
loop-init c = (omega arith, below_none opening_text c.args.text.now.items)

pub loop-preserved : goal.loop-preserved
loop-preserved c = (
  omega (arith, c.loop-test.true),
  below_next opening_text c.loop.counter c.args.text.now.items c.loop.text.items
      c.push.new.text.items c.in_ok-push.ensures c.loop.invariant.1,
)

pub returns : goal.returns
returns c = c.loop.invariant.1 ∙ ap (λ k. c.args.text.now.items ++ below opening_text k) (omega (arith, c.loop-test.false, c.loop.invariant.0))

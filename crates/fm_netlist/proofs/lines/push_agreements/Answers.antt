use Rattle.std.proofs.Common.{◌++◌, ◌∙◌, ap, arith}
use Rattle.fm_netlist.{specs.NetlistText.below, specs.Pieces.agreeing_text, proofs.BelowLaws.{below_next, below_none}}
use Rattle.fm_netlist.proofs.lines.push_agreements.Goals as goal

pub loop-i-init : goal.loop-i-init
loop-i-init c = (omega arith, below_none (agreeing_text c.args.p c.args.q) c.args.text.now.items)

pub loop-i-preserved : goal.loop-i-preserved
loop-i-preserved c = (
  omega (arith, c.loop-i-test.true),
  below_next (agreeing_text c.args.p c.args.q) c.loop-i.i c.args.text.now.items c.loop-i.text.items
      c.push_agreeing.new.text.items c.in_ok-push_agreeing.ensures c.loop-i.invariant.1,
)

pub returns : goal.returns
returns c =
    c.loop-i.invariant.1
    ∙ ap (λ k. c.args.text.now.items ++ below (agreeing_text c.args.p c.args.q) k) (omega (arith, c.loop-i-test.false, c.loop-i.invariant.0))

use Rattle.std.proofs.Common.{◌++◌, ◌∙◌, ap, arith}
use Rattle.fm_netlist.{specs.NetlistText.{below, file_line}, proofs.BelowLaws.{below_next, below_none}}
use Rattle.fm_netlist.proofs.lines.push_word.Goals as goal

pub loop-i-init : goal.loop-i-init
loop-i-init c = (omega arith, below_none (file_line c.args.r) c.args.text.now.items)

pub loop-i-preserved : goal.loop-i-preserved
loop-i-preserved c = (
  omega (arith, c.loop-i-test.true),
  below_next (file_line c.args.r) c.loop-i.i c.args.text.now.items c.loop-i.text.items
      c.push_file_line.new.text.items c.in_ok-push_file_line.ensures c.loop-i.invariant.1,
)

pub returns : goal.returns
returns c =
    c.loop-i.invariant.1
    ∙ ap (λ k. c.args.text.now.items ++ below (file_line c.args.r) k) (omega (arith, c.loop-i-test.false, c.loop-i.invariant.0))

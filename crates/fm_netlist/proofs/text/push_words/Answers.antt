use Rattle.std.proofs.Common.{◌++◌, ◌∙◌, ap, arith}
use Rattle.fm_netlist.{specs.NetlistText.{below, word_lines}, proofs.BelowLaws.{below_next, below_none}}
use Rattle.fm_netlist.proofs.text.push_words.Goals as goal

pub loop-r-init : goal.loop-r-init
loop-r-init c = (omega arith, below_none word_lines c.args.text.now.items)

pub loop-r-preserved : goal.loop-r-preserved
loop-r-preserved c = (
  omega (arith, c.loop-r-test.true),
  below_next word_lines c.loop-r.r c.args.text.now.items c.loop-r.text.items
      c.push_word.new.text.items c.in_ok-push_word.ensures c.loop-r.invariant.1,
)

pub returns : goal.returns
returns c = c.loop-r.invariant.1 ∙ ap (λ k. c.args.text.now.items ++ below word_lines k) (omega (arith, c.loop-r-test.false, c.loop-r.invariant.0))

use Rattle.std.proofs.Common.{◌++◌, ◌∙◌, ap, arith}
use Rattle.fm_netlist.{specs.NetlistText.{below, word_shown}, proofs.BelowLaws.{below_next, below_none}}
use Rattle.fm_netlist.proofs.text.show_words.Goals as goal

pub loop-r-init : goal.loop-r-init
loop-r-init c = (omega arith, below_none word_shown c.args.text.now.items)

pub loop-r-preserved : goal.loop-r-preserved
loop-r-preserved c = (
  omega (arith, c.loop-r-test.true),
  below_next word_shown c.loop-r.r c.args.text.now.items c.loop-r.text.items
      c.show_word.new.text.items c.in_ok-show_word.ensures c.loop-r.invariant.1,
)

pub returns : goal.returns
returns c = c.loop-r.invariant.1 ∙ ap (λ k. c.args.text.now.items ++ below word_shown k) (omega (arith, c.loop-r-test.false, c.loop-r.invariant.0))

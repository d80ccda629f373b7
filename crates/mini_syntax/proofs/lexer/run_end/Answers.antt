use Rattle.std.proofs.Common.{◌∙◌, sym, arith}
use Rattle.mini_syntax.{proofs.LexerLaws.{mode_goes_on, mode_over, run_ends, run_goes_on, run_over, run_past, tokens_past}, specs.Tokens.between}
use Rattle.mini_syntax.specs.Internal.TokenSpans.{run_mode, run_test}
use Rattle.mini_syntax.proofs.lexer.run_end.Goals as goal

pub returns-then-not-goes_on : goal.returns-then-not-goes_on
returns-then-not-goes_on c = record {
  later = c.loop-at.invariant.later;
  within = c.loop-at.invariant.within;
  run = run_ends (run_test c.args.run) c.args.text.now c.args.from c.loop-at.at c.loop-at.invariant.run_is
      (run_over (run_test c.args.run) c.args.text.now c.loop-at.at c.loop-at-test.true (sym c.if-not-goes_on.ensures));
  tokens = c.loop-at.invariant.tokens_are ∙ mode_over c.args.run c.args.text.now c.loop-at.at c.loop-at-test.true (sym c.if-not-goes_on.ensures);
}

pub loop-at-preserved : goal.loop-at-preserved
loop-at-preserved c = record {
  later = omega arith;
  within = omega arith;
  run_is = c.loop-at.invariant.run_is ∙ run_goes_on (run_test c.args.run) c.args.text.now c.args.from c.loop-at.at c.loop-at.invariant.later
      c.loop-at-test.true (sym c.if-not-goes_on.ensures);
  tokens_are = c.loop-at.invariant.tokens_are ∙ mode_goes_on c.args.run c.args.text.now c.loop-at.at c.loop-at-test.true (sym c.if-not-goes_on.ensures);
}

pub returns : goal.returns
returns c = record {
  later = c.loop-at.invariant.later;
  within = c.loop-at.invariant.within;
  run = run_ends (run_test c.args.run) c.args.text.now c.args.from c.loop-at.at c.loop-at.invariant.run_is
      (run_past (run_test c.args.run) c.args.text.now c.loop-at.at c.loop-at-test.false);
  tokens = c.loop-at.invariant.tokens_are ∙ tokens_past (run_mode c.args.run) c.args.text.now c.loop-at.at c.loop-at-test.false
      ∙ sym (tokens_past between c.args.text.now c.loop-at.at c.loop-at-test.false);
}

use Rattle.std.proofs.Common.{◌∙◌, sym, arith}
use Rattle.stack_text.{proofs.TokenLaws.{atom_goes_on, run_goes_on, atom_over_at, run_over_at, tokens_past, run_past, run_ends}, specs.Tokens.in_atom}
use Rattle.stack_text.specs.Tokens.{between}
use Rattle.stack_text.proofs.lexer.atom_end.Goals as goal

pub returns-in_default : goal.returns-in_default
returns-in_default c = record {
  later = c.loop-at.invariant.later;
  within = c.loop-at.invariant.within;
  run = run_ends c.args.text.now c.args.from c.loop-at.at c.loop-at.invariant.run_is
      (run_over_at c.args.text.now c.loop-at.at c.class_of_byte.result c.loop-at-test.true c.class_of_byte.ensures c.in_default.not-AtomByte);
  tokens = c.loop-at.invariant.tokens_are ∙ atom_over_at c.args.text.now c.loop-at.at c.class_of_byte.result c.loop-at-test.true c.class_of_byte.ensures
      c.in_default.not-AtomByte;
}

pub loop-at-preserved : goal.loop-at-preserved
loop-at-preserved c = record {
  later = omega arith;
  within = omega arith;
  run_is = c.loop-at.invariant.run_is ∙ run_goes_on c.args.text.now c.args.from c.loop-at.at c.loop-at.invariant.later c.loop-at-test.true
      c.in-AtomByte.ensures;
  tokens_are = c.loop-at.invariant.tokens_are ∙ atom_goes_on c.args.text.now c.loop-at.at c.loop-at-test.true c.in-AtomByte.ensures;
}

pub returns : goal.returns
returns c = record {
  later = c.loop-at.invariant.later;
  within = c.loop-at.invariant.within;
  run = run_ends c.args.text.now c.args.from c.loop-at.at c.loop-at.invariant.run_is (run_past c.args.text.now c.loop-at.at c.loop-at-test.false);
  tokens = c.loop-at.invariant.tokens_are ∙ tokens_past in_atom c.args.text.now c.loop-at.at c.loop-at-test.false
      ∙ sym (tokens_past between c.args.text.now c.loop-at.at c.loop-at-test.false);
}

use Rattle.std.proofs.Common.{◌∙◌, arith}
use Rattle.stack_text.{proofs.TokenLaws.{blank, comment_begins, one_byte_token, atom_token, atom_is_long, tokens_past}, specs.Tokens.between}
use Rattle.stack_text.specs.declared.class.Class.TheVariants.{Opening, Closing, Invalid}
use Rattle.stack_text.proofs.lexer.next_token.Goals as goal

pub loop-at-preserved-in-LineEnd : goal.loop-at-preserved-in-LineEnd
loop-at-preserved-in-LineEnd c = record {
  later = omega arith;
  within = omega arith;
  tokens_are = c.loop-at.invariant.tokens_are ∙ blank c.args.text.now c.loop-at.at c.class_of_byte.result c.loop-at-test.true c.class_of_byte.ensures
      c.in-LineEnd.is;
}

pub loop-at-preserved : goal.loop-at-preserved
loop-at-preserved c = record {
  later = omega arith;
  within = omega arith;
  tokens_are = c.loop-at.invariant.tokens_are ∙ comment_begins c.args.text.now c.loop-at.at c.loop-at-test.true c.in-Semicolon.ensures
      ∙ c.comment_end-at.ensures.tokens;
}

pub returns-in-AtomByte-clause-some : goal.returns-in-AtomByte-clause-some
returns-in-AtomByte-clause-some c = record {
  tokens_are = c.loop-at.invariant.tokens_are ∙ atom_token c.args.text.now c.loop-at.at c.atom_end-end.result c.loop-at-test.true c.in-AtomByte.ensures
      c.atom_end-end.ensures.run c.atom_end-end.ensures.tokens;
  in_order = (
    c.loop-at.invariant.later,
    atom_is_long c.args.text.now c.loop-at.at c.atom_end-end.result c.loop-at-test.true c.in-AtomByte.ensures
        c.atom_end-end.ensures.run,
    c.atom_end-end.ensures.within,
  );
}

pub returns-in-Opening-clause-some : goal.returns-in-Opening-clause-some
returns-in-Opening-clause-some c = rw c.one_byte.ensures (record {
  tokens_are = c.loop-at.invariant.tokens_are ∙ one_byte_token c.args.text.now c.loop-at.at Opening c.loop-at-test.true c.in-Opening.ensures;
  in_order = (c.loop-at.invariant.later, omega arith, omega arith);
})

pub returns-in-Closing-clause-some : goal.returns-in-Closing-clause-some
returns-in-Closing-clause-some c = rw c.one_byte-in-Closing.ensures (record {
  tokens_are = c.loop-at.invariant.tokens_are ∙ one_byte_token c.args.text.now c.loop-at.at Closing c.loop-at-test.true c.in-Closing.ensures;
  in_order = (c.loop-at.invariant.later, omega arith, omega arith);
})

pub returns-in-Invalid-clause-some : goal.returns-in-Invalid-clause-some
returns-in-Invalid-clause-some c = rw c.one_byte-in-Invalid.ensures (record {
  tokens_are = c.loop-at.invariant.tokens_are ∙ one_byte_token c.args.text.now c.loop-at.at Invalid c.loop-at-test.true c.in-Invalid.ensures;
  in_order = (c.loop-at.invariant.later, omega arith, omega arith);
})

pub returns-clause-none : goal.returns-clause-none
returns-clause-none c = c.loop-at.invariant.tokens_are ∙ tokens_past between c.args.text.now c.loop-at.at c.loop-at-test.false

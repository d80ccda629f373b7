use Rattle.std.proofs.Common.{◌∙◌, sym, arith}
use Rattle.mini_syntax.{proofs.LexerLaws.{blank, later_token, tokens_past}, specs.Tokens.between}
use Rattle.mini_syntax.proofs.lexer.next_token.Goals as goal

pub returns-then-not-is_blank-clause-some : goal.returns-then-not-is_blank-clause-some
returns-then-not-is_blank-clause-some c =
    later_token c.args.text.now c.args.from c.loop-at.at c.token_at.result c.loop-at.invariant.later c.loop-at.invariant.tokens_are c.token_at.ensures

pub loop-at-preserved : goal.loop-at-preserved
loop-at-preserved c = record {
  later = omega arith;
  within = omega arith;
  tokens_are = c.loop-at.invariant.tokens_are ∙ blank c.args.text.now c.loop-at.at c.loop-at-test.true (sym c.if-not-is_blank.ensures);
}

pub returns-clause-none : goal.returns-clause-none
returns-clause-none c = c.loop-at.invariant.tokens_are ∙ tokens_past between c.args.text.now c.loop-at.at c.loop-at-test.false

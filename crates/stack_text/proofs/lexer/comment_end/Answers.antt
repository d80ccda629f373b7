use Rattle.std.proofs.Common.{arith}
use Rattle.stack_text.proofs.CommentLaws.{found_in, nowhere_in}
use Rattle.stack_text.proofs.lexer.comment_end.Goals as goal

pub returns-in-Some-clause-tokens : goal.returns-in-Some-clause-tokens
returns-in-Some-clause-tokens c =
    let h = c.in-Some.ensures.0 in found_in c.args.text.now c.args.from c.in-Some.length h.high (λ k l. h.before k (omega arith) l) c.in-Some.ensures.1

pub returns-in-None-clause-tokens : goal.returns-in-None-clause-tokens
returns-in-None-clause-tokens c = nowhere_in c.args.text.now c.args.from c.requires c.in-None.ensures

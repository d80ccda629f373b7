use Rattle.std.proofs.Common.{refl}
use Rattle.mini_syntax.proofs.StepLaws.{mark_is, token_left}
use Rattle.mini_syntax.proofs.lexeme.Cursor.mark.Goals as goal

pub next-requires : goal.next-requires
next-requires c = token_left c.requires refl

pub returns : goal.returns
returns c = mark_is c.args.mark c.next.result c.requires c.next.ensures

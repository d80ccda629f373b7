use Rattle.mini_syntax.proofs.LexerLaws.{mark_found, wrong_found}
use Rattle.mini_syntax.proofs.lexer.mark_at.Goals as goal

pub returns-in-Some : goal.returns-in-Some
returns-in-Some c = mark_found c.args.text.now c.args.start c.mark_end.result c.in-Some.mark c.requires.within c.requires.visible c.requires.no_letter
    c.requires.no_digit c.in-Some.ensures c.mark_end.ensures

pub returns-in-None : goal.returns-in-None
returns-in-None c = wrong_found c.args.text.now c.args.start c.requires.within c.requires.visible c.requires.no_letter c.requires.no_digit c.in-None.ensures

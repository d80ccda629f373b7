use Rattle.debug_script.proofs.WordLaws.{first_of_more, only_word}
use Rattle.debug_script.proofs.line.first_word.Goals as goal

pub returns-in-Some-clause-words : goal.returns-in-Some-clause-words
returns-in-Some-clause-words c = first_of_more c.args.line.now c.in-Some.end c.in-Some.ensures.place

pub returns-in-None-clause-words : goal.returns-in-None-clause-words
returns-in-None-clause-words c = only_word c.args.line.now c.in-None.ensures.place

use Rattle.debug_script.proofs.WordLaws.{split_found, split_none}
use Rattle.debug_script.proofs.command.part_from.Goals as goal

pub returns-in-Some-clause-parts : goal.returns-in-Some-clause-parts
returns-in-Some-clause-parts c = split_found c.args.words.now c.args.start c.in-Some.end c.in-Some.ensures.place

pub returns-in-None-clause-parts : goal.returns-in-None-clause-parts
returns-in-None-clause-parts c = split_none c.args.words.now c.args.start c.in-None.ensures.place

use Rattle.gypsy_semantics.proofs.LongerLaws.{longer, ends_once}
use Rattle.gypsy_semantics.proofs.laws.statements_end_once.Goals as goal

pub returns-clause-longer : goal.returns-clause-longer
returns-clause-longer c = λ q sizes n m s u x y condition. longer q sizes s u x y condition n m

pub returns-clause-once : goal.returns-clause-once
returns-clause-once c = λ q sizes n m s u x y z first second. ends_once q sizes s u x y z first second n m

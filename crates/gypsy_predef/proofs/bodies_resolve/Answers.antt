use Rattle.gypsy_predef.{proofs.FormLaws.fit, proofs.ResolvingLaws.{resolve, stand_resolved, keep_rules}}
use Rattle.gypsy_predef.proofs.bodies_resolve.Goals as goal

pub returns-clause-one : goal.returns-clause-one
returns-clause-one c = resolve

pub returns-clause-all : goal.returns-clause-all
returns-clause-all c = stand_resolved

pub returns-clause-rules : goal.returns-clause-rules
returns-clause-rules c = keep_rules

pub returns-clause-fit : goal.returns-clause-fit
returns-clause-fit c = fit

use Rattle.std.proofs.Common.{subst}
use Rattle.space_cert.{proofs.NeverLaws.never, proofs.StepLaws.{MoveCovered, start_covered, step_covered, call_on_top}}
use Rattle.space_cert.proofs.laws.certificates_hold.Goals as goal

pub returns-clause-start : goal.returns-clause-start
returns-clause-start c = λ q bs sizes v h. start_covered q bs sizes h v

pub returns-clause-step : goal.returns-clause-step
returns-clause-step c = λ q bs sizes g h covers k e. subst (MoveCovered q bs sizes) e (step_covered q bs sizes covers.certificate g k)

pub returns-clause-room : goal.returns-clause-room
returns-clause-room c = λ q bs sizes g covers k. call_on_top q bs sizes covers.certificate g k

pub returns-clause-never : goal.returns-clause-never
returns-clause-never c = λ q bs sizes v fits covers. never q bs sizes covers fits v

use Rattle.piton_semantics.{specs.Fits.system_in, proofs.StepLaws.each_step_simulated}
use Rattle.piton_code_arith.proofs.emission.append.Goals as goal

pub returns-in_ok-push_operation-in-Some-word_operation-clause-steps :
    goal.returns-in_ok-push_operation-in-Some-word_operation-clause-steps
returns-in_ok-push_operation-in-Some-word_operation-clause-steps g c =
    λ small m p q at here. each_step_simulated (system_in c.args.checked.now) c.resolved.ensures.checked.sound small m p q

pub returns-in-None-clause-steps : goal.returns-in-None-clause-steps
returns-in-None-clause-steps g c = λ small m p q at here. each_step_simulated (system_in c.args.checked.now) c.resolved.ensures.checked.sound small m p q

use Rattle.piton_semantics.{proofs.SoundLaws.known, proofs.SizeLaws.{length-template, code_ends, length-placed}, proofs.AddressLaws.same_words}
use Rattle.piton_semantics.{proofs.OpeningLaws.opening_stands, proofs.StepLaws.each_step_simulated}
use Rattle.piton_semantics.proofs.laws.placed_laws.Goals as goal

pub returns-clause-templates : goal.returns-clause-templates
returns-clause-templates c = length-template

pub returns-clause-code : goal.returns-clause-code
returns-clause-code c = code_ends

pub returns-clause-size : goal.returns-clause-size
returns-clause-size c = λ s sound. length-placed s (known s sound)

pub returns-clause-numbers : goal.returns-clause-numbers
returns-clause-numbers c = same_words

pub returns-clause-opening : goal.returns-clause-opening
returns-clause-opening c = λ s stack sound same. opening_stands s stack (known s sound) same

pub returns-clause-steps : goal.returns-clause-steps
returns-clause-steps c = λ s program place sound small m p q at here. each_step_simulated s sound small m p q

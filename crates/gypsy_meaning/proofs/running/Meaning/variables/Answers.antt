use Rattle.std.proofs.Common.{map, ap, ◌∙◌}
use Rattle.gypsy_meaning.proofs.ShownLaws.{names_shown}
use Rattle.gypsy_meaning.proofs.running.Meaning.variables.Goals as goal

pub returns-clause-names : goal.returns-clause-names
returns-clause-names c = λ s needs b. ap (map (λ v. v.0)) c.as_slice.ensures.value ∙ names_shown s needs c.args.self.now b

use Rattle.std.proofs.Common.{map, ap, ◌∙◌}
use Rattle.gypsy_semantics.specs.Views.Shown.{variables_at}
use Rattle.gypsy_meaning.{specs.Views.Stacks.activation_seen, proofs.WaitingLaws.{all_made, all_named, none_made}}
use Rattle.gypsy_meaning.proofs.running.Meaning.waiting.Goals as goal

pub returns-in_ok-all_waiting-in-None-clause-values : goal.returns-in_ok-all_waiting-in-None-clause-values
returns-in_ok-all_waiting-in-None-clause-values g c = c.in_ok-all_waiting-in-None.ensures.values ∙ all_made c.args.self.now c.in-None.is

pub returns-in_ok-all_waiting-in-None-clause-names : goal.returns-in_ok-all_waiting-in-None-clause-names
returns-in_ok-all_waiting-in-None-clause-names g c = λ s needs b. c.in_ok-all_waiting-in-None.ensures.names ∙ all_named s needs c.args.self.now b c.in-None.is

pub returns-in-Some-clause-values : goal.returns-in-Some-clause-values
returns-in-Some-clause-values g c =
    ap (map activation_seen) c.new.ensures.items ∙ none_made c.args.self.now _ c.in-Some.is

pub returns-in-Some-clause-names : goal.returns-in-Some-clause-names
returns-in-Some-clause-names g c = λ s needs b.
    ap (map (λ a. map (λ v. v.0) a.variables.items)) c.new.ensures.items
    ∙ ap (map (λ a. variables_at s a.procedure)) (none_made c.args.self.now _ c.in-Some.is)

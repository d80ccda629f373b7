use Rattle.std.proofs.Common.{◌∙◌, sym}
use Rattle.stack_text.proofs.BreachLaws.{none_least}
use Rattle.gypsy_syntax.specs.Views.SourceView.{source_of}
use Rattle.gypsy_check.{specs.Rules.violations, proofs.FitsLaws.source_fits}
use Rattle.gypsy_check.proofs.accepted.check.Goals as goal

pub invariant_of-result : goal.invariant_of-result
invariant_of-result g c =
    record {
      form = c.requires;
      rules = none_least (violations (source_of c.args.source)) (sym c.in_ok-check_source.ensures ∙ c.in-None.is);
      fits = source_fits (source_of c.args.source) (none_least (violations (source_of c.args.source)) (sym c.in_ok-check_source.ensures ∙ c.in-None.is));
    }

pub returns-in-None-clause-accepted : goal.returns-in-None-clause-accepted
returns-in-None-clause-accepted g c =
    record {
      form = c.requires;
      rules = none_least (violations (source_of c.args.source)) (sym c.in_ok-check_source.ensures ∙ c.in-None.is);
      fits = source_fits (source_of c.args.source) (none_least (violations (source_of c.args.source)) (sym c.in_ok-check_source.ensures ∙ c.in-None.is));
    }

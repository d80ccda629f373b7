use Rattle.std.proofs.Common.{sym, ◌∙◌}
use Rattle.piton_syntax.proofs.FitsLaws.{keeps_fits}
use Rattle.piton_check.{specs.Violations.violations, proofs.SmallLaws.fits_small, proofs.CheckedLaws.checked_from}
use Rattle.stack_text.proofs.BreachLaws.{none_least}
use Rattle.piton_check.proofs.checked.check.Goals as goal

pub resolve-requires : goal.resolve-requires
resolve-requires g c = fits_small c.args.system (keeps_fits c.args.system c.requires)

pub invariant_of-result : goal.invariant_of-result
invariant_of-result g c = checked_from c.args.system c.in_ok-resolved.resolved c.requires
    (none_least (violations c.args.system) (sym c.in_ok-resolved.ensures.noted ∙ c.in-None.is)) c.in_ok-resolved.ensures.value

pub returns-in-None-clause-checked : goal.returns-in-None-clause-checked
returns-in-None-clause-checked g c = checked_from c.args.system c.in_ok-resolved.resolved c.requires
    (none_least (violations c.args.system) (sym c.in_ok-resolved.ensures.noted ∙ c.in-None.is)) c.in_ok-resolved.ensures.value

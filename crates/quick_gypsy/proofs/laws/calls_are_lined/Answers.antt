use Rattle.quick_gypsy.{proofs.LinedLaws.{calls_are_lined, lined_calls_go_on}, proofs.PlainLaws.{lined_locals_fit, lined_mains_are_plain}}
use Rattle.quick_gypsy.proofs.laws.calls_are_lined.Goals as goal

pub returns-clause-done : goal.returns-clause-done
returns-clause-done c = calls_are_lined

pub returns-clause-goes_on : goal.returns-clause-goes_on
returns-clause-goes_on c = lined_calls_go_on

pub returns-clause-plain : goal.returns-clause-plain
returns-clause-plain c = lined_mains_are_plain

pub returns-clause-locals : goal.returns-clause-locals
returns-clause-locals c = lined_locals_fit

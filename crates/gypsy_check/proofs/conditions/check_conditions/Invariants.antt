use Rattle.std.{proofs.Common.take, specs.List.flat_map}
use Rattle.stack_text.specs.Breaches.{Notes}
use Rattle.gypsy_check.specs.Rules.{condition_breaches}
use Rattle.gypsy_check.proofs.conditions.check_conditions.Given as goal

-- those so far
abbrev pub invariant-loop-cond : goal.invariant-loop-cond
invariant-loop-cond l = Notes l.fn.best (flat_map (condition_breaches) (take l.cond-index l.conds)) l.best

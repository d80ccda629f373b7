use Rattle.std.{proofs.Common.take, specs.List.flat_map}
use Rattle.stack_text.specs.Breaches.{Notes}
use Rattle.gypsy_syntax.specs.Views.SourceView.{proc_of}
use Rattle.gypsy_check.specs.Rules.{raised_breaches}
use Rattle.gypsy_check.proofs.conditions.check_all_raised.Given as goal

-- those so far
abbrev pub invariant-loop-cond : goal.invariant-loop-cond
invariant-loop-cond l = Notes l.fn.best (flat_map (raised_breaches (proc_of l.scope) l.in_loop) (take l.cond-index l.conds)) l.best

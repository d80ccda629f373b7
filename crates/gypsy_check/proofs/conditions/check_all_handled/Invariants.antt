use Rattle.std.{proofs.Common.take, specs.List.flat_map}
use Rattle.stack_text.specs.Breaches.{Notes}
use Rattle.gypsy_syntax.specs.Views.SourceView.{proc_of}
use Rattle.gypsy_check.specs.Rules.{handled_breaches}
use Rattle.gypsy_check.proofs.conditions.check_all_handled.Given as goal

-- those so far
abbrev pub invariant-loop-cond : goal.invariant-loop-cond
invariant-loop-cond l = Notes l.fn.best (flat_map (handled_breaches (proc_of l.scope)) (take l.cond-index l.conds)) l.best

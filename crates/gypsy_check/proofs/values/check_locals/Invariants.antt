use Rattle.std.{proofs.Common.take, specs.List.flat_map}
use Rattle.stack_text.specs.Breaches.{Notes}
use Rattle.gypsy_syntax.{specs.declared.literal.Local.Local, specs.Views.SourceView.local_of}
use Rattle.gypsy_check.specs.Rules.{local_breaches}
use Rattle.gypsy_check.proofs.values.check_locals.Given as goal

-- those so far
abbrev pub invariant-loop-local : goal.invariant-loop-local
invariant-loop-local l = Notes l.fn.best (flat_map (λ (l : Local). local_breaches (local_of l)) (take l.local-index l.locals)) l.best

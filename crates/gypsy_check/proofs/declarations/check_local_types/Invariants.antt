use Rattle.std.{proofs.Common.take, specs.List.flat_map}
use Rattle.stack_text.specs.Breaches.{Notes}
use Rattle.gypsy_syntax.specs.declared.literal.Local.{Local}
use Rattle.gypsy_check.specs.Rules.{type_breaches}
use Rattle.gypsy_check.proofs.declarations.check_local_types.Given as goal

-- those so far
abbrev pub invariant-loop-local : goal.invariant-loop-local
invariant-loop-local l = Notes l.fn.best (flat_map (λ (l : Local). type_breaches l.decl.shape) (take l.local-index l.locals)) l.best

use Rattle.std.{proofs.Common.take, specs.List.flat_map}
use Rattle.stack_text.specs.Breaches.{Notes}
use Rattle.gypsy_syntax.specs.declared.literal.Decl.{Decl}
use Rattle.gypsy_check.specs.Rules.{type_breaches}
use Rattle.gypsy_check.proofs.declarations.check_formal_types.Given as goal

-- those so far
abbrev pub invariant-loop-decl : goal.invariant-loop-decl
invariant-loop-decl l = Notes l.fn.best (flat_map (λ (d : Decl). type_breaches d.shape) (take l.decl-index l.formals)) l.best

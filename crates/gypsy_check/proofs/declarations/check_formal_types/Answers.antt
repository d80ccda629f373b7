use Rattle.stack_text.proofs.BreachLaws.{notes_next}
use Rattle.gypsy_syntax.specs.declared.literal.Decl.{Decl}
use Rattle.gypsy_check.specs.Rules.{type_breaches}
use Rattle.gypsy_check.proofs.declarations.check_formal_types.Goals as goal

pub loop-decl-preserved : goal.loop-decl-preserved
loop-decl-preserved c =
    notes_next (λ (d : Decl). type_breaches d.shape) c.args.formals.now c.loop-decl.decl-index c.decl-item.result c.args.best.now c.loop-decl.best
    c.check_type.new.best
    c.loop-decl-test.true c.decl-item.is c.loop-decl.invariant c.check_type.ensures

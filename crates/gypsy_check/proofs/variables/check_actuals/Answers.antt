use Rattle.std.proofs.Common.{◌∙◌, map, ap, arith}
use Rattle.gypsy_syntax.{specs.declared.literal.Decl.Decl, specs.Views.SourceView.proc_of}
use Rattle.gypsy_check.{specs.Types.same_type, specs.Rules.{is_of_type, actuals_breaches}, proofs.NoteLaws.{noted, actuals_step, actuals_done}}
use Rattle.gypsy_check.proofs.variables.check_actuals.Goals as goal

pub loop-index-preserved : goal.loop-index-preserved
loop-index-preserved c =
    actuals_step (proc_of c.args.scope.now) c.loop-index.best c.note_if.new.best
    (noted c.args.best.now (actuals_breaches (proc_of c.args.scope.now) (map (λ (d : Decl). d.shape) c.args.formals.now) c.args.actuals.now))
    c.args.formals.now c.args.actuals.now c.loop-index.index c.index-formals-index.result c.index-actuals-index.result c.is_same_if_any-is_same.result
    c.loop-index-test.true (omega (arith, c.requires, c.loop-index-test.true)) c.index-actuals-index.is c.index-formals-index.is
    (c.is_same_if_any-is_same.ensures ∙ ap (is_of_type (same_type c.index-formals-index.result.shape)) c.type_of-shape.ensures)
    c.loop-index.invariant c.note_if.ensures

pub returns : goal.returns
returns c =
    actuals_done (proc_of c.args.scope.now) c.loop-index.best
    (noted c.args.best.now (actuals_breaches (proc_of c.args.scope.now) (map (λ (d : Decl). d.shape) c.args.formals.now) c.args.actuals.now))
    c.args.formals.now c.args.actuals.now c.loop-index.index c.loop-index-test.false c.loop-index.invariant

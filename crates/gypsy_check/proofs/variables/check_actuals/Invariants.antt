use Rattle.std.proofs.Common.{◌≡◌, map, drop}
use Rattle.gypsy_syntax.{specs.declared.literal.Decl.Decl, specs.Views.SourceView.proc_of}
use Rattle.gypsy_check.{specs.Rules.actuals_breaches, proofs.NoteLaws.{noted, types_from}}
use Rattle.gypsy_check.proofs.variables.check_actuals.Given as goal

abbrev pub invariant-loop-index : goal.invariant-loop-index
invariant-loop-index l =
    noted l.best (actuals_breaches (proc_of l.scope) (types_from l.formals l.index) (drop l.index l.actuals)) ≡
    noted l.fn.best (actuals_breaches (proc_of l.scope) (map (λ (d : Decl). d.shape) l.formals) l.actuals)

use Rattle.std.{proofs.Common.[], specs.List.flat_map}
use Rattle.stack_text.proofs.BreachLaws.{notes_more}
use Rattle.gypsy_syntax.specs.Views.SourceView.{proc_of}
use Rattle.gypsy_check.{specs.Declarations.repeats, specs.Rules.undeclared}
use Rattle.gypsy_check.proofs.calls.check_actual_names.Goals as goal

pub returns : goal.returns
returns g c =
    notes_more c.args.best.now c.check_all_declared.new.best c.check_repeats.new.best
    (flat_map (undeclared (proc_of c.args.scope.now)) c.args.actuals.now) (repeats 20 [] c.args.actuals.now)
    c.check_all_declared.ensures c.in_ok-check_repeats.ensures

use Rattle.std.{proofs.Common.[], specs.List.flat_map}
use Rattle.stack_text.proofs.BreachLaws.{notes_more}
use Rattle.gypsy_syntax.specs.Views.SourceView.{proc_of}
use Rattle.gypsy_check.{specs.Declarations.repeats, specs.Rules.handled_breaches}
use Rattle.gypsy_check.proofs.conditions.check_handlers.Goals as goal

pub returns : goal.returns
returns g c =
    notes_more c.args.best.now c.check_all_handled.new.best c.check_repeats.new.best
    (flat_map (handled_breaches (proc_of c.args.scope.now)) c.args.conds.now) (repeats 13 [] c.args.conds.now)
    c.check_all_handled.ensures c.in_ok-check_repeats.ensures

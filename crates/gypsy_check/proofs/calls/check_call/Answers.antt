use Rattle.std.{proofs.Common.◌++◌, specs.List.flat_map}
use Rattle.stack_text.proofs.BreachLaws.{notes_more}
use Rattle.gypsy_syntax.{specs.Views.SourceView.{proc_of, source_of}, specs.Resolved.procedure_named}
use Rattle.gypsy_check.specs.Rules.{raised_breaches, callee_breaches, callee_name_breaches, actual_name_breaches}
use Rattle.gypsy_check.proofs.calls.check_call.Goals as goal

pub returns : goal.returns
returns g c =
    let s = source_of c.args.callees.now.source.now in
    let p = proc_of c.args.scope.now in
    let call = c.args.call in
    let names = callee_name_breaches s call.callee.now in
    let actuals = actual_name_breaches p call.actuals.now in
    let conds = flat_map (raised_breaches p c.args.in_loop) call.conds.now in
    let found = callee_breaches p (procedure_named s call.callee.now.name) call.actuals_place call.actuals.now call.conds_place call.conds.now in
    let two = notes_more c.args.best.now c.check_callee_name.new.best c.check_actual_names.new.best names actuals c.check_callee_name.ensures
    c.in_ok-check_actual_names.ensures in
    let three = notes_more c.args.best.now c.check_actual_names.new.best c.check_all_raised.new.best (names ++ actuals) conds two c.check_all_raised.ensures in
    notes_more c.args.best.now c.check_all_raised.new.best c.check_callee_if_any.new.best (names ++ actuals ++ conds) found three c.check_callee_if_any.ensures

use Rattle.std.proofs.Common.{◌∙◌, ◌==◌, ap, length, List, not}
use Rattle.stack_text.{specs.declared.name.Named.Named, specs.Breaches.{when, Notes}, proofs.BreachLaws.notes_more}
use Rattle.gypsy_syntax.specs.Views.SourceView.{proc_of}
use Rattle.gypsy_check.{specs.Rules.data_breaches, proofs.NoteLaws.noted}
use Rattle.gypsy_check.proofs.calls.check_callee.Goals as goal

pub returns : goal.returns
returns c =
    let p = proc_of c.args.scope.now in
    let callee = c.args.callee.now in
    let call = c.args.call in
    let f1 = c.check_data.new.best in
    let number : Notes f1 (when (not (length call.conds.now == length callee.conds.items)) call.conds_place 19) c.note_if.new.best =
    c.note_if.ensures ∙ ap (λ (ns : List Named). noted f1 (when (not (length call.conds.now == length ns)) call.conds_place 19))
    c.as_slice-formal.ensures.value in
    notes_more c.args.best.now f1 c.note_if.new.best (data_breaches p (proc_of callee) call.actuals_place call.actuals.now)
    (when (not (length call.conds.now == length callee.conds.items)) call.conds_place 19)
    c.check_data.ensures number

use Rattle.std.proofs.Common.{◌∙◌, map, ap, sym}
use Rattle.gypsy_syntax.specs.Views.SourceView.{arg_of, proc_of}
use Rattle.gypsy_check.{specs.Rules.predef_breaches, proofs.NoteLaws.{noted, right_number, wrong_number}}
use Rattle.gypsy_check.proofs.predefs.check_predef.Goals as goal

pub returns-then-args-slots : goal.returns-then-args-slots
returns-then-args-slots c =
    let p = proc_of c.args.scope.now in
    c.check_slots.ensures
    ∙ ap (noted c.args.best.now) (sym (right_number p c.args.place c.slots_of-slots.result.now c.args.args.now c.if-args-slots.true))
    ∙ ap (λ slots. noted c.args.best.now (predef_breaches p c.args.place slots (map arg_of c.args.args.now))) c.slots_of-slots.ensures

pub returns-else-args-slots : goal.returns-else-args-slots
returns-else-args-slots c =
    let p = proc_of c.args.scope.now in
    c.check_wrong_number.ensures
    ∙ ap (noted c.args.best.now) (sym (wrong_number p c.args.place c.slots_of-slots.result.now c.args.args.now c.if-args-slots.false))
    ∙ ap (λ slots. noted c.args.best.now (predef_breaches p c.args.place slots (map arg_of c.args.args.now))) c.slots_of-slots.ensures

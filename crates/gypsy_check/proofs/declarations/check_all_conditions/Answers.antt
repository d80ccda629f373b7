use Rattle.std.{proofs.Common.{◌∙◌, ap, sym}, specs.List.flat_map}
use Rattle.stack_text.proofs.BreachLaws.{notes_more}
use Rattle.gypsy_check.{specs.Rules.condition_breaches, proofs.NoteLaws.{noted, flat_append}}
use Rattle.gypsy_check.proofs.declarations.check_all_conditions.Goals as goal

pub returns : goal.returns
returns c =
    let p = c.args.proc.now in
    notes_more c.args.best.now c.check_conditions.new.best c.check_conditions-2.new.best (flat_map condition_breaches p.conds.items)
    (flat_map condition_breaches p.local_conds.items)
    (c.check_conditions.ensures ∙ ap (λ ns. noted c.args.best.now (flat_map condition_breaches ns)) c.as_slice.ensures.value)
    (c.check_conditions-2.ensures ∙ ap (λ ns. noted c.check_conditions.new.best (flat_map condition_breaches ns)) c.as_slice-2.ensures.value)
    ∙ ap (noted c.args.best.now) (sym (flat_append condition_breaches p.conds.items p.local_conds.items))

use Rattle.std.{proofs.Common.{◌∙◌, ◌++◌, [], ap₂}, specs.List.flat_map}
use Rattle.stack_text.proofs.BreachLaws.{notes_more}
use Rattle.gypsy_syntax.specs.Views.SourceView.{proc_of}
use Rattle.gypsy_check.{specs.Declarations.{conditions_of, repeats}, specs.Rules.condition_breaches, proofs.NoteLaws.noted}
use Rattle.gypsy_check.proofs.declarations.declared_conditions.Goals as goal

pub returns-clause-noted : goal.returns-clause-noted
returns-clause-noted g c =
    let p = proc_of c.args.proc.now in
    notes_more c.args.best.now c.conditions_of.new.best c.check_all_conditions.new.best (repeats 5 [] (conditions_of p))
    (flat_map condition_breaches (conditions_of p))
    (c.in_ok-conds.ensures.noted ∙ ap₂ (λ ns ms. noted c.args.best.now (repeats 5 [] (ns ++ ms))) c.as_slice.ensures.value c.as_slice-2.ensures.value)
    c.check_all_conditions.ensures

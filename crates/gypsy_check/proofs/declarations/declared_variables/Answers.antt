use Rattle.std.{proofs.Common.{◌∙◌, ◌++◌, [], map, ap, ap₂, sym}, specs.List.flat_map}
use Rattle.stack_text.{specs.Breaches.Notes, proofs.BreachLaws.notes_more}
use Rattle.gypsy_syntax.{specs.declared.literal.Decl.Decl, specs.declared.literal.Local.Local, specs.Resolved.variable_types, specs.Views.SourceView.local_of}
use Rattle.gypsy_syntax.specs.Views.SourceView.{proc_of}
use Rattle.gypsy_check.{specs.Declarations.{variables_of, repeats}, specs.Rules.{type_breaches, local_breaches}, proofs.NoteLaws.{noted, flat_over}}
use Rattle.gypsy_check.proofs.NoteLaws.{local_names_over}
use Rattle.gypsy_check.proofs.declarations.declared_variables.Goals as goal

pub returns-clause-noted : goal.returns-clause-noted
returns-clause-noted g c =
    let raw = c.args.proc.now in
    let p = proc_of raw in
    let f0 = c.args.best.now in
    let f1 = c.variables_of.new.best in
    let f2 = c.check_types.new.best in
    let names : Notes f0 (repeats 4 [] (variables_of p)) f1 =
    c.in_ok-variables.ensures.noted ∙ ap₂ (λ ds ls. noted f0 (repeats 4 [] (map (λ (d : Decl). d.name) ds ++ map (λ (l : Local). l.decl.name) ls)))
    c.as_slice.ensures.value c.as_slice-2.ensures.value
    ∙ ap (λ ns. noted f0 (repeats 4 [] (map (λ (d : Decl). d.name) raw.formals.items ++ ns))) (local_names_over raw.locals.items) in
    let locals : Notes f2 (flat_map local_breaches p.locals) c.check_locals.new.best =
    c.check_locals.ensures ∙ ap (λ ls. noted f2 (flat_map (λ (l : Local). local_breaches (local_of l)) ls)) c.as_slice-3.ensures.value
    ∙ ap (noted f2) (sym (flat_over local_of local_breaches raw.locals.items)) in
    let two = notes_more f0 f1 f2 (repeats 4 [] (variables_of p)) (flat_map type_breaches (variable_types p)) names c.check_types.ensures in
    notes_more f0 f2 c.check_locals.new.best (repeats 4 [] (variables_of p) ++ flat_map type_breaches (variable_types p))
    (flat_map local_breaches p.locals) two locals

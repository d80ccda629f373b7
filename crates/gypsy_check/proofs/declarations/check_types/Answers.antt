use Rattle.std.{proofs.Common.{◌∙◌, ap, sym}, specs.List.flat_map}
use Rattle.stack_text.proofs.BreachLaws.{notes_more}
use Rattle.gypsy_syntax.{specs.declared.literal.Decl.Decl, specs.declared.literal.Local.Local}
use Rattle.gypsy_check.{specs.Rules.type_breaches, proofs.NoteLaws.noted, proofs.DeclarationLaws.types_flat}
use Rattle.gypsy_check.proofs.declarations.check_types.Goals as goal

pub returns : goal.returns
returns c =
    let p = c.args.proc.now in
    notes_more c.args.best.now c.check_formal_types.new.best c.check_local_types.new.best
    (flat_map (λ (d : Decl). type_breaches d.shape) p.formals.items) (flat_map (λ (x : Local). type_breaches x.decl.shape) p.locals.items)
    (c.check_formal_types.ensures ∙ ap (λ ns. noted c.args.best.now (flat_map (λ (d : Decl). type_breaches d.shape) ns)) c.as_slice.ensures.value)
    (c.check_local_types.ensures ∙ ap (λ ns. noted c.check_formal_types.new.best (flat_map (λ (x : Local). type_breaches x.decl.shape) ns))
    c.as_slice-2.ensures.value) ∙
    ap (noted c.args.best.now) (sym (types_flat p))

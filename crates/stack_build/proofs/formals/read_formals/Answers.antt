use Rattle.std.proofs.Common.{◌≡◌, ◌∙◌, sym, ap, subst, List}
use Rattle.fm_loader.specs.Values.{HaveOwnNames}
use Rattle.gypsy_syntax.{specs.declared.literal.Decl.Decl, specs.declared.proc.Source.Source, specs.Views.SourceView.source_of}
use Rattle.stack_build.{specs.Formals.shown_formals, specs.Image.{slots_from, formal_slots}, specs.Internal.Showing.HaveShortArrays}
use Rattle.stack_build.proofs.TakesLaws.{formals_short, formals_own_names, fits_from}
use Rattle.stack_build.proofs.formals.read_formals.Goals as goal

pub slots_from-requires : goal.slots_from-requires
slots_from-requires g c =
    let formals : c.shown_formals.result.now ≡ shown_formals (source_of c.args.accepted.now) =
    c.shown_formals.ensures ∙ ap (λ (s : Source). shown_formals (source_of s)) c.source-source.ensures.value in
    subst HaveShortArrays (sym formals) (formals_short (source_of c.args.accepted.now) c.source-source.ensures.accepted)

pub read_values-requires-clause-names : goal.read_values-requires-clause-names
read_values-requires-clause-names g c =
    let formals : c.shown_formals.result.now ≡ shown_formals (source_of c.args.accepted.now) =
    c.shown_formals.ensures ∙ ap (λ (s : Source). shown_formals (source_of s)) c.source-source.ensures.value in
    let slots : c.deref.result.now ≡ formal_slots (source_of c.args.accepted.now) =
    c.deref.ensures.value ∙ c.in_ok-slots.ensures ∙ ap (λ (ds : List Decl). slots_from 0 ds) formals in
    subst HaveOwnNames (sym slots) (formals_own_names (source_of c.args.accepted.now) c.source-source.ensures.accepted)

pub returns-clause-fits : goal.returns-clause-fits
returns-clause-fits g c =
    let formals : c.shown_formals.result.now ≡ shown_formals (source_of c.args.accepted.now) =
    c.shown_formals.ensures ∙ ap (λ (s : Source). shown_formals (source_of s)) c.source-source.ensures.value in
    let slots : c.deref.result.now ≡ formal_slots (source_of c.args.accepted.now) =
    c.deref.ensures.value ∙ c.in_ok-slots.ensures ∙ ap (λ (ds : List Decl). slots_from 0 ds) formals in
    fits_from (g.H.Heap.may_refuse c.args.heap) (source_of c.args.accepted.now)
    c.deref.result.now c.args.text.now (λ v. v.items) c.read_values.result c.source-source.ensures.accepted
    slots c.read_values.ensures.value

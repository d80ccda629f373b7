use Rattle.std.{proofs.Common.{◌≡◌, length, ap, sym, ◌∙◌, subst}, proofs.lemmas.List.length-map, proofs.lemmas.Result.IfOk-weaker, specs.List.IsDistinct}
use Rattle.std.specs.Str.{bytes_eq}
use Rattle.gypsy_syntax.{specs.Resolved.procedure_names, specs.Views.SourceView.source_of, specs.Sources.ProcOf}
use Rattle.gypsy_space.specs.Callees.{names_of}
use Rattle.space_cert.{specs.CertText.{GivesCertificateTextUnless, bounds_in}, proofs.NameLaws.{names_same, own_names}}
use Rattle.space_cert.proofs.reading.read_certificate.Goals as goal

pub names-requires : goal.names-requires
names-requires g c =
    subst (IsDistinct bytes_eq) (sym (ap names_of (c.as_slice.ensures.value ∙ ap (λ s. s.procs.items) c.source.ensures.value)
    ∙ names_same c.args.accepted.now.procs.items)) (own_names (source_of c.args.accepted.now) c.source.ensures.accepted.rules)

pub returns-clause-exact : goal.returns-clause-exact
returns-clause-exact g c =
    let named : c.in_ok-names.names ≡ procedure_names (source_of c.args.accepted.now) =
    c.in_ok-names.ensures ∙ (ap names_of (c.as_slice.ensures.value ∙ ap (λ s. s.procs.items) c.source.ensures.value)
    ∙ names_same c.args.accepted.now.procs.items) in
    subst (λ names. GivesCertificateTextUnless (g.H.Heap.may_refuse c.args.heap) (λ c. c.bounds.items) c.certificate_in.result
    (bounds_in names c.args.text.now)) named c.certificate_in.ensures.exact

pub returns-clause-number : goal.returns-clause-number
returns-clause-number g c =
    let s = source_of c.args.accepted.now in
    let named : c.in_ok-names.names ≡ procedure_names s =
    c.in_ok-names.ensures ∙ (ap names_of (c.as_slice.ensures.value ∙ ap (λ s. s.procs.items) c.source.ensures.value)
    ∙ names_same c.args.accepted.now.procs.items) in
    IfOk-weaker c.certificate_in.result (λ x. length x.bounds.items ≡ length c.in_ok-names.names) (λ x. length x.bounds.items ≡ length s.procs)
    (λ x e. e ∙ (ap length named ∙ length-map s.procs (λ (p : ProcOf). p.name.name))) c.certificate_in.ensures.number

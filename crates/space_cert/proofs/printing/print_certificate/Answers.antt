use Rattle.std.{proofs.Common.{◌≡◌, ◌≤◌, ◌^◌, ◌++◌, length, ap, sym, ◌∙◌, subst}, proofs.lemmas.List.length-map}
use Rattle.gypsy_syntax.{specs.Resolved.procedure_names, specs.Views.SourceView.{proc_of, source_of}, specs.Sources.ProcOf}
use Rattle.gypsy_space.specs.Callees.{names_of}
use Rattle.space_cert.{specs.CertText.{bounds_in, certificate_text}, proofs.NameLaws.{names_same, own_names, are_names, few_names}}
use Rattle.space_cert.proofs.ReadAgainLaws.{printed_reads, printed_short}
use Rattle.space_cert.proofs.printing.print_certificate.Goals as goal

pub print_all-requires : goal.print_all-requires
print_all-requires g c =
    ap length c.as_slice-2.ensures.value
    ∙ (c.requires
    ∙ (length-map c.args.accepted.now.procs.items proc_of
    ∙ sym (ap length (c.as_slice.ensures.value ∙ ap (λ s. s.procs.items) c.source.ensures.value))))

pub returns-clause-exact : goal.returns-clause-exact
returns-clause-exact g c =
    let named : names_of c.as_slice.result.now ≡ procedure_names (source_of c.args.accepted.now) =
    ap names_of (c.as_slice.ensures.value ∙ ap (λ s. s.procs.items) c.source.ensures.value) ∙ names_same c.args.accepted.now.procs.items in
    c.in_ok-print_all.ensures ∙ (λ i. c.new-out.ensures.items i ++ certificate_text (named i) (c.as_slice-2.ensures.value i))

pub returns-clause-again : goal.returns-clause-again
returns-clause-again g c =
    let s = source_of c.args.accepted.now in
    let names = procedure_names s in
    let form = c.source.ensures.accepted.form in
    ap (bounds_in names) (returns-clause-exact g c)
    ∙ printed_reads names c.args.cert.now.bounds.items (are_names s form) (few_names s form) c.args.cert.now.within
    (own_names s c.source.ensures.accepted.rules) (c.requires ∙ sym (length-map s.procs (λ (p : ProcOf). p.name.name)))

pub returns-clause-short : goal.returns-clause-short
returns-clause-short g c =
    let s = source_of c.args.accepted.now in
    let form = c.source.ensures.accepted.form in
    subst (λ t. length t ≤ 2 ^ 17) (sym (returns-clause-exact g c))
    (printed_short (procedure_names s) c.args.cert.now.bounds.items (are_names s form) (few_names s form) c.args.cert.now.within)

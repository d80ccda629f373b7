use Rattle.std.{proofs.Common.{length, ap, arith, subst}, proofs.lemmas.List.length-map, specs.Result.MatchResult}
use Rattle.gypsy_syntax.{specs.Resolved.{procedure_of, program_of}, specs.Views.SourceView.source_of}
use Rattle.gypsy_space.specs.Nodes.{seen_proc}
use Rattle.space_cert.{specs.declared.certificate.Certificate.Certificate, specs.Least.{AreLeastBounds, IsCertFaultUnless}}
use Rattle.space_cert.proofs.CertifiedLaws.{certified_gives, fault_there}
use Rattle.space_cert.proofs.certifying.certify.Goals as goal

pub least_certificate-requires-clause-few : goal.least_certificate-requires-clause-few
least_certificate-requires-clause-few g c =
    let s = source_of c.args.accepted.now in
    let few = (c.plain_form.ensures.fits s c.in_ok-program.ensures.accepted.form).few_procs in
    let many = ap (λ q. length q.procs) c.in_ok-program.ensures.program in
    omega (arith, few, many, length-map c.in_ok-program.program.procedures.items seen_proc, length-map s.procs (procedure_of s))

pub returns-clause-there : goal.returns-clause-there
returns-clause-there g c =
    let q = program_of (source_of c.args.accepted.now) in
    let R = g.H.Heap.may_refuse c.args.heap in
    let same = subst (λ p. MatchResult c.least_certificate.result (λ (cert : Certificate). AreLeastBounds p cert.bounds.items) (IsCertFaultUnless R p))
    c.in_ok-program.ensures.program c.least_certificate.ensures in
    fault_there R q c.in_ok-program.ensures.accepted.fits (λ (cert : Certificate). AreLeastBounds q cert.bounds.items) c.least_certificate.result same

pub returns-clause-exact : goal.returns-clause-exact
returns-clause-exact g c =
    let q = program_of (source_of c.args.accepted.now) in
    let R = g.H.Heap.may_refuse c.args.heap in
    let same = subst (λ p. MatchResult c.least_certificate.result (λ (cert : Certificate). AreLeastBounds p cert.bounds.items) (IsCertFaultUnless R p))
    c.in_ok-program.ensures.program c.least_certificate.ensures in
    certified_gives R q c.in_ok-program.ensures.accepted.fits c.least_certificate.result same

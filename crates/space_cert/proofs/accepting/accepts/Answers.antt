use Rattle.std.proofs.Common.{◌≡◌, ap, sym, ◌∙◌}
use Rattle.gypsy_syntax.{specs.Resolved.program_of, specs.Views.SourceView.source_of}
use Rattle.gypsy_space.specs.Needs.{main_used, stack_sizes}
use Rattle.space_cert.{specs.Accepting.{covers, source_calls}, proofs.CertifyLaws.body_calls, proofs.AcceptLaws.{covers_true, covers_is, is_covered_by}}
use Rattle.space_cert.{proofs.AcceptLaws.source_calls_are, proofs.NeverLaws.never}
use Rattle.space_cert.proofs.accepting.accepts.Goals as goal

pub returns-clause-covers : goal.returns-clause-covers
returns-clause-covers c =
    let ns = c.args.needs.now.procedures.items in
    let bs = c.args.cert.now.bounds.items in
    let s = source_of c.args.accepted.now in
    let q = program_of s in
    let sizes = stack_sizes c.args.ctrl c.args.temp in
    let fits = c.source-source.ensures.accepted.fits in
    let e : c.covers.result ≡ covers ns bs (main_used q) sizes q.main (body_calls q) =
    c.covers.ensures
    ∙ (ap (λ a. covers ns bs (main_used (program_of (source_of a))) sizes (program_of (source_of a)).main (source_calls (source_of a)))
    c.source-source.ensures.value
    ∙ ap (covers ns bs (main_used q) sizes q.main) (source_calls_are s)) in
    (λ t. covers_true q ns c.requires.needs fits bs sizes (sym e ∙ t), λ h. e ∙ covers_is q ns c.requires.needs fits bs sizes h)

pub returns-clause-never : goal.returns-clause-never
returns-clause-never c = λ t v.
    let s = source_of c.args.accepted.now in
    let sizes = stack_sizes c.args.ctrl c.args.temp in
    never (program_of s) c.args.cert.now.bounds.items sizes ((returns-clause-covers c).0 t) c.source-source.ensures.accepted.fits v

pub returns-clause-exact : goal.returns-clause-exact
returns-clause-exact c =
    let s = source_of c.args.accepted.now in
    let sizes = stack_sizes c.args.ctrl c.args.temp in
    is_covered_by (program_of s) c.source-source.ensures.accepted.fits c.args.cert.now.bounds.items sizes c.covers.result (returns-clause-covers c).0
    (returns-clause-covers c).1

use Rattle.std.proofs.Common.{◌≡◌, nat_eq, length, arith}
use Rattle.gypsy_syntax.specs.Views.SourceView.{source_of}
use Rattle.space_cert.{specs.Accepting.source_calls, proofs.AcceptLaws.{calls_many, procs_many}}
use Rattle.space_cert.proofs.accepting.has_each.Goals as goal

pub returns : goal.returns
returns c =
    let left : c.len.result ≡ length c.args.cert.now.bounds.items = omega (arith, c.len.ensures, c.args.cert.now.bounds.ok) in
    let right : c.len-2.result ≡ length (source_calls (source_of c.args.source.now)) =
    omega (arith, c.len-2.ensures, c.args.source.now.procs.ok, calls_many (source_of c.args.source.now), procs_many c.args.source.now.procs.items) in
    λ i. nat_eq (left i) (right i)

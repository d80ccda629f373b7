use Rattle.std.{proofs.Common.{◌∙◌, subst}, proofs.lemmas.List.length-map}
use Rattle.gypsy_syntax.{specs.Resolved.{procedure_of, program_of}, specs.Views.SourceView.source_of}
use Rattle.space_cert.specs.Least.{IsThere}
use Rattle.stack_commands.proofs.need.certify_source.Goals as goal

pub store-requires-clause-number : goal.store-requires-clause-number
store-requires-clause-number g c =
    let s = source_of c.args.accepted.now in c.in-Ok.ensures.least.certificate.number ∙ length-map s.procs (procedure_of s)

pub recursive-requires : goal.recursive-requires
recursive-requires g c =
    subst (IsThere (program_of (source_of c.args.accepted.now))) c.in-Err-Recursive.field-0-is c.in-Err-Recursive.ensures.there

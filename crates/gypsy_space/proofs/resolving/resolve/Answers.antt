use Rattle.std.proofs.Common.{sym, subst, ◌∙◌}
use Rattle.gypsy_syntax.{specs.declared.proc.Source.Source, specs.Views.SourceView.{proc_of, source_of}}
use Rattle.gypsy_check.specs.Accepted.{IsAccepted}
use Rattle.gypsy_space.{specs.Resolvable.IsResolvable, proofs.AcceptedLaws.{each_before, source_form, source_resolvable}}
use Rattle.gypsy_space.proofs.resolving.resolve.Goals as goal

pub callees_of-requires : goal.callees_of-requires
callees_of-requires g c =
    source_form (source_of c.source-source.result.now)
    (subst (λ (s : Source). IsAccepted (source_of s)) (sym c.source-source.ensures.value) c.source-source.ensures.accepted)

pub procedures-requires-clause-resolvable : goal.procedures-requires-clause-resolvable
procedures-requires-clause-resolvable g c =
    let source = c.in_ok-callees.callees.source.now in
    let accepted = subst (λ (s : Source). IsAccepted (source_of s)) (sym (c.in_ok-callees.ensures.of ∙ c.source-source.ensures.value))
    c.source-source.ensures.accepted in
    each_before IsResolvable proc_of source.procs.items (source_resolvable (source_of source) accepted)

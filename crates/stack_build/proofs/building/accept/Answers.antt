use Rattle.std.{proofs.Common.{◌≡◌, ◌∙◌, ap, sym, Ok}, proofs.lemmas.Result.err_from_is_err_and}
use Rattle.gypsy_syntax.{specs.declared.proc.Source.Source, specs.Views.SourceView.source_of}
use Rattle.stack_build.proofs.BuildLaws.{reading_fails, checking_fails, accepted_found}
use Rattle.stack_build.proofs.building.accept.Goals as goal

pub returns-in_err-source : goal.returns-in_err-source
returns-in_err-source g c =
    let p = err_from_is_err_and c.from_residual.result c.from_residual.ensures.1 in
    rw (p.1, p.2) (reading_fails (g.H.Heap.may_refuse c.args.heap) c.in_err-source.field-0.0 c.args.text.now c.in_err-source.ensures.value)

pub returns-in_err-check : goal.returns-in_err-check
returns-in_err-check g c =
    let p = err_from_is_err_and c.from_residual-in_err-check.result c.from_residual-in_err-check.ensures.1 in
    rw (p.1, p.2) (checking_fails (g.H.Heap.may_refuse c.args.heap) c.in_err-check.field-0.0 c.args.text.now
    (source_of c.in_ok-source.source) c.in_ok-source.ensures.value
    c.in_err-check.ensures.least)

pub returns : goal.returns
returns g c =
    let kept = c.in_ok-check.ensures.kept in
    let same : source_of c.in_ok-check.field-0 ≡ source_of c.in_ok-source.source = ap (λ (s : Source). source_of s) kept in
    accepted_found c.args.text.now (source_of c.in_ok-check.field-0) (c.in_ok-source.ensures.value ∙ ap Ok (sym same)) c.in_ok-check.ensures.accepted.rules

use Rattle.std.{proofs.Common.{subst, sym, ◌∙◌, Result, Ok, Err}, proofs.lemmas.Result.err_from_is_err_and}
use Rattle.gypsy_syntax.specs.Views.SourceView.{source_of}
use Rattle.stack_build.{specs.declared.fault.BuildFault.BuildFault, specs.Build.{GivesBuiltUnless, BuiltOf}, proofs.BuildLaws.{text_fails, text_builds}}
use Rattle.stack_build.proofs.ShortLaws.{text_builds_if}
use Rattle.stack_build.proofs.building.build_with_origins.Goals as goal

pub returns-in_err-accepted-clause-value : goal.returns-in_err-accepted-clause-value
returns-in_err-accepted-clause-value g c =
    let p = err_from_is_err_and c.from_residual.result c.from_residual.ensures.1 in
    rw (p.1, p.2)
    (text_fails (g.H.Heap.may_refuse c.args.heap) c.in_err-accepted.field-0.0 c.args.text.now c.args.ctrl c.args.temp c.args.base c.in_err-accepted.ensures)

pub returns-in_err-built-clause-value : goal.returns-in_err-built-clause-value
returns-in_err-built-clause-value g c =
    let p = err_from_is_err_and c.from_residual-in_err-built.result c.from_residual-in_err-built.ensures.1 in
    rw (p.1, p.2)
    (subst (λ (r : Result BuiltOf BuildFault).
    GivesBuiltUnless {X = BuiltOf} (g.H.Heap.may_refuse c.args.heap) (λ built. built) (Err c.in_err-built.field-0.0) r)
    (sym
    (text_builds c.args.text.now c.args.ctrl c.args.temp c.args.base (source_of c.in_ok-accepted.accepted) c.in_ok-accepted.ensures))
    c.in_err-built.ensures.value)

pub returns-clause-value : goal.returns-clause-value
returns-clause-value g c =
    text_builds c.args.text.now c.args.ctrl c.args.temp c.args.base (source_of c.in_ok-accepted.accepted) c.in_ok-accepted.ensures
    ∙ c.in_ok-built.ensures.value

pub returns-clause-implements : goal.returns-clause-implements
returns-clause-implements g c =
    text_builds_if c.args.text.now c.args.ctrl c.args.temp (source_of c.in_ok-accepted.accepted) (Ok c.in_ok-built.built)
    c.in_ok-accepted.ensures c.in_ok-built.ensures.implements

use Rattle.std.{proofs.Common.{IfOk, Result, subst}, proofs.lemmas.Result.err_from_is_err_and}
use Rattle.display_maps.specs.declared.ending.Ending.{Ending}
use Rattle.gypsy_space.specs.Needs.{stack_sizes}
use Rattle.stack_build.{specs.declared.start_fault.StartFault.StartFault, specs.SourceRuns.TellsMeaning, proofs.SourceRunLaws.{run_told, run_refused}}
use Rattle.example_client.proofs.run_source.Goals as goal

pub returns-in_err-run_on-clause-value : goal.returns-in_err-run_on-clause-value
returns-in_err-run_on-clause-value c =
    let p = err_from_is_err_and c.from_residual-in_err-run_on.result c.from_residual-in_err-run_on.ensures.1 in
    rw (p.1, p.2)
    (run_refused c.args.source.now c.args.values.now 100 100 c.args.budget c.in_ok-built.built c.in_err-run_on.field-0.0 c.in_ok-built.ensures.value
    (rw (← c.into_image-image.ensures) c.in_err-run_on.ensures))

pub returns-clause-value : goal.returns-clause-value
returns-clause-value c =
    run_told c.args.source.now c.args.values.now 100 100 c.args.budget c.in_ok-built.built c.in_ok-run_on.field-0 c.in_ok-built.ensures.value
    (rw (← c.into_image-image.ensures) c.in_ok-run_on.ensures)

pub returns-clause-meant : goal.returns-clause-meant
returns-clause-meant c =
    subst (λ (r : Result Ending StartFault). IfOk r (TellsMeaning c.args.source.now (stack_sizes 100 100) c.args.values.now c.args.budget))
    (run_told c.args.source.now c.args.values.now 100 100 c.args.budget c.in_ok-built.built c.in_ok-run_on.field-0 c.in_ok-built.ensures.value
    (rw (← c.into_image-image.ensures) c.in_ok-run_on.ensures))
    (c.source_runs_tell_meaning.ensures c.args.source.now 100 100 c.args.values.now c.args.budget c.requires.source)

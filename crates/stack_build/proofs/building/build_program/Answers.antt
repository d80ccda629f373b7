use Rattle.std.{proofs.Common.subst, proofs.lemmas.Result.err_from_is_err_and}
use Rattle.piton_check.specs.PitonChecking.{IsChecked}
use Rattle.piton_semantics.specs.Fits.{system_in}
use Rattle.gypsy_space.specs.Needs.{stack_sizes}
use Rattle.gypsy_syntax.specs.Views.SourceView.{source_of}
use Rattle.stack_build.{proofs.BuildLaws.{generating_fails, linking_fails, built_is}, proofs.BuildsLaws.made_builds}
use Rattle.stack_build.proofs.building.build_program.Goals as goal

pub returns-in_err-piton-clause-value : goal.returns-in_err-piton-clause-value
returns-in_err-piton-clause-value g c =
    let p = err_from_is_err_and c.from_residual-in_err-piton.result c.from_residual-in_err-piton.ensures.1 in
    rw (p.1, p.2)
    (generating_fails (g.H.Heap.may_refuse c.args.heap) c.in_err-piton.field-0.0 (source_of c.args.accepted.now)
    (stack_sizes c.args.ctrl c.args.temp) c.args.base
    c.in_err-piton.ensures.value)

pub image-requires-clause-generated : goal.image-requires-clause-generated
image-requires-clause-generated g c = record {
  sizes = stack_sizes c.args.ctrl c.args.temp;
  base = c.args.base;
  view = c.in_ok-piton.ensures.runs.view;
  words = c.in_ok-piton.ensures.runs.limits.few_words;
}

pub returns-in_err-image-clause-value : goal.returns-in_err-image-clause-value
returns-in_err-image-clause-value g c =
    let p = err_from_is_err_and c.from_residual-in_err-image.result c.from_residual-in_err-image.ensures.1 in
    rw (p.1, p.2)
    (linking_fails (source_of c.args.accepted.now) (stack_sizes c.args.ctrl c.args.temp) c.args.base c.in_ok-piton.piton.system
    c.in_ok-piton.ensures.value (g.H.Heap.may_refuse c.args.heap) c.in_err-image.field-0.0 (system_in c.in_ok-piton.piton)
    c.in_ok-piton.ensures.runs.view c.in_err-image.ensures.fault)

pub returns-clause-value : goal.returns-clause-value
returns-clause-value g c =
    built_is (source_of c.args.accepted.now) (stack_sizes c.args.ctrl c.args.temp) c.args.base c.in_ok-piton.piton c.in_ok-image.image c.in_ok-bytes.bytes.items
    c.in_ok-piton.ensures.value (subst IsChecked c.piton.view_is c.piton.invariant) c.in_ok-piton.ensures.runs.view c.in_ok-image.ensures.small
    c.in_ok-image.ensures.image c.in_ok-bytes.ensures

pub returns-clause-implements : goal.returns-clause-implements
returns-clause-implements g c =
    made_builds (source_of c.args.accepted.now) (stack_sizes c.args.ctrl c.args.temp) c.args.base c.in_ok-piton.piton c.in_ok-image.image
    c.in_ok-bytes.bytes.items
    c.in_ok-image.ensures.accepted (subst IsChecked c.piton.view_is c.piton.invariant) c.in_ok-piton.ensures.runs c.in_ok-image.ensures.runs
    c.in_ok-image.ensures.small c.in_ok-image.ensures.image c.in_ok-bytes.ensures

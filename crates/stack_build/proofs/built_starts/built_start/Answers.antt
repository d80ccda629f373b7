use Rattle.std.{proofs.Common.{rules, ◌≡◌, subst}, proofs.lemmas.Result.err_from_is_err_and}
use Rattle.fm_loader.proofs.ImageLaws.{own_names}
use Rattle.gypsy_space.specs.Needs.{stack_sizes}
use Rattle.gypsy_syntax.specs.Views.SourceView.{source_of}
use Rattle.stack_build.{specs.Starts.CanRun, proofs.StartLaws.{can_run, values_failed}}
use Rattle.stack_build.proofs.built_starts.built_start.Goals as goal

pub read_values-requires-clause-names : goal.read_values-requires-clause-names
read_values-requires-clause-names g c = rw c.deref.ensures.value (own_names _ c.image.invariant)

pub returns-in_err-values-clause-start : goal.returns-in_err-values-clause-start
returns-in_err-values-clause-start g c =
    let p = err_from_is_err_and c.from_residual-in_err-values.result c.from_residual-in_err-values.ensures.1 in
    let slots : c.deref.result.now ≡ c.in_ok-piton.field-0.image.slots = search rules in
    rw (p.1, p.2)
    (values_failed (g.H.Heap.may_refuse c.args.heap) (source_of c.args.accepted.now) (stack_sizes c.args.control c.args.temporary)
    c.in_ok-piton.field-0 c.args.text.now
    c.in_err-values.field-0.0 c.in_ok-piton.ensures.value (rw (← slots) c.in_err-values.ensures.value))

pub returns-clause-runs : goal.returns-clause-runs
returns-clause-runs g c =
    let source = source_of c.args.accepted.now in
    let slots : c.deref.result.now ≡ c.in_ok-piton.field-0.image.slots = search rules in
    let piton : c.in_ok-piton.field-0.piton ≡ c.piton.inside.piton = search rules in
    let image : c.in_ok-piton.field-0.image ≡ c.piton.inside.image = search rules in
    subst (CanRun source) (λ i. record { checked = piton i; image = image i; values = c.in_ok-values.values.items })
    (can_run c.generated_is_acceptable.ensures source (stack_sizes c.args.control c.args.temporary) c.in_ok-piton.field-0 c.args.text.now
    c.in_ok-values.values.items c.in_ok-piton.ensures.accepted c.in_ok-piton.ensures.value
    c.in_ok-piton.ensures.implements.spells.limits (rw (← slots) c.in_ok-values.ensures.value))

use Rattle.std.proofs.Common.{List, map, false, refl, ap, ◌∙◌}
use Rattle.stack_text.specs.Values.{ValueOf}
use Rattle.gypsy_space.specs.Nodes.{seen_arg}
use Rattle.gypsy_space.specs.declared.event.CostEvent.TheVariants as event
use Rattle.gypsy_space.specs.declared.event.Outcome.TheVariants as outcome
use Rattle.gypsy_semantics.specs.Calls.{target_of}
use Rattle.gypsy_meaning.{specs.Views.Work.work_of, specs.Internal.PredefinedEffects.{effect_of, applied_effect}, specs.Internal.PredefinedSteps.call_item}
use Rattle.gypsy_meaning.{specs.declared.turn.Advance.Advance, proofs.ApplyLaws.{writes_law, fails_law}}
use Rattle.gypsy_meaning.proofs.applying.application.Goals as goal

pub returns-in_ok-settle_below-in-Normal-clause-done : goal.returns-in_ok-settle_below-in-Normal-clause-done
returns-in_ok-settle_below-in-Normal-clause-done g c = λ w top.
    let x : List ValueOf = map (λ v. v.1) c.args.variables.now in
    let a : Advance = record { event = event.Predef c.args.call.now.which outcome.Normal; caught = false } in
    writes_law c.args.call.now x w (work_of c.settle_below.new.self) (effect_of c.in_ok-value.field-0) c.target.result c.in-Normal.value a
    (ap effect_of c.in-Normal.is) (c.in_ok-value.ensures ∙ ap (applied_effect c.args.call.now.which x) c.as_slice.ensures.value)
    (c.target.ensures ∙ ap (λ l. target_of (map seen_arg l)) c.as_slice-in-Normal.ensures.value) refl refl
    (c.in_ok-settle_below-in-Normal.ensures.done (call_item c.args.call.now) w top)

pub returns-in_ok-fail-in-Fault-clause-done : goal.returns-in_ok-fail-in-Fault-clause-done
returns-in_ok-fail-in-Fault-clause-done g c = λ w top.
    let x : List ValueOf = map (λ v. v.1) c.args.variables.now in
    fails_law c.args.call.now x w (work_of c.fail.new.work) (effect_of c.in_ok-value.field-0) outcome.Fault c.in_ok-fail-in-Fault.field-0 tt
    (ap effect_of c.in-Fault.is) (c.in_ok-value.ensures ∙ ap (applied_effect c.args.call.now.which x) c.as_slice.ensures.value)
    (c.in_ok-fail-in-Fault.ensures.done (call_item c.args.call.now) w top)

pub returns-in_ok-fail-in-Beyond-clause-done : goal.returns-in_ok-fail-in-Beyond-clause-done
returns-in_ok-fail-in-Beyond-clause-done g c = λ w top.
    let x : List ValueOf = map (λ v. v.1) c.args.variables.now in
    fails_law c.args.call.now x w (work_of c.fail-in-Beyond.new.work) (effect_of c.in_ok-value.field-0) outcome.Beyond c.in_ok-fail-in-Beyond.field-0 tt
    (ap effect_of c.in-Beyond.is) (c.in_ok-value.ensures ∙ ap (applied_effect c.args.call.now.which x) c.as_slice.ensures.value)
    (c.in_ok-fail-in-Beyond.ensures.done (call_item c.args.call.now) w top)

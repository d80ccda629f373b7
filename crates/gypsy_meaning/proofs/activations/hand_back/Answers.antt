use Rattle.std.proofs.Common.{get_or, map, slice_set, ap, ◌∙◌}
use Rattle.gypsy_meaning.proofs.CopyLaws.{copied_next, copied_past}
use Rattle.gypsy_meaning.proofs.activations.hand_back.Goals as goal

pub returns-in-None-clause-values : goal.returns-in-None-clause-values
returns-in-None-clause-values g c =
    copied_past c.args.actuals.now c.args.callee.now c.loop-place.place (map (λ v. v.1) c.loop-place.variables.items) _ c.loop-place.invariant.0
    c.in-None.ensures.lookup.3

pub loop-place-preserved : goal.loop-place-preserved
loop-place-preserved g c = (
  copied_next c.args.actuals.now c.args.callee.now c.loop-place.place (map (λ v. v.1) c.loop-place.variables.items) _ c.loop-place.invariant.0
      c.in-Some.formal.now (map (λ v. v.1) c.write.new.variables.items) c.loop-place-test.true c.in-Some.ensures.lookup.3.0 c.in-Some.ensures.lookup.1
      (c.write.ensures.values
      ∙ ap (slice_set (map (λ v. v.1) c.loop-place.variables.items) (get_or c.args.actuals.now c.loop-place.place 0)) c.in_ok-copied-in-Some.ensures),
  c.write.ensures.names ∙ c.loop-place.invariant.1,
)

use Rattle.level_debuggers.proofs.TakenLaws.{next_place, found_place}
use Rattle.level_debuggers.proofs.seats.place_of.Goals as goal

pub returns-then-has_rule-clause-place : goal.returns-then-has_rule-clause-place
returns-then-has_rule-clause-place g c =
    found_place c.args.watches.now c.index-watches-place.result
    (λ w. (goal.Watch-dyn g (w.vtable, w.value)).watching w.value)
    c.args.rule c.loop-place.place _ c.loop-place-test.true c.index-watches-place.is c.loop-place.invariant c.if-has_rule.ensures

pub loop-place-preserved : goal.loop-place-preserved
loop-place-preserved g c =
    next_place c.args.watches.now c.index-watches-place.result
    (λ w. (goal.Watch-dyn g (w.vtable, w.value)).watching w.value)
    c.args.rule c.loop-place.place _ c.loop-place-test.true c.index-watches-place.is c.loop-place.invariant c.if-has_rule.ensures

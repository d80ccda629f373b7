use Rattle.std.{proofs.Common.arith, proofs.lemmas.List.nil_from_length}
use Rattle.fm_loader.{specs.Values.all_found, proofs.FoundLaws.{found_next, found_stop, found_end}}
use Rattle.fm_loader.proofs.judging.all_found.Goals as goal

pub loop-value-preserved : goal.loop-value-preserved
loop-value-preserved g c =
    rw c.in_ok-push-in-Some-value.ensures.items
    (found_next c.args.place c.loop-value.values.items c.in-Some-value.value c.loop-value.value-iterator.rest.items c.next.new.self.rest.items
    (all_found c.args.place c.args.found.items) (rw c.in-Some-value.is at c.in-Some.ensures.steps.0) c.loop-value.invariant)

pub returns-in-None-value : goal.returns-in-None-value
returns-in-None-value g c =
    rw c.refused.ensures (found_stop c.args.place c.loop-value.values.items c.loop-value.value-iterator.rest.items c.next.new.self.rest.items
    (all_found c.args.place c.args.found.items) (rw c.in-None-value.is at c.in-Some.ensures.steps.0) c.loop-value.invariant)

pub returns : goal.returns
returns g c =
    found_end c.args.place c.loop-value.values.items c.loop-value.value-iterator.rest.items (all_found c.args.place c.args.found.items)
    (nil_from_length c.loop-value.value-iterator.rest.items (omega (arith, c.in-None.ensures.steps.0))) c.loop-value.invariant

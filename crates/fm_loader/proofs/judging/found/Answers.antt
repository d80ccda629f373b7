use Rattle.std.{proofs.Common.{take, refl, sym, ◌∙◌, arith}, proofs.lemmas.Result.err_from_is_err_and}
use Rattle.fm_loader.proofs.FoundLaws.{nothing_yet, within_found, is_repeated, no_such_slot, second_time, unfit, one_more, breaks_none, all_judged}
use Rattle.fm_loader.proofs.judging.found.Goals as goal

pub loop-entry-init : goal.loop-entry-init
loop-entry-init g c = record { found_is = sym c.in_ok-found.ensures ∙ nothing_yet c.args.slots.now; fault_is = refl }

pub returns-in_default : goal.returns-in_default
returns-in_default g c =
    rw c.refused.ensures (no_such_slot c.args.slots.now c.args.entries.now c.loop-entry.entry-index c.entry-item.result c.loop-entry-test.true
    c.entry-item.is (rw c.bytes.ensures.bytes at c.in_default.ensures.slot) c.loop-entry.invariant.fault_is)

pub index-requires : goal.index-requires
index-requires g c =
    let lt = within_found c.args.slots.now (take c.loop-entry.entry-index c.args.entries.now) c.loop-entry.found.items c.in-Some.index
    c.in-Some.slot.now c.loop-entry.invariant.found_is c.in-Some.ensures.position in
    omega (arith, lt)

pub returns-then-is_some : goal.returns-then-is_some
returns-then-is_some g c =
    let repeated = is_repeated c.args.slots.now (take c.loop-entry.entry-index c.args.entries.now) c.entry-item.result.name c.in-Some.index
    c.in-Some.slot.now c.loop-entry.found.items c.index.result.now (rw c.bytes.ensures.bytes at c.in-Some.ensures.slot) c.in-Some.ensures.position
    c.index.ensures c.loop-entry.invariant.found_is in
    rw c.refused-then-is_some.ensures (second_time c.args.slots.now c.args.entries.now c.loop-entry.entry-index c.entry-item.result c.in-Some.slot.now
    c.loop-entry-test.true c.entry-item.is (rw c.bytes.ensures.bytes at c.in-Some.ensures.slot) (c.if-is_some.ensures ∙ repeated)
    c.loop-entry.invariant.fault_is)

pub returns-in_err-value : goal.returns-in_err-value
returns-in_err-value g c =
    let repeated = is_repeated c.args.slots.now (take c.loop-entry.entry-index c.args.entries.now) c.entry-item.result.name c.in-Some.index
    c.in-Some.slot.now c.loop-entry.found.items c.index.result.now (rw c.bytes.ensures.bytes at c.in-Some.ensures.slot) c.in-Some.ensures.position
    c.index.ensures c.loop-entry.invariant.found_is in
    let p = err_from_is_err_and c.from_residual-in_err-value.result c.from_residual-in_err-value.ensures.1 in
    rw (p.1, p.2) (unfit (g.H.Heap.may_refuse c.args.heap) c.in_err-value.field-0.0 c.args.slots.now c.args.entries.now c.loop-entry.entry-index
    c.entry-item.result c.in-Some.slot.now c.loop-entry-test.true c.entry-item.is (rw c.bytes.ensures.bytes at c.in-Some.ensures.slot)
    (c.if-is_some.ensures ∙ repeated) c.in_err-value.ensures c.loop-entry.invariant.fault_is)

pub index_mut-requires : goal.index_mut-requires
index_mut-requires g c =
    let lt = within_found c.args.slots.now (take c.loop-entry.entry-index c.args.entries.now) c.loop-entry.found.items c.in-Some.index
    c.in-Some.slot.now c.loop-entry.invariant.found_is c.in-Some.ensures.position in
    omega (arith, lt)

pub loop-entry-preserved : goal.loop-entry-preserved
loop-entry-preserved g c =
    let repeated = is_repeated c.args.slots.now (take c.loop-entry.entry-index c.args.entries.now) c.entry-item.result.name c.in-Some.index
    c.in-Some.slot.now c.loop-entry.found.items c.index.result.now (rw c.bytes.ensures.bytes at c.in-Some.ensures.slot) c.in-Some.ensures.position
    c.index.ensures c.loop-entry.invariant.found_is in
    record {
      found_is = one_more c.args.slots.now c.args.entries.now c.loop-entry.entry-index c.entry-item.result c.in-Some.index c.in-Some.slot.now
          c.loop-entry.found.items c.in_ok-value.field-0 c.requires c.loop-entry-test.true c.entry-item.is
          (rw c.bytes.ensures.bytes at c.in-Some.ensures.slot) c.in-Some.ensures.position (c.if-is_some.ensures ∙ repeated) c.in_ok-value.ensures
          c.loop-entry.invariant.found_is;
      fault_is = breaks_none c.args.slots.now c.args.entries.now c.loop-entry.entry-index c.entry-item.result c.in-Some.slot.now c.in_ok-value.field-0
          c.loop-entry-test.true c.entry-item.is (rw c.bytes.ensures.bytes at c.in-Some.ensures.slot) (c.if-is_some.ensures ∙ repeated)
          c.in_ok-value.ensures c.loop-entry.invariant.fault_is;
    }

pub returns : goal.returns
returns g c = all_judged c.args.slots.now c.args.entries.now c.loop-entry.entry-index c.loop-entry.found.items c.loop-entry-test.false
    c.loop-entry.invariant.found_is c.loop-entry.invariant.fault_is

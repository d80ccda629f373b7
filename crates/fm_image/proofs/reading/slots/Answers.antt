use Rattle.std.{proofs.Common.{◌≡◌, ℕ, List, [], Ok, map, refl, sym, subst, ◌∙◌}, proofs.lemmas.Result.err_from_is_err_and}
use Rattle.fm_image.{specs.Rules.FailsUnless, specs.Fields.items_at, specs.Reading.{slot_at, slots_at}, proofs.ItemLaws.{goes_on, ends, is_done}}
use Rattle.fm_image.proofs.NameLaws.{named_more}
use Rattle.fm_image.proofs.reading.slots.Goals as goal

pub returns-in_err-next : goal.returns-in_err-next
unfolding slots_at
returns-in_err-next g c =
    let p = err_from_is_err_and c.from_residual-in_err-next.result c.from_residual-in_err-next.ensures.1 in
    let whole : slots_at c.args.end c.args.window c.args.left.now ≡ items_at (λ earlier. slot_at c.args.end c.args.window (map (λ x. x.name) earlier))
    c.in_ok-count.count [] c.in_ok-count.rest.now = rw c.in_ok-count.ensures refl in
    let failed = subst (λ (ns : List (List ℕ)). FailsUnless (g.H.Heap.may_refuse c.args.heap) c.in_err-next.field-0.0
    (slot_at c.args.end c.args.window ns c.loop.rest.now)) c.loop.invariant.known c.in_err-next.ensures.slot in
    rw (p.1, p.2) (ends (g.H.Heap.may_refuse c.args.heap) c.in_err-next.field-0.0
    (λ earlier. slot_at c.args.end c.args.window (map (λ x. x.name) earlier)) c.loop.slots.items c.in_ok-count.count c.loop.counter c.loop.rest.now
    (slots_at c.args.end c.args.window c.args.left.now) c.loop-test.true failed (c.loop.invariant.read ∙ sym whole))

pub loop-preserved : goal.loop-preserved
loop-preserved g c =
    let done = subst (λ (ns : List (List ℕ)). slot_at c.args.end c.args.window ns c.loop.rest.now ≡ Ok (c.in_ok-next.next, c.in_ok-next.after.now))
    c.loop.invariant.known c.in_ok-next.ensures.slot in
    record {
      read = rw c.in_ok-push.ensures.items (goes_on (λ earlier. slot_at c.args.end c.args.window (map (λ x. x.name) earlier)) c.loop.slots.items
          c.in_ok-count.count c.loop.counter c.loop.rest.now c.in_ok-next.next c.in_ok-next.after.now
          (items_at (λ earlier. slot_at c.args.end c.args.window (map (λ x. x.name) earlier)) c.in_ok-count.count [] c.in_ok-count.rest.now)
          c.loop-test.true done c.loop.invariant.read);
      known = named_more (λ x. x.name) c.loop.slots.items c.push.new.items.items c.in_ok-next.next _ _ c.in_ok-push.ensures.items
          c.in_ok-next.ensures.entered c.loop.invariant.known;
    }

pub returns : goal.returns
unfolding slots_at
returns g c =
    let whole : slots_at c.args.end c.args.window c.args.left.now ≡ items_at (λ earlier. slot_at c.args.end c.args.window (map (λ x. x.name) earlier))
    c.in_ok-count.count [] c.in_ok-count.rest.now = rw c.in_ok-count.ensures refl in
    is_done (λ earlier. slot_at c.args.end c.args.window (map (λ x. x.name) earlier)) c.loop.slots.items c.in_ok-count.count c.loop.counter
    c.loop.rest.now (slots_at c.args.end c.args.window c.args.left.now) c.loop-test.false (c.loop.invariant.read ∙ sym whole)

use Rattle.std.{proofs.Common.{◌≡◌, [], refl, sym, ◌∙◌}, proofs.lemmas.Result.err_from_is_err_and}
use Rattle.fm_image.{specs.Fields.items_at, specs.Limits.last_mark, specs.Reading.{mark_at, marks_at}, proofs.ItemLaws.{goes_on, stops, is_done}}
use Rattle.fm_image.proofs.reading.marks.Goals as goal

pub returns-in_err-next : goal.returns-in_err-next
unfolding marks_at
returns-in_err-next g c =
    let p = err_from_is_err_and c.from_residual-in_err-next.result c.from_residual-in_err-next.ensures.1 in
    let whole : marks_at c.args.end c.args.window c.args.procedures c.args.left.now
    ≡ items_at (λ earlier. mark_at c.args.end c.args.window c.args.procedures (last_mark earlier)) c.in_ok-count.count [] c.in_ok-count.rest.now =
    rw c.in_ok-count.ensures refl in
    rw (p.1, p.2) (stops (λ earlier. mark_at c.args.end c.args.window c.args.procedures (last_mark earlier)) c.loop.marks.items c.in_ok-count.count
    c.loop.counter c.loop.rest.now _ (marks_at c.args.end c.args.window c.args.procedures c.args.left.now) c.loop-test.true
    (rw (c.last_mark-before.ensures, c.deref.ensures.value) at c.in_err-next.ensures) (c.loop.invariant ∙ sym whole))

pub loop-preserved : goal.loop-preserved
loop-preserved g c =
    rw c.in_ok-push.ensures.items (goes_on (λ earlier. mark_at c.args.end c.args.window c.args.procedures (last_mark earlier)) c.loop.marks.items
    c.in_ok-count.count c.loop.counter c.loop.rest.now c.in_ok-next.next c.in_ok-next.after.now
    (items_at (λ earlier. mark_at c.args.end c.args.window c.args.procedures (last_mark earlier)) c.in_ok-count.count [] c.in_ok-count.rest.now)
    c.loop-test.true (rw (c.last_mark-before.ensures, c.deref.ensures.value) at c.in_ok-next.ensures) c.loop.invariant)

pub returns : goal.returns
unfolding marks_at
returns g c =
    let whole : marks_at c.args.end c.args.window c.args.procedures c.args.left.now
    ≡ items_at (λ earlier. mark_at c.args.end c.args.window c.args.procedures (last_mark earlier)) c.in_ok-count.count [] c.in_ok-count.rest.now =
    rw c.in_ok-count.ensures refl in
    is_done (λ earlier. mark_at c.args.end c.args.window c.args.procedures (last_mark earlier)) c.loop.marks.items c.in_ok-count.count c.loop.counter
    c.loop.rest.now (marks_at c.args.end c.args.window c.args.procedures c.args.left.now) c.loop-test.false (c.loop.invariant ∙ sym whole)

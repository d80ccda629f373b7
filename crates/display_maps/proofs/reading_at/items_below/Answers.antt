use Rattle.std.proofs.Common.{◌≡◌, ◌+◌, ◌-◌, ℕ, suc, Some, None, ap, sym, ◌∙◌, arith, rules}
use Rattle.stack_text.specs.Values.{item_count}
use Rattle.display_maps.{specs.Reading.item_of, specs.ReadingAt.{StandingOf, items_below}, proofs.StandingLaws.{joined, items_from, item_there, item_missing}}
use Rattle.display_maps.proofs.reading_at.items_below.Goals as goal

pub returns-in-None : goal.returns-in-None
returns-in-None g c =
    let run : StandingOf = g.S.Standing.standing c.args.run.now in
    let f = item_of c.args.shape.kind in
    let k : ℕ = c.args.index + c.loop-place.place in
    let index : c.from.result ≡ c.args.index = search rules in
    let none : run.below k ≡ None = ap (λ (i : ℕ). run.below (i + c.loop-place.place)) (sym index) ∙ sym c.in-None.ensures in
    let left : item_count c.args.shape - c.loop-place.place ≡ suc (item_count c.args.shape - (c.loop-place.place + 1)) =
    omega (arith, c.loop-place-test.true) in
    let so_far = ap (λ (n : ℕ). joined c.loop-place.items.items (items_from run f k n)) (sym left) ∙ c.loop-place.invariant in
    item_missing run f c.loop-place.items.items k (item_count c.args.shape - (c.loop-place.place + 1)) (items_below run c.args.index c.args.shape) none so_far

pub loop-place-preserved : goal.loop-place-preserved
loop-place-preserved g c =
    let run : StandingOf = g.S.Standing.standing c.args.run.now in
    let f = item_of c.args.shape.kind in
    let k : ℕ = c.args.index + c.loop-place.place in
    let index : c.from.result ≡ c.args.index = search rules in
    let some : run.below k ≡ Some c.in-Some.word = ap (λ (i : ℕ). run.below (i + c.loop-place.place)) (sym index) ∙ sym c.in-Some.ensures in
    let left : item_count c.args.shape - c.loop-place.place ≡ suc (item_count c.args.shape - (c.loop-place.place + 1)) =
    omega (arith, c.loop-place-test.true) in
    let so_far = ap (λ (n : ℕ). joined c.loop-place.items.items (items_from run f k n)) (sym left) ∙ c.loop-place.invariant in
    let next : c.args.index + (c.loop-place.place + 1) ≡ k + 1 = omega arith in
    let item : c.item_of.result ≡ f c.in-Some.word = search rules in
    let there = item_there run f c.loop-place.items.items k (item_count c.args.shape - (c.loop-place.place + 1)) c.in-Some.word
    (items_below run c.args.index c.args.shape) some so_far in
    rw (c.in_ok-push-in-Some.ensures.items, item, next) there

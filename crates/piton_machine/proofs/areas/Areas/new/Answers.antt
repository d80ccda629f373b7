use Rattle.std.{proofs.Common.{◌≡◌, ◌∙◌, ◌<◌, ap, sym, length, map, arith, rules, get_or, []}, specs.Prelude.◌^◌}
use Rattle.piton_semantics.specs.StateView.{words_in}
use Rattle.piton_machine.proofs.AreaLaws.{area_at, copied_more, sized_more}
use Rattle.piton_machine.proofs.areas.Areas.new.Goals as goal

pub overflow_cast-len : goal.overflow_cast-len
overflow_cast-len g c =
    let area = c.area-item.result in
    let there = area_at c.args.areas.now c.loop-area.area-index area c.loop-area-test.true in
    let same : length (get_or (map words_in c.args.areas.now) c.loop-area.area-index []) ≡ length (words_in area) =
    ap length (there ∙ ap words_in (sym c.area-item.is)) in
    let bound : c.len.result < 2 ^ 32 = omega (arith, c.requires c.loop-area.area-index, same, c.len.ensures, area.ok.0) in
    search rules

pub loop-area-preserved : goal.loop-area-preserved
loop-area-preserved g c =
    let area = c.area-item.result in
    let copy = c.in_ok-copied.field-0 in
    let same : words_in copy ≡ words_in area = c.in_ok-copied.ensures.items ∙ c.as_slice.ensures.value in
    let size : c.len.result ≡ length (words_in copy) = c.len.ensures ∙ area.ok.0 ∙ ap length (sym same) in
    record {
      copied = rw c.in_ok-push-2.ensures.items
          (copied_more c.loop-area.copies.items c.args.areas.now c.loop-area.area-index area copy c.loop-area-test.true c.loop-area.invariant.copied
          c.area-item.is same);
      sized = rw (c.in_ok-push-2.ensures.items, c.in_ok-push.ensures.items)
          (sized_more c.loop-area.copies.items c.loop-area.lengths.items copy c.len.result c.loop-area.invariant.sized size);
    }

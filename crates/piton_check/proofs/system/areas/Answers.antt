use Rattle.std.{proofs.Common.{ap, map, ◌∙◌}, specs.List.flat_map}
use Rattle.stack_text.{specs.Breaches.{lesser_of, least}, proofs.BreachLaws.notes_next}
use Rattle.piton_check.{specs.Resolved.{resolved_word, resolved_area}, specs.Violations.{word_breaches, area_breaches}, proofs.ListLaws.seen_next}
use Rattle.piton_check.proofs.system.areas.Goals as goal

pub loop-text-preserved : goal.loop-text-preserved
loop-text-preserved g c =
    let s = c.args.names.now.system.now in
    let words_are = c.deref.ensures.value ∙ ap (λ a. a.words) c.text.view_is in
    record {
      value = seen_next (λ words. words.items) (resolved_area s) c.args.texts.now c.loop-text.text-index c.text-item.result c.in_ok-words.field-0
          c.loop-text.areas.items c.push.new.items.items
          c.loop-text-test.true c.text-item.is c.loop-text.invariant.value (c.in_ok-words.ensures.value ∙ ap (map (resolved_word s)) words_are)
          c.in_ok-push.ensures.items;
      noted = notes_next (area_breaches s) c.args.texts.now c.loop-text.text-index c.text-item.result c.args.best.now c.loop-text.best c.words.new.best
          c.loop-text-test.true c.text-item.is c.loop-text.invariant.noted
          (c.in_ok-words.ensures.noted ∙ ap (λ ws. lesser_of c.loop-text.best (least (flat_map (word_breaches s) ws))) words_are);
    }

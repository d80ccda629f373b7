use Rattle.piton_check.{specs.Resolved.resolved_word, specs.Violations.word_breaches, proofs.ListLaws.mapped_next}
use Rattle.stack_text.proofs.BreachLaws.{notes_next}
use Rattle.piton_check.proofs.word.words.Goals as goal

pub loop-text-preserved : goal.loop-text-preserved
loop-text-preserved g c = record {
  value = mapped_next (resolved_word c.args.names.now.system.now) c.args.texts.now c.loop-text.text-index c.text-item.result c.word.result
      c.loop-text.words.items c.push.new.items.items
      c.loop-text-test.true c.text-item.is c.loop-text.invariant.value c.word.ensures.value c.in_ok-push.ensures.items;
  noted = notes_next (word_breaches c.args.names.now.system.now) c.args.texts.now c.loop-text.text-index c.text-item.result c.args.best.now
      c.loop-text.best c.word.new.best
      c.loop-text-test.true c.text-item.is c.loop-text.invariant.noted c.word.ensures.noted;
}

use Rattle.piton_check.{specs.Resolved.resolved_temporary, specs.Violations.temporary_breaches, proofs.ListLaws.mapped_next}
use Rattle.stack_text.proofs.BreachLaws.{notes_next}
use Rattle.piton_check.proofs.word.temporary_words.Goals as goal

pub loop-temporary-preserved : goal.loop-temporary-preserved
loop-temporary-preserved g c = record {
  value = mapped_next (resolved_temporary c.args.names.now.system.now) c.args.temporaries.now c.loop-temporary.temporary-index c.temporary-item.result
      c.word.result c.loop-temporary.words.items c.push.new.items.items
      c.loop-temporary-test.true c.temporary-item.is c.loop-temporary.invariant.value c.word.ensures.value c.in_ok-push.ensures.items;
  noted = notes_next (temporary_breaches c.args.names.now.system.now) c.args.temporaries.now c.loop-temporary.temporary-index c.temporary-item.result
      c.args.best.now c.loop-temporary.best c.word.new.best
      c.loop-temporary-test.true c.temporary-item.is c.loop-temporary.invariant.noted c.word.ensures.noted;
}
